use Rattle.std.proofs.Common.{◌≡◌, List, Some, None, refl, subst}
use Rattle.std.proofs.lemmas.Result.{on_ok_weaker}
use Rattle.cell_types.specs.Kind.{kind_of}
use Rattle.rtl_ir.specs.declared.cell.Cell.{Cell}
use Rattle.rtl_ir.specs.declared.module.Module.{Module}
use Rattle.rtl_ir.specs.Faults.Cells.{faults_by_type}
use Rattle.rtl_ir.specs.Scope.{everything}
use Rattle.memory_check.specs.Memories.{KnowsCells}
use Rattle.memory_check.proofs.Standing.{no_port}
use Rattle.net_index.specs.Types.{IsType}
use Rattle.rtl_check.specs.Finds.{Finds}
use Rattle.rtl_check.specs.Named.{Names}
use Rattle.rtl_check.proofs.CellLemmas.{always_ok, instance_type, library_type, no_write}
use Rattle.rtl_check.proofs.cells.check_cell.Goals as goal

pub returns-in-Library : goal.returns-in-Library
returns-in-Library c =
    let kind = c.in-Library.kind in
    let cell = c.args.cell.now in
    record {
      first = λ type is. library_type kind type (subst (λ t. IsType t type) c.in-Library.is is)
          (λ t. (m : Module) → m.id ≡ c.args.id.now → (earlier : List Cell) → KnowsCells c.args.memories.now m earlier → Finds c.check_library_cell.result (faults_by_type everything m earlier cell t)) c.check_library_cell.ensures.first;
      noted = on_ok_weaker c.check_library_cell.result
          (λ h type is names m earlier knows. h (library_type kind type (subst (λ t. IsType t type) c.in-Library.is is) (λ t. Names cell.kind_name t → kind_of cell.kind_name ≡ Some kind) (λ n. n) names) m earlier knows)
          c.check_library_cell.ensures.noted;
    }

pub returns-in-Instance : goal.returns-in-Instance
returns-in-Instance c =
    let cell = c.args.cell.now in
    record {
      first = λ type is. instance_type c.in-Instance.ports type (subst (λ t. IsType t type) c.in-Instance.is is)
          (λ t. (m : Module) → m.id ≡ c.args.id.now → (earlier : List Cell) → KnowsCells c.args.memories.now m earlier → Finds c.check_instance.result (faults_by_type everything m earlier cell t))
          (λ lines are m id earlier knows. c.check_instance.ensures.first lines are m id earlier);
      noted = always_ok c.check_instance.result
          (λ type is names m earlier knows.
          no_port m earlier cell c.args.memories.now
          (no_write cell None (instance_type c.in-Instance.ports type (subst (λ t. IsType t type) c.in-Instance.is is) (λ t. Names cell.kind_name t → kind_of cell.kind_name ≡ None) (λ lines are n. n) names) refl) knows);
    }
