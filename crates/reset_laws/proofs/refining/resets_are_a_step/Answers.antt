use Rattle.std.proofs.Common.{refl}
use Rattle.rtl_ir.specs.Flat.Tree as flat
use Rattle.rtl_ir.specs.Types.{table_ports}
use Rattle.reset_laws.proofs.StepTurn.{resets_refine}
use Rattle.reset_laws.proofs.refining.resets_are_a_step.Goals as goal

pub returns : goal.returns
returns c = record {
  step = λ table m ready ruled starts placed trees.
      let good = (resets_refine (table_ports table.modules) m ready placed trees starts ruled (flat.table_ports table)).0 in
      record { id = refl; ports = refl; instances = refl; driven = λ over h. good.driven over h; refines = good.refines };
}
