-- What the step promises of a module that may be given.
use Rattle.std.proofs.Common.{[], refl}
use Rattle.rtl_ir.specs.declared.module.Module.{Module}
use Rattle.rtl_ir.specs.declared.ports.PortTable.{PortTable}
use Rattle.rtl_ir.specs.Flat.Tree as flat
use Rattle.rtl_ir.specs.Scope.{Scope, with_processes}
use Rattle.rtl_ir.specs.Types.{Ports, table_ports}
use Rattle.net_model.specs.Proc.Reset.{proc_reset_of}
use Rattle.pass_laws.proofs.Faultless.{no_faults}
use Rattle.proc_laws.specs.Ready.{AreRuled, HasItsBits, HaveNoStarts, IsReady}
use Rattle.reset_laws.specs.Trees.{TreesHaveBits}
use Rattle.reset_laws.proofs.FormModule.{reset_edges, reset_placed, reset_ready, reset_starts, reset_trees}
use Rattle.reset_laws.proofs.StepTurn.{resets_refine}
use Rattle.process_trees.specs.Fitting.{DoCellsFit}
use Rattle.process_trees.proofs.Faultless.{faultless_cells}
use Rattle.proc_reset.specs.Promise.{Levels}

-- its cells have no faults
pub cells_fit : (scope : Scope) (ports : Ports) (m : Module) → IsReady scope ports m → DoCellsFit ports m
cells_fit scope ports m ready = faultless_cells scope ports m (no_faults scope ports m ready.faultless).cells

-- of a module that may be given, with its bits in their wires
pub levels : (table : PortTable) (m : Module) → IsReady with_processes (table_ports table.modules) m → AreRuled m → HaveNoStarts m → HasItsBits m → TreesHaveBits m → Levels table m (proc_reset_of (table_ports table.modules) m)
levels table m ready ruled starts placed trees =
    let P : Ports = table_ports table.modules in
    let good = (resets_refine P m ready placed trees starts ruled (flat.table_ports table)).0 in
    record {
      step = record { refines = good.refines; driven = λ over h. good.driven over h; id = refl; ports = refl; instances = refl };
      ready = reset_ready P m ready placed trees starts ruled;
      ruled = λ q i. ((resets_refine P m ready placed trees starts ruled (λ id. [])).1 q i).ruled;
      starts = reset_starts P m ready placed trees starts ruled;
      placed = reset_placed P m ready placed trees starts ruled;
      trees = reset_trees P m ready placed trees starts ruled;
      edges = reset_edges P m ready placed trees starts ruled;
    }
