-- It is a step, on a module that it may be given, where no process has two rules at edges.
use Rattle.std.proofs.Common.{◌≤◌, ap, sym}
use Rattle.rtl_ir.specs.Scope.{with_processes}
use Rattle.rtl_ir.specs.Types.{Ports, table_ports}
use Rattle.rtl_ir.specs.declared.module.Module.{Module}
use Rattle.rtl_ir.specs.declared.ports.PortTable.{PortTable}
use Rattle.net_model.specs.Proc.Latch.{proc_latch_of}
use Rattle.proc_laws.specs.Ready.{AreRuled, IsReady}
use Rattle.proc_laws.specs.Kinds.{HaveNoTwoEdges}
use Rattle.latch_laws.proofs.Formed as formed
use Rattle.pass_laws.specs.Pass.{KeepsInterface}
use Rattle.proc_laws.specs.Step.{IsStep}
use Rattle.latch_laws.proofs.RowsMet as refining
use Rattle.proc_latch.specs.Limits.{latched}

module _ (table : PortTable) (m : Module) (ready : IsReady with_processes (table_ports table.modules) m) where
  pub latch_keeps : KeepsInterface m (proc_latch_of m)
  latch_keeps =
      let P : Ports = table_ports table.modules in
      record {
        id = sym (ap (λ (b : Module). b.id) (formed.latch_is P m ready));
        ports = formed.latch_ports P m ready;
        instances = formed.latch_instances P m ready;
      }

  pub latch_step : (latched m).next ≤ 1000000000 → AreRuled m → HaveNoTwoEdges m → IsStep table m (proc_latch_of m)
  latch_step few ruled edges = record {
    refines = refining.refines table m ready ruled edges;
    driven = λ over h. formed.latch_driven (table_ports table.modules) m ready few edges over h;
    id = latch_keeps.id;
    ports = latch_keeps.ports;
    instances = latch_keeps.instances;
  }
