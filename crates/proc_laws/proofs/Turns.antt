-- Steps in turn.
use Rattle.std.proofs.Common.{refl, ◌∙◌}
use Rattle.rtl_ir.specs.Flat.Tree as flat
use Rattle.rtl_ir.specs.Scope.{without_processes}
use Rattle.rtl_ir.specs.Types.{table_ports}
use Rattle.rtl_ir.specs.declared.module.Module.{Module}
use Rattle.rtl_ir.specs.declared.ports.PortTable.{PortTable}
use Rattle.net_model.proofs.Composing.{RefinesOver_refl}
use Rattle.pass_laws.specs.Pass.{IsPass}
use Rattle.pass_laws.proofs.Passes.{refines_in_turn}
use Rattle.proc_laws.specs.Ready.{IsReady}
use Rattle.proc_laws.specs.Step.{IsStep}

pub IsStep_refl : (table : PortTable) (m : Module) → IsStep table m m
IsStep_refl table m = record {
  refines = RefinesOver_refl m (flat.table_ports table);
  driven = λ over h. h;
  id = refl;
  ports = refl;
  instances = refl;
}

pub IsStep_trans : (table : PortTable) (a b c : Module) → IsStep table a b → IsStep table b c → IsStep table a c
IsStep_trans table a b c h k = record {
  refines = refines_in_turn a b c (flat.table_ports table) h.id h.ports h.instances (λ over agree fine. h.driven over fine) h.refines k.refines;
  driven = λ over fine. k.driven over (h.driven over fine);
  id = h.id ∙ k.id;
  ports = h.ports ∙ k.ports;
  instances = h.instances ∙ k.instances;
}

-- a step whose answer may be given to a pass is a pass itself
pub step_passes : (table : PortTable) (m n : Module) → IsStep table m n → IsReady without_processes (table_ports table.modules) n → IsPass table m n
step_passes table m n h ready = record {
  refines = h.refines;
  ready = λ _. ready;
  driven = λ over agree fine. h.driven over fine;
  id = h.id;
  ports = h.ports;
  instances = h.instances;
}
