use Rattle.std.proofs.Common.{sym, ap}
use Rattle.rtl_ir.specs.declared.module.Module.{Module}
use Rattle.latch_laws.proofs.Formed.{latch_driven, latch_instances, latch_is, latch_ports, latch_ready}
use Rattle.latch_laws.proofs.forming.latches_fit.Goals as goal

pub returns : goal.returns
returns c = record {
  same_id = λ ports m ready. sym (ap (λ (b : Module). b.id) (latch_is ports m ready));
  same_ports = latch_ports;
  same_instances = latch_instances;
  driven = λ ports over m ready few edges h. latch_driven ports m ready few edges over h;
  ready = latch_ready;
}
