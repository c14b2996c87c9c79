use Rattle.std.proofs.Common.{sym, ap}
use Rattle.rtl_ir.specs.declared.module.Module.{Module}
use Rattle.mux_laws.proofs.FormingModule.{mux_driven, mux_instances, mux_is, mux_ports, mux_ready}
use Rattle.mux_laws.proofs.forming.multiplexers_fit.Goals as goal

pub returns : goal.returns
returns c = record {
  same_id = λ ports m ready. sym (ap (λ (b : Module). b.id) (mux_is ports m ready));
  same_ports = mux_ports;
  same_instances = mux_instances;
  driven = λ ports over m ready few h. mux_driven ports m ready few over h;
  ready = mux_ready;
}
