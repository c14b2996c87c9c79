use Rattle.std.proofs.Common.{◌∙◌, ap}
use Rattle.rtl_ir.specs.Parameters.{signal_at}
use Rattle.flat_pass.proofs.ports.port_pin.Goals as goal

pub returns : goal.returns
returns c = record { value = c.pin_at.ensures.value ∙ ap (signal_at c.args.pins.now) c.as_slice.ensures.value }
