-- none of the pins so far has the name
use Rattle.std.proofs.Common.{◌≡◌, drop}
use Rattle.rtl_ir.specs.Parameters.{signal_at}
use Rattle.rtl_ir.proofs.parameters.signal_at.Given as goal

abbrev pub invariant-loop-pin : goal.invariant-loop-pin
invariant-loop-pin l = signal_at l.pins l.name ≡ signal_at (drop l.pin-index l.pins) l.name
