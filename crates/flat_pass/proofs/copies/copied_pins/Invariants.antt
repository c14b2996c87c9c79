-- The copies of the pins so far.
use Rattle.std.proofs.Common.{◌≡◌, map, take}
use Rattle.flat_pass.specs.Copies.{copied_pin}
use Rattle.flat_pass.proofs.copies.copied_pins.Given as goal

abbrev pub invariant-loop-pin : goal.invariant-loop-pin
invariant-loop-pin l = l.copies.items ≡ map (copied_pin l.first) (take l.pin-index l.pins)
