use Rattle.std.proofs.Common.{◌≡◌, ◌++◌, take}
use Rattle.std.specs.List.{flat_map}
use Rattle.rtl_write.specs.Text.{pin_text}
use Rattle.rtl_write.proofs.statement.put_pins.Given as goal

-- what was passed so far is written
abbrev pub invariant-loop-pin : goal.invariant-loop-pin
invariant-loop-pin l = l.out ≡ l.initial.out ++ flat_map (pin_text l.wires) (take l.pin-index l.pins)
