use Rattle.std.proofs.Common.{◌≡◌, ◌++◌, take}
use Rattle.std.specs.List.{flat_map}
use Rattle.rtl_write.specs.Text.{wire_text}
use Rattle.rtl_write.proofs.whole.put_wires.Given as goal

-- what was passed so far is written
abbrev pub invariant-loop-wire : goal.invariant-loop-wire
invariant-loop-wire l = l.out ≡ l.initial.out ++ flat_map wire_text (take l.wire-index l.wires)
