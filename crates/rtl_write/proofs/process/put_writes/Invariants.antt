use Rattle.std.proofs.Common.{◌≡◌, ◌++◌, take}
use Rattle.std.specs.List.{flat_map}
use Rattle.rtl_write.specs.Text.{write_text}
use Rattle.rtl_write.proofs.process.put_writes.Given as goal

-- what was passed so far is written
abbrev pub invariant-loop-line : goal.invariant-loop-line
invariant-loop-line l = l.out ≡ l.initial.out ++ flat_map (write_text l.wires) (take l.line-index l.lines)
