use Rattle.std.proofs.Common.{◌≡◌, ◌++◌, map, take}
use Rattle.cell_word.specs.Parts.{placed_bit}
use Rattle.cell_word.proofs.parts.push_part.Given as goal

-- the bits so far
abbrev pub invariant-loop-bit : goal.invariant-loop-bit
invariant-loop-bit l = l.bits ≡ l.initial.bits ++ map (placed_bit l.s l.part) (take l.bit-index l.a)
