use Rattle.std.proofs.Common.{◌≡◌}
use Rattle.cell_word.specs.Parts.{placed_parts}
use Rattle.cell_word.proofs.parts.demuxed.Given as goal

-- the parts so far
abbrev pub invariant-loop-part : goal.invariant-loop-part
invariant-loop-part l = l.bits ≡ placed_parts l.a l.s l.part
