use Rattle.std.proofs.Common.{◌≡◌, drop}
use Rattle.cell_word.specs.Parts.{may_be}
use Rattle.cell_word.proofs.parts.may_be.Given as goal

-- the bits so far do not differ
abbrev pub invariant-loop-bit : goal.invariant-loop-bit
invariant-loop-bit l = may_be l.bits l.number ≡ may_be (drop l.bit-index l.bits) l.rest
