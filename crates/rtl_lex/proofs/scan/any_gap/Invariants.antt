use Rattle.std.proofs.Common.{◌≡◌, ◌+◌, drop, false}
use Rattle.rtl_lex.specs.Gaps.{gap}
use Rattle.rtl_lex.proofs.scan.any_gap.Given as goal

abbrev pub invariant-loop-count : goal.invariant-loop-count
invariant-loop-count l = l.count + gap l.over l.note (drop l.count l.bytes) ≡ gap l.over false l.bytes
