use Rattle.std.proofs.Common.{◌≡◌, ◌+◌, true, drop}
use Rattle.rtl_write.specs.Bodies.{line_at}
use Rattle.rtl_write.proofs.bodies.line_at.Given as goal

-- what was passed, and what stands before the line from here on
abbrev pub invariant-loop-at : goal.invariant-loop-at
invariant-loop-at l = l.at + line_at l.first l.start (drop l.at l.text) ≡ line_at l.first true l.text
