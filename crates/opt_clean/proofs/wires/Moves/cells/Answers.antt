use Rattle.std.proofs.Common.{arith}
use Rattle.std.proofs.lemmas.Grind.{common_steps}
use Rattle.opt_clean.proofs.wires.Moves.cells.Goals as goal

pub loop-cell-preserved : goal.loop-cell-preserved
loop-cell-preserved c = λ marks are. grind (arith, common_steps, c.loop-cell.invariant marks are, c.in_ok-cell.ensures.value marks are, c.in_ok-push.ensures.items, c.in-Some.ensures.steps)

pub returns : goal.returns
returns c = record { value = λ marks are. grind (arith, common_steps, c.loop-cell.invariant marks are, c.in-None.ensures.steps) }
