use Rattle.cell_word.proofs.arithmetic.sum.Goals as goal
use Rattle.cell_word.proofs.Signs.{wrapped_sum}

pub returns-then-a-b : goal.returns-then-a-b
returns-then-a-b c = record {
  value = wrapped_sum c.args.a.negative c.args.b.negative c.args.a.size c.args.b.size c.if-a-b.true;
}
