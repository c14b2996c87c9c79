use Rattle.std.proofs.Common.{◌∙◌, arith}
use Rattle.flat_net.proofs.Adding.{Joins-next, Adds-joins}
use Rattle.flat_net.proofs.builder.Builder.join.Goals as goal

pub loop-at-preserved : goal.loop-at-preserved
loop-at-preserved c = record {
  places = c.join_bit.ensures.places ∙ c.loop-at.invariant.places;
  joins = Joins-next _ _ _ _ _ _ _ _ (omega arith) (omega arith) c.loop-at.invariant.joins c.in_ok-join_bit.ensures.joins;
}

pub returns-clause-rows : goal.returns-clause-rows
returns-clause-rows c = Adds-joins _ _ _ _ c.loop-at.at c.loop-at.invariant.places (omega arith) c.loop-at.invariant.joins
