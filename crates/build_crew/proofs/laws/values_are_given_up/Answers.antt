use Rattle.build_crew.proofs.Forgetting.{forgotten}
use Rattle.build_crew.proofs.laws.values_are_given_up.Goals as goal

pub returns : goal.returns
returns g c = record {
  left = λ cache shards gone first mid others news f. forgotten g.row.V.Denot g.V.Keyed.stands_for cache shards gone first mid others news f;
}
