use Rattle.follow_laws.proofs.Passing.{followed_all, followed_one, followed_some}
use Rattle.follow_laws.proofs.laws.inputs_may_be_followed.Goals as goal

pub returns : goal.returns
returns c = record { one = followed_one; all = followed_all; some = followed_some }
