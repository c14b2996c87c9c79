use Rattle.desk_core.proofs.Going.{one_reply_more}
use Rattle.desk_core.proofs.laws.replies_go_on.Goals as goal

pub returns-clause-one_more : goal.returns-clause-one_more
returns-clause-one_more c = one_reply_more
