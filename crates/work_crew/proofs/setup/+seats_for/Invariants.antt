use Rattle.std.proofs.Common.{vec_len}
use Rattle.work_crew.proofs.setup.+seats_for.Given as goal

abbrev pub decreases-seats_for : goal.decreases-seats_for
decreases-seats_for g l = vec_len l.owners.now
