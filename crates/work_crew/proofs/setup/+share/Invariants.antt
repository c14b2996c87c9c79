use Rattle.std.proofs.Common.{vec_len}
use Rattle.work_crew.proofs.setup.+share.Given as goal

abbrev pub decreases-share : goal.decreases-share
decreases-share l = vec_len l.owners.now
