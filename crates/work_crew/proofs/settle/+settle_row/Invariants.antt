use Rattle.std.proofs.Common.{vec_len}
use Rattle.work_crew.proofs.settle.+settle_row.Given as goal

abbrev pub decreases-settle_row : goal.decreases-settle_row
decreases-settle_row l = vec_len l.row.now
