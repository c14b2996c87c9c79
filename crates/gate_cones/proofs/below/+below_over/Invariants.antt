-- Each call has one open leaf less.
use Rattle.std.proofs.Common.{length}
use Rattle.gate_cones.proofs.below.+below_over.Given as goal

abbrev pub decreases-below_over : goal.decreases-below_over
decreases-below_over l = length l.open.now
