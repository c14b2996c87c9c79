-- The port may follow those so far.
use Rattle.std.proofs.Common.{◌≡◌, drop}
use Rattle.sim_eval.specs.Written.{follows_all}
use Rattle.sim_eval.proofs.written.followed_by.Given as goal

abbrev pub invariant-loop-writer : goal.invariant-loop-writer
invariant-loop-writer l = follows_all l.port.mask l.writers ≡ follows_all l.port.mask (drop l.writer-index l.writers)
