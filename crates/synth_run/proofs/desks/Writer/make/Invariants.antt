use Rattle.std.proofs.Common.{◌≡◌, ◌++◌, drop, map}
use Rattle.synth_run.proofs.desks.Writer.make.Given as goal

-- the replies of the desks so far, and those of the others
abbrev pub invariant-loop-replies : goal.invariant-loop-replies
invariant-loop-replies l = map (λ replies. replies.now) l.left.items ++ drop l.replies-index l.desks ≡ l.desks
