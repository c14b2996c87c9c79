-- The rules so far and those of the rest are all.
use Rattle.std.proofs.Common.{◌≡◌, ◌++◌, drop}
use Rattle.net_model.specs.Proc.Reset.{with_reset}
use Rattle.proc_reset.proofs.rule.with_reset.Given as goal

abbrev pub invariant-loop-old : goal.invariant-loop-old
invariant-loop-old l = l.made.items ++ with_reset l.bit l.rule (drop l.old-index l.rules) ≡ with_reset l.bit l.rule l.rules
