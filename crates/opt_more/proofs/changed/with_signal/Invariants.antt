-- The pins so far.
use Rattle.std.proofs.Common.{◌≡◌, ◌++◌, drop, map}
use Rattle.opt_more.specs.Changed.{repinned}
use Rattle.opt_more.proofs.changed.with_signal.Given as goal

abbrev pub invariant-loop-pin : goal.invariant-loop-pin
invariant-loop-pin l = l.after.items ++ map (repinned l.name l.signal) (drop l.pin-index l.pins) ≡ map (repinned l.name l.signal) l.pins
