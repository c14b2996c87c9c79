-- Whether the places from this one on match.
use Rattle.std.proofs.Common.{◌≡◌, drop}
use Rattle.sim_eval.specs.Trees.{number_pattern_match}
use Rattle.sim_eval.proofs.matching.pattern_match.Given as goal

abbrev pub invariant-loop-at : goal.invariant-loop-at
invariant-loop-at l = l.all ≡ number_pattern_match l.values (drop l.at l.signal) (drop l.at l.pattern)
