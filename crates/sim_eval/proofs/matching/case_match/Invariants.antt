-- Whether one of the patterns from the place on matches.
use Rattle.std.proofs.Common.{◌≡◌, drop}
use Rattle.sim_eval.specs.Trees.{number_case_match}
use Rattle.sim_eval.proofs.matching.case_match.Given as goal

abbrev pub invariant-loop-at : goal.invariant-loop-at
invariant-loop-at l = l.one ≡ number_case_match l.values l.signal (drop l.at l.patterns)
