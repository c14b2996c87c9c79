-- The word so far is that of the columns so far.
use Rattle.std.proofs.Common.{◌≡◌, map, take}
use Rattle.sim_eval.specs.Fetched.{number_fetched}
use Rattle.sim_eval.proofs.fetched.word_of.Given as goal

abbrev pub invariant-loop-column : goal.invariant-loop-column
invariant-loop-column l = l.word ≡ map (number_fetched l.values l.fetched.first l.address) (take l.column-index l.fetched.columns)
