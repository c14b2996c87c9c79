-- What the points so far have.
use Rattle.std.proofs.Common.{◌≡◌, map, take}
use Rattle.sim_eval.specs.Numbers.{number_read}
use Rattle.sim_eval.proofs.values.read_all.Given as goal

abbrev pub invariant-loop-point : goal.invariant-loop-point
invariant-loop-point l = l.word ≡ map (number_read l.values) (take l.point-index l.points)
