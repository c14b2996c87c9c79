use Rattle.std.proofs.Common.{◌+◌, ◌*◌, length, max}
use Rattle.work_crew.proofs.pairs.+pairs.Given as goal

abbrev pub decreases-both_halves : goal.decreases-both_halves
decreases-both_halves g l = max (length l.front.now) (length l.back.now) * 3 + 2

abbrev pub decreases-both_halves-one : goal.decreases-both_halves-one
decreases-both_halves-one g l = length l.front.now * 3 + 1

abbrev pub decreases-both_halves-two : goal.decreases-both_halves-two
decreases-both_halves-two g l = length l.back.now * 3 + 1

abbrev pub decreases-for_each_pair : goal.decreases-for_each_pair
decreases-for_each_pair g l = length l.tokens.now * 3
