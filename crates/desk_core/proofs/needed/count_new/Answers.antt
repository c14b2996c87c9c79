use Rattle.std.proofs.Common.{arith}
use Rattle.desk_core.proofs.Aging.{new_end}
use Rattle.desk_core.proofs.needed.count_new.Goals as goal

pub returns : goal.returns
returns c =
    let test = c.loop-at-test.false in
    let least = c.min-at-end.ensures in
    let end = new_end c.loop-at.at c.args.marks.now c.args.ages.now (omega (arith, test, least)) in
    let all = c.loop-at.invariant.all in
    record { value = omega (arith, end, all) }
