use Rattle.std.proofs.Common.{◌≤◌, ◌⊎◌, length, arith}
use Rattle.proc_latch.proofs.Placing.{places_end}
use Rattle.proc_latch.proofs.sources.Sources.put_line.Goals as goal

pub returns : goal.returns
returns c =
    let past : (length c.args.left.now ≤ c.loop-at.at) ⊎ (length c.args.right.now ≤ c.loop-at.at) = grind (arith, c.min-at-end.ensures, c.loop-at-test.false) in
    record { ok = λ b. places_end b c.args.node c.args.left.now c.args.right.now c.loop-at.at past _ _ (c.loop-at.invariant b) }
