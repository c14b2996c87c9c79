use Rattle.std.proofs.Common.{◌++◌, ◌∷◌, [], ◌∙◌}
use Rattle.mem_gather.specs.Tables.{start_bit}
use Rattle.mem_gather.proofs.Tabling.{one_more}
use Rattle.mem_gather.proofs.starts.start_word.Goals as goal

pub loop-at-preserved : goal.loop-at-preserved
loop-at-preserved c =
    c.in_ok-push.ensures.ok
    ∙ (λ i. c.loop-at.invariant i ++ c.start_bit.ensures.value i ∷ [])
    ∙ one_more (start_bit c.args.width c.args.cell.now c.args.number c.args.old.now) c.loop-at.at
