use Rattle.std.proofs.Common.{arith}
use Rattle.desk_core.proofs.Compacting.{aged_only, kept_count}
use Rattle.desk_core.proofs.ages.Ages.compact.Goals as goal
use Rattle.desk_core.proofs.ages.Ages.compact.Goals.{else-unaged-gt-FEW-via-then-unaged-gt-FEW+else-unaged-aged, else-unaged-gt-FEW-via-else-unaged-gt-FEW}

pub returns-in_ok-self-clause-beside : goal.returns-in_ok-self-clause-beside
returns-in_ok-self-clause-beside c = (aged_only _ _ _ _ c.count.ensures.distinct c.requires.beside c.in_ok-self.ensures.keys c.in_ok-self.ensures.ages).beside

pub returns-in_ok-self-clause-kept : goal.returns-in_ok-self-clause-kept
returns-in_ok-self-clause-kept c = (aged_only _ _ _ _ c.count.ensures.distinct c.requires.beside c.in_ok-self.ensures.keys c.in_ok-self.ensures.ages).kept

pub returns-in_ok-self-clause-young : goal.returns-in_ok-self-clause-young
returns-in_ok-self-clause-young c = (aged_only _ _ _ _ c.count.ensures.distinct c.requires.beside c.in_ok-self.ensures.keys c.in_ok-self.ensures.ages).young

pub returns-in_ok-self-clause-few : goal.returns-in_ok-self-clause-few
returns-in_ok-self-clause-few c = (aged_only _ _ _ _ c.count.ensures.distinct c.requires.beside c.in_ok-self.ensures.keys c.in_ok-self.ensures.ages).few

pub returns-else-unaged-gt-FEW-clause-few : goal.returns-else-unaged-gt-FEW-clause-few
returns-else-unaged-gt-FEW-clause-few c =
    let kept = kept_count c.args.self.now.keys c.args.self.now.ages.items c.count.ensures.distinct c.requires.beside in
    let unaged = c.unaged_count-unaged.ensures.value in
    let count = c.count.ensures.value in
    elim c.else-unaged-gt-FEW.branch [
      | else-unaged-gt-FEW-via-then-unaged-gt-FEW+else-unaged-aged w ↦ omega (arith, kept, unaged, count, w.if-unaged-aged.false)
      | else-unaged-gt-FEW-via-else-unaged-gt-FEW w ↦ omega (arith, kept, unaged, count, w.if-unaged-gt-FEW.false)
    ]
