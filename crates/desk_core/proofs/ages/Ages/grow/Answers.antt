use Rattle.std.proofs.Common.{◌≡◌, ℕ, length, ap, ◌∙◌, arith}
use Rattle.desk_core.proofs.Giving.{grown_all, grown_at, grown_to}
use Rattle.desk_core.proofs.ages.Ages.grow.Goals as goal

pub loop-at-preserved : goal.loop-at-preserved
loop-at-preserved c =
    let test = c.loop-at-test.true in
    let end = c.loop-at.auto.at-end in
    record {
      keys = c.loop-at.invariant.keys;
      ages = grown_at c.loop-at.at c.args.marks.now c.args.self.now.ages.items c.loop-at.self.ages.items c.index-age.result.now c.age_after.result _ (omega (arith, test, end)) c.requires.beside c.loop-at.invariant.ages c.index-age.ensures c.age_after.ensures.value;
    }

pub returns-clause-ages : goal.returns-clause-ages
returns-clause-ages c =
    let test = c.loop-at-test.false in
    let end = c.loop-at.auto.at-end in
    let at_is : c.loop-at.at ≡ length c.args.marks.now = omega (arith, test, end) in
    c.loop-at.invariant.ages ∙ ap (λ (n : ℕ). grown_to n c.args.marks.now c.args.self.now.ages.items) at_is ∙ grown_all c.args.marks.now c.args.self.now.ages.items c.requires.beside
