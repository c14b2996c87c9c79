use Rattle.std.proofs.Common.{◌≡◌, ◌+◌, [], ◌∷◌, ◌++◌, length, sym, ap, ◌∙◌, subst, arith, length-append}
use Rattle.work_crew.specs.Times.{every}
use Rattle.work_crew.specs.Setup.{IsDealt, AreDealt, AreThieves}
use Rattle.work_crew.proofs.Setups.{dealt_snoc, thieves_snoc}
use Rattle.work_crew.proofs.setup.deques_for.Goals as goal

pub loop-first-preserved : goal.loop-first-preserved
loop-first-preserved c =
    let i = c.loop-first.invariant in
    let os = c.loop-first.owners.items in
    let ss = c.loop-first.thieves.items in
    let o = c.in_ok-owner.owner in
    let s = c.in_ok-thief.thief in
    let p = c.push_reserved.ensures in
    let q = c.push_reserved-in-loop-first.ensures in
    let e : c.loop-first.first ≡ 0 + length os = (let n = i.len in omega arith) in
    record {
      dealt = subst (AreDealt 0 c.args.workers c.args.count) (sym q.items) (dealt_snoc 0 c.args.workers c.args.count os o i.dealt (subst (λ n. IsDealt (every n c.args.workers c.args.count) o) e c.in_ok-owner.ensures.ok));
      thieves = subst (λ os. AreThieves os c.push_reserved.new.self.items) (sym q.items) (subst (AreThieves (os ++ o ∷ [])) (sym p.items) (thieves_snoc os ss o s i.thieves c.in_ok-thief.ensures.0));
      len = ap length q.items ∙ (let n = i.len in omega (arith, length-append os (o ∷ [])));
      thieves_len = ap length p.items ∙ (let n = i.thieves_len in omega (arith, length-append ss (s ∷ [])));
      room = let n = i.room in let k = q.capacity in omega arith;
      thieves_room = let n = i.thieves_room in let k = p.capacity in omega arith;
    }
