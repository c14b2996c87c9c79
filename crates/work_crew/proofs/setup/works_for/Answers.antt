use Rattle.std.proofs.Common.{[], ◌∷◌, length, sym, ap, ◌∙◌, subst, arith, length-append}
use Rattle.work_crew.specs.declared.seat.Worked.{Worked}
use Rattle.work_crew.specs.Setup.{AllIdle}
use Rattle.work_crew.proofs.Setups.{idle_snoc}
use Rattle.work_crew.proofs.setup.works_for.Goals as goal

pub loop-preserved : goal.loop-preserved
loop-preserved g c =
    let i = c.loop.invariant in
    let q = c.push_reserved.ensures in
    let w : Worked g.row.O.Denot = record { taken = c.in_ok-taken.taken; done = c.in_ok-done.done } in
    record {
      idle = subst AllIdle (sym q.items) (idle_snoc c.loop.works.items w i.idle c.in_ok-taken.ensures.items c.in_ok-done.ensures.items);
      len = ap length q.items ∙ (let n = i.len in omega (arith, length-append c.loop.works.items (w ∷ [])));
      room = let n = i.room in let k = q.capacity in omega arith;
    }
