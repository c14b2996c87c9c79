use Rattle.std.proofs.Common.{List, ◌++◌, length, sym, ap, ◌∙◌, subst, arith, length-append}
use Rattle.work_crew.specs.Pairs.{AcceptsPair, ChangesPair, AllReady, AllRan}
use Rattle.work_crew.proofs.PairLists.{ran_both, ready_front, ready_back}
use Rattle.work_crew.proofs.pairs.+pairs.Goals as goal

pub for_each_pair-both_halves-requires-clause-front :
    goal.for_each_pair-both_halves-requires-clause-front
for_each_pair-both_halves-requires-clause-front g t c κs within =
    let P : g.row.S.Denot → g.row.T.Denot → Type 0 = AcceptsPair g.F.Fn c.args.f.now in
    let ts = c.split_at_mut-front in
    let ss = c.split_at_mut-front_slots in
    let ready : AllReady P (ss.result.0.now ++ ss.result.1.now) (ts.result.0.now ++ ts.result.1.now) = subst (λ (p : List g.row.S.Denot × List g.row.T.Denot). AllReady P p.0 p.1) (λ k. (ss.ensures.value k, ts.ensures.value k)) c.requires.ready in
    let same = ss.ensures.front_len ∙ sym ts.ensures.front_len in
    (ready_front P ss.result.0.now ss.result.1.now ts.result.0.now ts.result.1.now same ready, same)

pub for_each_pair-both_halves-requires-clause-back :
    goal.for_each_pair-both_halves-requires-clause-back
for_each_pair-both_halves-requires-clause-back g t c κs within =
    let P : g.row.S.Denot → g.row.T.Denot → Type 0 = AcceptsPair g.F.Fn c.args.f.now in
    let ts = c.split_at_mut-front in
    let ss = c.split_at_mut-front_slots in
    let ready : AllReady P (ss.result.0.now ++ ss.result.1.now) (ts.result.0.now ++ ts.result.1.now) = subst (λ (p : List g.row.S.Denot × List g.row.T.Denot). AllReady P p.0 p.1) (λ k. (ss.ensures.value k, ts.ensures.value k)) c.requires.ready in
    let same = ss.ensures.front_len ∙ sym ts.ensures.front_len in
    let all = c.requires.equal_lengths in
    let a = ap length ss.ensures.value in
    let b = ap length ts.ensures.value in (
      ready_back P ss.result.0.now ss.result.1.now ts.result.0.now ts.result.1.now same ready,
      omega (arith, length-append ss.result.0.now ss.result.1.now, length-append ts.result.0.now ts.result.1.now),
    )

pub for_each_pair-returns : goal.for_each_pair-returns
for_each_pair-returns g t c =
    let Q : g.row.S.Denot → g.row.S.Denot → g.row.T.Denot → g.row.T.Denot → Type 0 = ChangesPair g.F.Fn c.args.f.now in
    let ts = c.split_at_mut-front in
    let ss = c.split_at_mut-front_slots in
    let new = c.both_halves.new in
    subst (λ (p : List g.row.S.Denot × List g.row.T.Denot). AllRan Q p.0 (new.front_slots ++ new.back_slots) p.1 (new.front ++ new.back)) (λ k. (sym ss.ensures.value k, sym ts.ensures.value k))
    (ran_both Q ss.result.0.now new.front_slots ss.result.1.now new.back_slots ts.result.0.now new.front ts.result.1.now new.back c.both_halves.ensures.front c.both_halves.ensures.back)
