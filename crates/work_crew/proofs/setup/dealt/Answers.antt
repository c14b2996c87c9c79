use Rattle.std.proofs.Common.{◌+◌, sym, ap, ◌∙◌, subst}
use Rattle.crossbeam_deque.specs.Handles.{worker_view}
use Rattle.work_crew.specs.declared.deque.Hand.{Hand}
use Rattle.work_crew.proofs.Setups.{Dealing, deal_begins, deal_goes, deal_ends}
use Rattle.work_crew.proofs.setup.dealt.Goals as goal

pub loop-next-init : goal.loop-next-init
loop-next-init c =
    let e = c.in_ok-owner.ensures.ok in
    record {
      port = e.0;
      flavor = e.1;
      unfixed = ap (λ (v : Hand). v.fixed) e.2;
      none_taken = ap (λ (v : Hand). v.taken) e.2;
      dealing = subst (Dealing c.args.first c.args.step c.args.count c.args.first) (sym (ap (λ (v : Hand). v.put) e.2)) (deal_begins c.args.first c.args.step c.args.count);
    }

pub loop-next-preserved : goal.loop-next-preserved
loop-next-preserved c =
    let i = c.loop-next.invariant in
    let s = c.in_ok-put.ensures.same in
    let w = c.in_ok-put.ensures.ok in
    let v : Hand = worker_view c.loop-next.owner in
    record {
      port = s.2 ∙ i.port;
      flavor = s.1 ∙ i.flavor;
      unfixed = ap (λ (v : Hand). v.fixed) w;
      none_taken = ap (λ (v : Hand). v.taken) w ∙ i.none_taken;
      dealing = subst (Dealing c.args.first c.args.step c.args.count (c.loop-next.next + c.args.step)) (sym (ap (λ (v : Hand). v.put) w))
          (deal_goes c.args.first c.args.step c.args.count c.loop-next.next v.put c.loop-next-test.true c.requires.0 i.dealing);
    }

pub returns : goal.returns
returns c =
    let i = c.loop-next.invariant in
    let v : Hand = worker_view c.loop-next.owner in
    record { ok = record { port = i.port; flavor = i.flavor; put = deal_ends c.args.first c.args.step c.args.count c.loop-next.next v.put c.loop-next-test.false i.dealing; none_taken = i.none_taken } }
