use Rattle.std.proofs.Common.{◌≡◌, refl, ◌∙◌, ap, inl, length, arith}
use Rattle.std.proofs.lemmas.Option.{slice_get_read}
use Rattle.std.specs.Prelude.{slice_get}
use Rattle.fsm_find.proofs.Finding.{met_below, met_more}
use Rattle.fsm_find.proofs.Trees.{part_all}
use Rattle.fsm_find.proofs.Visiting.{at_false, at_true}
use Rattle.fsm_find.specs.View.{step_of}
use Rattle.fsm_find.proofs.reach.reached.Goals as goal

pub returns-then-not-branch : goal.returns-then-not-branch
returns-then-not-branch c = record {
  found = λ ports view. let m = c.args.module.now in let state = c.args.view.now.state in let root = c.args.root.now in
      at_false _ _ _ c.if-not-branch.true (c.in_ok-visit.ensures.ok ports m root view (c.in_ok-reach.ensures.value state root) (λ n t e. (n, t, e, part_all t)));
}

pub loop-step-init : goal.loop-step-init
loop-step-init c = λ ports view.
    let m = c.args.module.now in
    let state = c.args.view.now.state in
    let root = c.args.root.now in
    let v = at_true _ _ _ c.if-not-branch.false (c.in_ok-visit.ensures.ok ports m root view (c.in_ok-reach.ensures.value state root) (λ n t e. (n, t, e, part_all t))) in
    record { reach = v.reach; met = met_below _ _ _ root (step_of m state root) (v.met root (inl refl)) }

pub returns-then-at-len : goal.returns-then-at-len
returns-then-at-len c = record {
  found = λ ports view. let s = c.loop-step.invariant ports view in record { reach = s.reach; all = let a = c.if-at-len.true in let b = c.len.ensures in let d = c.len-at.ensures in omega (arith, a, b, d); met = s.met };
}

pub returns-then-not-branch-2 : goal.returns-then-not-branch-2
returns-then-not-branch-2 c = record {
  found = λ ports view.
      let s = c.loop-step.invariant ports view in
      at_false _ _ _ c.if-not-branch-2.true (c.in_ok-open.ensures.ok ports c.args.root.now view s.reach (let d : length c.loop-step.reach.nodes.items ≡ c.len-at.result = (let k = c.len-at.ensures in omega (arith, k)) in ap (slice_get c.loop-step.reach.forks.items) d ∙ slice_get_read c.loop-step.reach.forks.items (length c.loop-step.reach.forks.items) c.len-at.result c.index-fork.result.now refl (let b = c.len.ensures in let f = c.if-at-len.false in omega (arith, b, f)) c.index-fork.ensures));
}

pub loop-step-preserved : goal.loop-step-preserved
loop-step-preserved c = λ ports view.
    let s = c.loop-step.invariant ports view in
    let o = at_true _ _ _ c.if-not-branch-2.false (c.in_ok-open.ensures.ok ports c.args.root.now view s.reach (let d : length c.loop-step.reach.nodes.items ≡ c.len-at.result = (let k = c.len-at.ensures in omega (arith, k)) in ap (slice_get c.loop-step.reach.forks.items) d ∙ slice_get_read c.loop-step.reach.forks.items (length c.loop-step.reach.forks.items) c.len-at.result c.index-fork.result.now refl (let b = c.len.ensures in let f = c.if-at-len.false in omega (arith, b, f)) c.index-fork.ensures)) in
    record { reach = o.reach; met = met_more _ _ _ _ _ _ o.forks o.known o.forks c.args.root.now (step_of c.args.module.now c.args.view.now.state c.args.root.now) s.met }
