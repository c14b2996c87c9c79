use Rattle.std.proofs.Common.{◌∙◌, Some, ap, arith, sym}
use Rattle.sim_eval.specs.Trees.{tree_value}
use Rattle.sim_eval.specs.Walk.{followed, leaf_of}
use Rattle.sim_eval.proofs.Expanding.{first_round, round_last, round_next, round_same}
use Rattle.sim_eval.proofs.SameBits.{equal_bits}
use Rattle.sim_eval.proofs.expand.expanded_bits.Goals as goal

pub loop-round-init : goal.loop-round-init
loop-round-init c = record {
  begun = omega arith;
  reached = λ ps apart same marked within.
      first_round ps c.args.values.now apart same c.args.reset c.args.leaves marked c.args.tree.now.root c.args.tree.now.width within.root c.in_ok-bits.bits.items c.in_ok-bits.ensures.value;
}

pub loop-round-preserved : goal.loop-round-preserved
loop-round-preserved c =
    let values = c.args.values.now in
    let root = c.args.tree.now.root in
    record {
      begun = omega arith;
      reached = λ ps apart same marked within.
          round_next ps values apart same c.args.reset c.args.leaves marked root c.args.tree.now.width within.root c.loop-round._round c.loop-round.bits.items c.in_ok-next.next.items c.loop-round.invariant.begun (c.loop-round.invariant.reached ps apart same marked within)
          (λ at l. c.in_ok-next.ensures.value at l ∙ ap (λ z. tree_value values c.args.reset (followed (leaf_of c.args.leaves values) (Some z)) at root) c.as_slice.ensures.value);
    }

pub returns-then-eq : goal.returns-then-eq
returns-then-eq c =
    let values = c.args.values.now in
    let root = c.args.tree.now.root in
    record {
      value = λ ps apart same marked within.
          round_same ps values apart same c.args.reset c.args.leaves marked root c.args.tree.now.width within.root c.loop-round._round c.loop-round.bits.items c.in_ok-next.next.items c.loop-round.invariant.begun (omega arith) (c.loop-round.invariant.reached ps apart same marked within)
          (λ at l. c.in_ok-next.ensures.value at l ∙ ap (λ z. tree_value values c.args.reset (followed (leaf_of c.args.leaves values) (Some z)) at root) c.as_slice.ensures.value)
          (equal_bits c.in_ok-next.next.items c.loop-round.bits.items (sym c.eq.ensures ∙ c.if-eq.true));
    }

pub returns : goal.returns
returns c = record {
  value = λ ps apart same marked within.
      round_last ps c.args.values.now apart same c.args.reset c.args.leaves marked c.args.tree.now.root c.args.tree.now.width within.root c.loop-round._round c.loop-round.bits.items (λ l. omega arith) (c.loop-round.invariant.reached ps apart same marked within);
}
