use Rattle.std.proofs.Common.{List, Bool, sym, ◌∙◌, ap}
use Rattle.std.specs.List.{list_all}
use Rattle.fsm_find.specs.declared.reach.Node.{Node}
use Rattle.fsm_find.specs.Order.{is_done}
use Rattle.fsm_find.proofs.Ordering.{all_shallow, never_done}
use Rattle.fsm_find.proofs.order.is_acyclic.Goals as goal

pub returns-then-are_all_done : goal.returns-then-are_all_done
returns-then-are_all_done c = record {
  value =
      let every = ap (λ (d : List Bool). list_all (λ (node : Node). is_done d node.fork) c.args.nodes.now) (sym c.as_slice.ensures.value) ∙ sym c.are_all_done.ensures.value ∙ c.if-are_all_done.true in
      all_shallow c.args.nodes.now c.loop-round.done.items c.args.count c.loop-round.invariant.size c.loop-round.invariant.shallow every;
}

pub returns-then-not-branch : goal.returns-then-not-branch
returns-then-not-branch c = record {
  value =
      let some = ap (λ (d : List Bool). list_all (λ (node : Node). is_done d node.fork) c.args.nodes.now) (c.in_ok-sweep.ensures.same c.if-not-branch.true ∙ sym c.as_slice.ensures.value) ∙ sym c.are_all_done.ensures.value ∙ c.if-are_all_done.false in
      never_done c.args.nodes.now c.sweep.new.done.items some (c.in_ok-sweep.ensures.stuck c.if-not-branch.true);
}
