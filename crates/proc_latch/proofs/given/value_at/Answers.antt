use Rattle.std.proofs.Common.{◌≤◌, ◌-◌, length, take, drop, sym, ◌∙◌, ap, subst, arith, length-drop}
use Rattle.std.proofs.lemmas.List.{take_all}
use Rattle.proc_latch.specs.Givens.{AreInOrder, value_at}
use Rattle.proc_latch.proofs.Fitting.{value_behind}
use Rattle.proc_latch.proofs.Searching.{order_drop, split_at}
use Rattle.proc_latch.proofs.given.value_at.Goals as goal

pub first_value-requires-clause-in_order : goal.first_value-requires-clause-in_order
first_value-requires-clause-in_order c =
    let given = c.args.given.now in
    let first = c.first_from-first.result in
    let few : length (drop first given) ≤ length given - first = omega (arith, length-drop first given) in
    subst AreInOrder (sym (take_all (length given - first) (drop first given) few)) (order_drop given first c.requires.in_order)

pub returns : goal.returns
returns c =
    let given = c.args.given.now in
    let first = c.first_from-first.result in
    let few : length (drop first given) ≤ length given - first = omega (arith, length-drop first given) in
    record {
      value =
          c.first_value.ensures.value
          ∙ ap (λ z. value_at z c.args.node) (take_all (length given - first) (drop first given) few)
          ∙ sym (ap (λ z. value_at z c.args.node) (split_at given first) ∙ value_behind (take first given) (drop first given) c.args.node c.first_from-first.ensures.before);
    }
