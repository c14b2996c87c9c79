use Rattle.std.proofs.Common.{◌≡◌, ◌<◌, ◌∙◌, ap, length, map, subst, sym, true}
use Rattle.std.specs.List.{AllByRecursion, list_all}
use Rattle.net_model.specs.Order.{Manner}
use Rattle.net_model.specs.Run.{Start, Step}
use Rattle.flat_net.specs.declared.leaves.HeldBit.{HeldBit}
use Rattle.flat_net.specs.Parts.{raced_row}
use Rattle.sim_eval.specs.Advance.{Advances, Takes}
use Rattle.sim_eval.specs.Moment.{HasBefore, time_of}
use Rattle.sim_eval.specs.Race.{held_has, start_fact}
use Rattle.sim_eval.specs.Shown.{shown}
use Rattle.sim_eval.proofs.Firsts.{held_within}
use Rattle.sim_eval.proofs.Racing.{advances_had, facts_raced, facts_started}
use Rattle.sim_eval.proofs.Taking.{advances_by, if_ok_more}
use Rattle.sim_eval.proofs.raced.update_raced.Goals as goal

pub returns-in-Start-clause-advances : goal.returns-in-Start-clause-advances
returns-in-Start-clause-advances c = λ ps board within.
    let raced = c.args.raced.now in
    let old = c.args.now.now in
    let slice = c.as_slice-in-Start.ensures.value in
    let numbers = held_within (length ps) raced.tree.width raced.bits within.bits in
    let takes = subst (λ z. Takes ps (map (start_fact ps) z) old c.put_starts.new.now c.put_starts.result) slice
    (c.put_starts.ensures.takes ps board.apart board.now (subst (AllByRecursion (λ (b : HeldBit). b.number < length ps)) (sym slice) numbers)) in
    subst (λ m. Advances ps (time_of ps m) (map (raced_row ps raced) raced.bits) old c.put_starts.new.now c.put_starts.result) (sym c.in-Start.is)
    (advances_by ps Start (map (raced_row ps raced) raced.bits) old _ _ (subst (λ z. Takes ps z old c.put_starts.new.now c.put_starts.result) (facts_started ps raced old raced.bits) takes))

pub returns-in-Step-clause-advances : goal.returns-in-Step-clause-advances
returns-in-Step-clause-advances c =
    if_ok_more c.update_step.result _ _ (λ changed takes ps board within.
    let raced = c.args.raced.now in
    let old = c.args.now.now in
    let before = c.in-Step.before.now in
    let manner : Manner = record { first = c.in-Step.first; order = c.in-Step.order } in
    let was : length ps ≡ length before = subst (HasBefore ps) c.in-Step.is board.before in
    subst (λ m. Advances ps (time_of ps m) (map (raced_row ps raced) raced.bits) old c.update_step.new.now changed) (sym c.in-Step.is)
    (advances_by ps (Step (shown ps before) c.in-Step.inputs.now manner) (map (raced_row ps raced) raced.bits) old _ _ (subst (λ z. Takes ps z old c.update_step.new.now changed) (facts_raced ps before c.in-Step.inputs.now manner raced old raced.bits) (takes ps board.apart was board.now within))))
    c.update_step.ensures.takes

pub returns-then-have_values-clause-advances : goal.returns-then-have_values-clause-advances
returns-then-have_values-clause-advances c = λ ps board within.
    let raced = c.args.raced.now in
    let now = c.args.now.now in
    let has : list_all (held_has now) raced.bits ≡ true = sym (ap (list_all (held_has now)) c.as_slice.ensures.value) ∙ (sym c.have_values.ensures.value ∙ c.if-have_values.true) in
    advances_had ps (time_of ps c.args.moment.now) raced now board.apart board.now raced.bits within.bits has
