use Rattle.std.proofs.Common.{◌≡◌, ◌∙◌, ap, false, length, replicate, sym}
use Rattle.std.proofs.lemmas.List.{length-replicate}
use Rattle.flat_net.specs.Parts.{parts_rows}
use Rattle.sim_eval.specs.First.{firsts}
use Rattle.sim_eval.specs.Shown.{found}
use Rattle.sim_eval.proofs.Firsts.{found_none}
use Rattle.sim_eval.proofs.Taking.{if_ok_more}
use Rattle.sim_eval.proofs.first.first_drivers.Goals as goal

pub returns-clause-rows : goal.returns-clause-rows
returns-clause-rows c =
    let start : c.deref_mut.result.now ≡ replicate c.args.count false =
    c.deref_mut.ensures.value ∙ c.in_ok-seen.ensures.items_if_clones_equal (λ y e. e) in
    let long : length c.deref_mut.result.now ≡ c.args.count = ap length start ∙ length-replicate c.args.count false in
    if_ok_more c.first_of_parts.result _ _ (λ kept k ps apart same h.
    k ps apart (same ∙ sym long) h ∙ ap (λ z. firsts z (parts_rows ps c.args.parts)) (ap (found false ps) start ∙ found_none ps c.args.count))
    c.first_of_parts.ensures.rows
