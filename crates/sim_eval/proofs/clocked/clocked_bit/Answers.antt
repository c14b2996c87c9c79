use Rattle.std.proofs.Common.{◌≡◌, ◌∙◌, Some, ap, refl, sym}
use Rattle.cell_gate.specs.Control.{pick_of}
use Rattle.net_model.specs.Value.{level_bit}
use Rattle.sim_eval.specs.declared.walk.Leaves.TheVariants.{Owned, Values}
use Rattle.sim_eval.specs.Leaves.{comes_to}
use Rattle.sim_eval.specs.Walk.{followed, leaf_of}
use Rattle.sim_eval.proofs.Racing.{clocked_same, taken_at}
use Rattle.sim_eval.proofs.SameBits.{equal}
use Rattle.sim_eval.proofs.Writing.{no_edge}
use Rattle.sim_eval.proofs.clocked.clocked_bit.Goals as goal

pub returns-then-eq : goal.returns-then-eq
returns-then-eq c = record {
  value = λ ps first was apart same clocked tree within.
      let before = c.args.before.now in
      let raced = c.args.raced.now in
      let k = c.args.clocked.now in
      let b = c.args.bit.now in
      let new = c.source_bit-new.ensures.value ∙ ap (λ z. followed (leaf_of Values before) (Some z) b.source) c.as_slice.ensures.value in
      let taken : c.pick-taken.result ≡ taken_at ps before k b = c.pick-taken.ensures.value ∙ (λ i. pick_of k.edge (new i) (c.bit_at.ensures.value i)) in
      let under = comes_to ps before (level_bit raced.reset_level) (Owned b.number (taken_at ps before k b)) raced.tree.root raced.tree.width b.source in
      clocked_same ps before was first raced k b under _ apart same clocked within refl
      (c.pick.ensures.value ∙ ((λ i. pick_of k.active (taken i) (taken i)) ∙ no_edge k.active under (taken_at ps before k b) (equal k.active _ (sym c.eq.ensures ∙ c.if-eq.true))));
}

pub returns : goal.returns
returns c = record {
  value = λ ps first was apart same clocked tree within.
      let before = c.args.before.now in
      let raced = c.args.raced.now in
      let k = c.args.clocked.now in
      let b = c.args.bit.now in
      let new = c.source_bit-new.ensures.value ∙ ap (λ z. followed (leaf_of Values before) (Some z) b.source) c.as_slice.ensures.value in
      let taken : c.pick-taken.result ≡ taken_at ps before k b = c.pick-taken.ensures.value ∙ (λ i. pick_of k.edge (new i) (c.bit_at.ensures.value i)) in
      clocked_same ps before was first raced k b c.in_ok-under.under _ apart same clocked within
      (c.in_ok-under.ensures.value ps apart same within.0 tree within.1 ∙ (λ i. comes_to ps before (c.level_bit.ensures.value i) (Owned b.number (taken i)) raced.tree.root raced.tree.width b.source))
      (c.pick-2.ensures.value ∙ ap (pick_of k.active c.in_ok-under.under) taken);
}
