use Rattle.std.proofs.Common.{◌∙◌, ap, sym, length, ℕ, List, Bor, subst}
use Rattle.std.proofs.lemmas.List.{length-map}
use Rattle.rtl_ir.specs.declared.store.Store.{Store}
use Rattle.flat_pass.specs.ByName.{ArePlaces, names_now}
use Rattle.flat_pass.proofs.renames.Renames.of.Goals as goal

pub invariant_of-result : goal.invariant_of-result
invariant_of-result c = record {
  placed = subst (λ z. ArePlaces c.in_ok-places.places (names_now z)) c.as_slice.ensures.value c.in_ok-places.ensures.value;
  paired = c.requires.paired ∙ sym (length-map c.args.stores.now (λ (s : Store). s.name)) ∙ sym (ap length c.in_ok-memories.ensures.value) ∙ length-map c.in_ok-memories.memories.items (λ (n : Bor (List ℕ)). n.now);
}
