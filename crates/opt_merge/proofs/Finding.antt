-- The first of the cells that stay that has some traits.
use Rattle.std.proofs.Common.{◌≡◌, ℕ, ◌≤◌, Bool, true, false, List, [], ◌∷◌, map, find, Option, Some, None, inl, inr, refl, sym, ◌∙◌, ap, arith}
use Rattle.std.specs.Prelude.{slice_get}
use Rattle.std.specs.Option.{option_map_or}
use Rattle.rtl_bits.specs.declared.bit.Bit.{Bit}
use Rattle.rtl_sig.specs.declared.sig.SigBit.{SigBit}
use Rattle.rtl_ir.specs.declared.cell.Cell.{Cell}
use Rattle.rtl_ir.specs.declared.module.Link.{Link}
use Rattle.net_model.specs.Lists.{In}
use Rattle.opt_merge.specs.Entries.{traits_at}
use Rattle.opt_merge.specs.Merge.{has_traits, traits_by}
use Rattle.opt_merge.specs.State.{IsRising}
use Rattle.opt_merge.specs.Traits.{Traits, same_traits}
use Rattle.opt_merge.proofs.SameTraits.{same-refl, same-true}

module _ (start : SigBit → Bit) (links : List Link) (cells : List Cell) (t : Traits) where
  -- the test says whether the traits are these
  pub tested : (o : Option Traits) → option_map_or (λ own. same_traits own t) o false ≡ true → o ≡ Some t
  tested None e = absurd (cc)
  tested (Some own) e = ap Some (same-true own t e)

  has : (c : Cell) → traits_by start links c ≡ Some t → has_traits start links t c ≡ true
  has c e = ap (λ o. option_map_or (λ own. same_traits own t) o false) e ∙ same-refl t

  has_not : (c : Cell) → (traits_by start links c ≡ Some t → ⊥) → has_traits start links t c ≡ false
  has_not c h = by (has_traits start links t c) refl
    where
      by : (b : Bool) → has_traits start links t c ≡ b → b ≡ false
      by true e = absurd (h (tested (traits_by start links c) e))
      by false e = refl

  at_place : (at : ℕ) (c : Cell) → slice_get cells at ≡ Some c → traits_at start links cells at ≡ traits_by start links c
  at_place at c e = ap (λ o. option_map_or (traits_by start links) o None) e

  pub find_none : (places : List ℕ) (cs : List Cell) → map (slice_get cells) places ≡ map Some cs
      → ((at : ℕ) → In at places → traits_at start links cells at ≡ Some t → ⊥) → find (has_traits start links t) cs ≡ None
  find_none [] [] e h = refl
  find_none [] (c ∷ cs) e h = absurd (cc)
  find_none (p ∷ ps) [] e h = absurd (cc)
  find_none (p ∷ ps) (c ∷ cs) e h =
      let here : slice_get cells p ≡ Some c = cc in
      let rest : map (slice_get cells) ps ≡ map Some cs = cc in
      rw (has_not c (λ own. h p (inl refl) (at_place p c here ∙ own))) (find_none ps cs rest (λ at i. h at (inr i)))

  pub find_some : (places : List ℕ) (cs : List Cell) → map (slice_get cells) places ≡ map Some cs → IsRising places
      → (first : ℕ) (c : Cell) → slice_get cells first ≡ Some c → In first places → traits_at start links cells first ≡ Some t
      → ((at : ℕ) → In at places → traits_at start links cells at ≡ Some t → first ≤ at) → find (has_traits start links t) cs ≡ Some c
  find_some [] cs e up first c is i own least = absurd i
  find_some (p ∷ ps) [] e up first c is i own least = absurd (cc)
  find_some (p ∷ ps) (d ∷ cs) e up first c is (inl same) own least =
      let here : slice_get cells p ≡ Some d = cc in
      let one : d ≡ c = (let f : Some d ≡ Some c = sym here ∙ ap (slice_get cells) (sym same) ∙ is in cc) in
      rw (has d (sym (at_place p d here) ∙ ap (traits_at start links cells) (sym same) ∙ own)) (ap Some one)
  find_some (p ∷ ps) (d ∷ cs) e up first c is (inr i) own least =
      let here : slice_get cells p ≡ Some d = cc in
      let rest : map (slice_get cells) ps ≡ map Some cs = cc in
      let apart : (traits_by start links d ≡ Some t → ⊥) = (λ own'. let lt = up.0 first i in let le = least p (inl refl) (at_place p d here ∙ own') in omega (arith, lt, le)) in
      rw (has_not d apart) (find_some ps cs rest up.1 first c is i own (λ at j. least at (inr j)))
