-- Marks of places, one more at a time.
use Rattle.std.proofs.Common.{◌≡◌, ◌<◌, ◌≤◌, ℕ, zero, suc, ◌+◌, Bool, true, false, List, [], ◌∷◌, ◌++◌, length, take, get_or, set, refl, sym, ◌∙◌, ap, subst, arith, get_or-set_same, get_or-set_other, length-set, eq-eqb, ne_eqb}
use Rattle.std.specs.Prelude.{◌==◌, ◌||◌, replicate, slice_index_or}
use Rattle.std.proofs.Math.Seq.{take-suc}
use Rattle.std.proofs.lemmas.Bool.{eqb-true}
use Rattle.net_model.specs.Fsm.Find.{has_place}
use Rattle.fsm_code.specs.Places.{AreMarks}

has_more : (places : List ℕ) (p at : ℕ) → has_place (places ++ p ∷ []) at ≡ (has_place places at || (p == at))
has_more [] p at = by (p == at)
  where
    by : (t : Bool) → (t || false) ≡ t
    by true = refl
    by false = refl
has_more (q ∷ places) p at = by (has_more places p at) (q == at)
  where
    by : has_place (places ++ p ∷ []) at ≡ (has_place places at || (p == at)) → (t : Bool) → (t || has_place (places ++ p ∷ []) at) ≡ ((t || has_place places at) || (p == at))
    by later true = refl
    by later false = later

unmarked : (n k : ℕ) → slice_index_or (replicate n false) k false ≡ false
unmarked zero k = refl
unmarked (suc n) zero = refl
unmarked (suc n) (suc k) = unmarked n k

length_replicate : (n : ℕ) → length (replicate n false) ≡ n
length_replicate zero = refl
length_replicate (suc n) = ap suc (length_replicate n)

pub none_marked : (count : ℕ) → AreMarks count [] (replicate count false)
none_marked count = record { long = length_replicate count; marked = λ at lt. unmarked count at }

or_false : (t : Bool) → t ≡ (t || false)
or_false true = refl
or_false false = refl

or_true : (t : Bool) → true ≡ (t || true)
or_true true = refl
or_true false = refl

module _ (count : ℕ) (places : List ℕ) (k p : ℕ) (here : k < length places) (is : p ≡ get_or places k p) (marks : List Bool) (are : AreMarks count (take k places) marks) where
  next : take (k + 1) places ≡ take k places ++ p ∷ []
  next =
      let one : k + 1 ≡ suc k = omega arith in
      ap (λ n. take n places) one ∙ take-suc places k p here ∙ ap (λ q. take k places ++ q ∷ []) (sym is)

  has_next : (at : ℕ) → has_place (take (k + 1) places) at ≡ (has_place (take k places) at || (p == at))
  has_next at = ap (λ ps. has_place ps at) next ∙ has_more (take k places) p at

  -- a place inside is marked too
  pub mark_goes : p < length marks → AreMarks count (take (k + 1) places) (set marks p true)
  mark_goes inside = record {
    long = length-set marks p true ∙ are.long;
    marked = λ at lt. by at lt (at == p) refl;
  }
    where
      by : (at : ℕ) → at < count → (t : Bool) → (at == p) ≡ t → slice_index_or (set marks p true) at false ≡ has_place (take (k + 1) places) at
      by at lt true e =
          let same : at ≡ p = eqb-true at p e in
          ap (λ j. slice_index_or (set marks p true) j false) same ∙ get_or-set_same marks p true false inside
          ∙ or_true (has_place (take k places) at) ∙ ap (λ t. has_place (take k places) at || t) (sym (eq-eqb p at (sym same))) ∙ sym (has_next at)
      by at lt false e =
          let differ : at ≡ p → ⊥ = (λ f. let g : true ≡ false = sym (eq-eqb at p f) ∙ e in cc) in
          get_or-set_other marks p at true false differ ∙ are.marked at lt ∙ or_false (has_place (take k places) at)
          ∙ ap (λ t. has_place (take k places) at || t) (sym (ne_eqb p at (λ f. differ (sym f)))) ∙ sym (has_next at)

  -- a place outside is none of these
  pub mark_skips : length marks ≤ p → AreMarks count (take (k + 1) places) marks
  mark_skips outside = record {
    long = are.long;
    marked = λ at lt. are.marked at lt ∙ or_false (has_place (take k places) at)
        ∙ ap (λ t. has_place (take k places) at || t) (sym (ne_eqb p at (λ f. omega (arith, f, lt, are.long, outside)))) ∙ sym (has_next at);
  }

-- all places are taken
pub marks_end : (count : ℕ) (places : List ℕ) (k : ℕ) (marks : List Bool) → length places ≤ k → AreMarks count (take k places) marks → AreMarks count places marks
marks_end count places k marks past are = record {
  long = are.long;
  marked = λ at lt. are.marked at lt ∙ ap (λ ps. has_place ps at) (taken places k past);
}
  where
    taken : (ps : List ℕ) (k : ℕ) → length ps ≤ k → take k ps ≡ ps
    taken [] zero le = refl
    taken [] (suc k) le = refl
    taken (p ∷ ps) zero le = absurd (omega (arith, le))
    taken (p ∷ ps) (suc k) le = ap (λ z. p ∷ z) (taken ps k (omega (arith, le)))

pub none_marked_if : (count : ℕ) (marks : List Bool) → marks ≡ replicate count false → AreMarks count [] marks
none_marked_if count marks e = subst (AreMarks count []) (sym e) (none_marked count)
