-- What the places of assigns give a bit, one after another.
use Rattle.std.proofs.Common.{◌≡◌, ℕ, zero, suc, ◌+◌, ◌<◌, ◌≤◌, List, [], ◌∷◌, ◌++◌, length, drop, get_or, if◌then◌else◌, ◌⊎◌, inl, inr, refl, sym, ◌∙◌, ap, arith, add-one, append_assoc, append-nil}
use Rattle.std.proofs.Math.Seq.{drop-cons}
use Rattle.rtl_sig.specs.declared.sig.SigBit.{SigBit}
use Rattle.rtl_sig.specs.declared.sig.SigBit.TheVariants.{Fixed, Wire as OnWire}
use Rattle.rtl_sig.specs.declared.sig.WireBit.{WireBit}
use Rattle.rtl_ir.specs.declared.module.Link.{Link}
use Rattle.rtl_ir.specs.Follow.{all_joins, joins}
use Rattle.rtl_ir.specs.declared.follow.Join.{Join}
use Rattle.rtl_ir.specs.Signals.{same_bit}
use Rattle.proc_latch.specs.Givens.{own_given}
use Rattle.proc_latch.specs.declared.given.Given.{Given}

module _ (b : WireBit) (n : ℕ) where
  pub own_both : (js ks : List Join) → own_given b n (js ++ ks) ≡ own_given b n js ++ own_given b n ks
  own_both [] ks = refl
  own_both (j ∷ js) ks =
      let here : List Given = if same_bit j.bit b then record { node = n; source = j.source } ∷ [] else [] in
      ap (λ x. here ++ x) (own_both js ks) ∙ sym (append_assoc here (own_given b n js) (own_given b n ks))

  -- the first place of a line, and those behind it
  joins_first : (l r : SigBit) (ls rs : List SigBit) → joins (l ∷ ls) (r ∷ rs) ≡ joins (l ∷ []) (r ∷ []) ++ joins ls rs
  joins_first (Fixed c) r ls rs = refl
  joins_first (OnWire a) r ls rs = refl

  nothing : (ls : List SigBit) → joins ls [] ≡ []
  nothing [] = refl
  nothing (l ∷ ls) = refl

  -- one more place
  pub place_goes : (left right : List SigBit) (at : ℕ) (dl dr : SigBit) → at < length left → at < length right → (given given' all : List Given) → given' ≡ given ++ own_given b n (joins (get_or left at dl ∷ []) (get_or right at dr ∷ [])) → given ++ own_given b n (joins (drop at left) (drop at right)) ≡ all → given' ++ own_given b n (joins (drop (at + 1) left) (drop (at + 1) right)) ≡ all
  place_goes left right at dl dr hl hr given given' all put so =
      let l = get_or left at dl in
      let r = get_or right at dr in
      let ls = drop (suc at) left in
      let rs = drop (suc at) right in
      (λ i. put i ++ own_given b n (joins (drop (add-one at i) left) (drop (add-one at i) right)))
      ∙ append_assoc given (own_given b n (joins (l ∷ []) (r ∷ []))) (own_given b n (joins ls rs))
      ∙ ap (λ x. given ++ x) (sym (own_both (joins (l ∷ []) (r ∷ [])) (joins ls rs)) ∙ ap (own_given b n) (sym (joins_first l r ls rs)))
      ∙ (λ i. given ++ own_given b n (joins (sym (drop-cons left at dl hl) i) (sym (drop-cons right at dr hr) i)))
      ∙ so

  -- behind the last place
  pub places_end : (left right : List SigBit) (at : ℕ) → (length left ≤ at) ⊎ (length right ≤ at) → (given all : List Given) → given ++ own_given b n (joins (drop at left) (drop at right)) ≡ all → given ≡ all
  places_end left right at past given all so = sym (ap (λ js. given ++ own_given b n js) (none left right at past) ∙ append-nil given) ∙ so
    where
      none : (left right : List SigBit) (at : ℕ) → (length left ≤ at) ⊎ (length right ≤ at) → joins (drop at left) (drop at right) ≡ []
      none [] right zero h = refl
      none [] right (suc at) h = refl
      none (l ∷ left) [] zero h = refl
      none (l ∷ left) [] (suc at) h = nothing (drop at left)
      none (l ∷ left) (r ∷ right) zero (inl h) = absurd (omega arith)
      none (l ∷ left) (r ∷ right) zero (inr h) = absurd (omega arith)
      none (l ∷ left) (r ∷ right) (suc at) (inl h) = none left right at (inl (omega arith))
      none (l ∷ left) (r ∷ right) (suc at) (inr h) = none left right at (inr (omega arith))

  -- one more line
  pub line_goes : (lines : List Link) (at : ℕ) (l : Link) → at < length lines → l ≡ get_or lines at l → (given given' all : List Given) → given' ≡ given ++ own_given b n (joins l.left l.right) → given ++ own_given b n (all_joins (drop at lines)) ≡ all → given' ++ own_given b n (all_joins (drop (at + 1) lines)) ≡ all
  line_goes lines at l h e given given' all put so =
      let ls = drop (suc at) lines in
      (λ i. put i ++ own_given b n (all_joins (drop (add-one at i) lines)))
      ∙ append_assoc given (own_given b n (joins l.left l.right)) (own_given b n (all_joins ls))
      ∙ ap (λ x. given ++ x) (sym (own_both (joins l.left l.right) (all_joins ls)))
      ∙ ap (λ xs. given ++ own_given b n (all_joins xs)) (sym (drop-cons lines at l h ∙ ap (λ k. k ∷ ls) (sym e)))
      ∙ so
