-- What lines give a bit.
use Rattle.std.proofs.Common.{◌≡◌, ℕ, zero, suc, ◌+◌, ◌<◌, ◌≤◌, Bool, true, false, List, [], ◌∷◌, ◌++◌, length, drop, get_or, Option, Some, None, if◌then◌else◌, ◌⊎◌, inl, inr, refl, sym, ◌∙◌, ap, arith, add-one, append-nil, min}
use Rattle.std.specs.Prelude.{◌||◌}
use Rattle.std.specs.List.{list_any}
use Rattle.std.specs.Option.{is_some, option_or}
use Rattle.std.proofs.Math.Seq.{drop-cons}
use Rattle.rtl_sig.specs.declared.sig.SigBit.{SigBit}
use Rattle.rtl_sig.specs.declared.sig.SigBit.TheVariants.{Fixed, Wire as OnWire}
use Rattle.rtl_sig.specs.declared.sig.WireBit.{WireBit}
use Rattle.rtl_ir.specs.declared.module.Link.{Link}
use Rattle.rtl_ir.specs.Assigns.{assigned, last_source}
use Rattle.rtl_ir.specs.Follow.{all_joins, joins}
use Rattle.rtl_ir.specs.declared.follow.Join.{Join}
use Rattle.rtl_ir.specs.Signals.{same_bit}
use Rattle.net_model.specs.Proc.Mux.{run_value}
use Rattle.proc_mux.specs.Lines.{is_bit}

or_none : (o : Option SigBit) → o ≡ option_or o None
or_none None = refl
or_none (Some s) = refl

or_again : (a b c : Option SigBit) → option_or (option_or a b) c ≡ option_or a (option_or b c)
or_again None b c = refl
or_again (Some s) b c = refl

nothing : (ls : List SigBit) (b : WireBit) → last_source (joins ls []) b ≡ None
nothing [] b = refl
nothing (Fixed c ∷ ls) b = refl
nothing (OnWire a ∷ ls) b = refl

-- the first place counts where none behind it names the bit
place_first : (l r : SigBit) (ls rs : List SigBit) (b : WireBit) → last_source (joins (l ∷ ls) (r ∷ rs)) b ≡ option_or (last_source (joins ls rs) b) (if is_bit l b then Some r else None)
place_first (Fixed c) r ls rs b = or_none (last_source (joins ls rs) b)
place_first (OnWire a) r ls rs b = refl

module _ (left right : List SigBit) (b : WireBit) (at : ℕ) where
  module _ (dl dr : SigBit) (hl : at < length left) (hr : at < length right) where
    abbrev l : SigBit
    l = get_or left at dl

    abbrev r : SigBit
    r = get_or right at dr

    pub place_goes : (found found' all : Option SigBit) → found' ≡ option_or (if is_bit l b then Some r else None) found → option_or (last_source (joins (drop at left) (drop at right)) b) found ≡ all → option_or (last_source (joins (drop (at + 1) left) (drop (at + 1) right)) b) found' ≡ all
    place_goes found found' all is so =
        let ls = drop (suc at) left in
        let rs = drop (suc at) right in
        let el' : drop at left ≡ l ∷ ls = drop-cons left at dl hl in
        let er' : drop at right ≡ r ∷ rs = drop-cons right at dr hr in
        (λ i. option_or (last_source (joins (drop (add-one at i) left) (drop (add-one at i) right)) b) (is i))
        ∙ sym (or_again (last_source (joins ls rs) b) (if is_bit l b then Some r else None) found)
        ∙ ap (λ o. option_or o found) (sym (place_first l r ls rs b))
        ∙ (λ i. option_or (last_source (joins (sym el' i) (sym er' i)) b) found)
        ∙ so

  pub places_end : (found all : Option SigBit) → (length left ≤ at) ⊎ (length right ≤ at) → option_or (last_source (joins (drop at left) (drop at right)) b) found ≡ all → found ≡ all
  places_end found all past so = ap (λ o. option_or o found) (sym (none left right at past)) ∙ so
    where
      none : (left right : List SigBit) (at : ℕ) → (length left ≤ at) ⊎ (length right ≤ at) → last_source (joins (drop at left) (drop at right)) b ≡ None
      none [] [] zero h = refl
      none [] [] (suc at) h = refl
      none [] (r ∷ right) zero h = refl
      none [] (r ∷ right) (suc at) h = refl
      none (Fixed c ∷ left) [] zero h = refl
      none (OnWire a ∷ left) [] zero h = refl
      none (l ∷ left) (r ∷ right) zero (inl h) = absurd (omega arith)
      none (l ∷ left) (r ∷ right) zero (inr h) = absurd (omega arith)
      none (l ∷ left) [] (suc at) h = nothing (drop at left) b
      none (l ∷ left) (r ∷ right) (suc at) (inl h) = none left right at (inl (omega arith))
      none (l ∷ left) (r ∷ right) (suc at) (inr h) = none left right at (inr (omega arith))

pub source_append : (xs ys : List Join) (b : WireBit) → last_source (xs ++ ys) b ≡ option_or (last_source ys b) (last_source xs b)
source_append [] ys b = or_none (last_source ys b)
source_append (x ∷ xs) ys b =
    ap (λ o. option_or o (if same_bit x.bit b then Some x.source else None)) (source_append xs ys b)
    ∙ or_again (last_source ys b) (last_source xs b) (if same_bit x.bit b then Some x.source else None)

module _ (assigns : List Link) (b : WireBit) (at : ℕ) (x : Link) (h : at < length assigns) (e : x ≡ get_or assigns at x) where
  pub line_goes : (found found' all : Option SigBit) → found' ≡ option_or (last_source (joins x.left x.right) b) found → option_or (assigned (drop at assigns) b) found ≡ all → option_or (assigned (drop (at + 1) assigns) b) found' ≡ all
  line_goes found found' all is so =
      let ls = drop (suc at) assigns in
      let e' : drop at assigns ≡ x ∷ ls = drop-cons assigns at x h ∙ ap (λ y. y ∷ ls) (sym e) in
      (λ i. option_or (assigned (drop (add-one at i) assigns) b) (is i))
      ∙ sym (or_again (assigned ls b) (last_source (joins x.left x.right) b) found)
      ∙ ap (λ o. option_or o found) (sym (source_append (joins x.left x.right) (all_joins ls) b))
      ∙ ap (λ ys. option_or (assigned ys b) found) (sym e')
      ∙ so

-- a line that gives a bit something names it
pub names_is : (js : List Join) (b : WireBit) → is_some (last_source js b) ≡ list_any (λ (j : Join). same_bit j.bit b) js
names_is [] b = refl
names_is (j ∷ js) b = by (last_source js b) (same_bit j.bit b) (names_is js b)
  where
    by : (o : Option SigBit) (t : Bool) → is_some o ≡ list_any (λ (j : Join). same_bit j.bit b) js → is_some (option_or o (if t then Some j.source else None)) ≡ (t || list_any (λ (j : Join). same_bit j.bit b) js)
    by None false e = e
    by None true e = refl
    by (Some s) false e = e
    by (Some s) true e = refl

-- behind the last place there is no more of a value
pub value_end : (assigns : List Link) (run : List WireBit) (prior : List SigBit) (at : ℕ) → min (length run) (length prior) ≤ at → (value all : List SigBit) → value ++ run_value assigns (drop at run) (drop at prior) ≡ all → value ≡ all
value_end assigns run prior at past value all so = sym (ap (λ v. value ++ v) (none run prior at past) ∙ append-nil value) ∙ so
  where
    none : (run : List WireBit) (prior : List SigBit) (at : ℕ) → min (length run) (length prior) ≤ at → run_value assigns (drop at run) (drop at prior) ≡ []
    none [] prior zero h = refl
    none [] prior (suc at) h = refl
    none (b ∷ run) [] zero h = refl
    none (b ∷ run) [] (suc at) h = empty (drop at run)
      where
        empty : (run : List WireBit) → run_value assigns run [] ≡ []
        empty [] = refl
        empty (b ∷ run) = refl
    none (b ∷ run) (s ∷ prior) zero h = absurd (omega arith)
    none (b ∷ run) (s ∷ prior) (suc at) h = none run prior at (omega arith)
