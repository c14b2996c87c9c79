-- Rows of what the parts of a tree give, one part after another.
use Rattle.std.proofs.Common.{◌≡◌, ℕ, zero, suc, ◌+◌, ◌<◌, ◌≤◌, List, [], ◌∷◌, ◌++◌, length, drop, get_or, min, if◌then◌else◌, add-one, refl, sym, ◌∙◌, ap, arith}
use Rattle.std.proofs.Math.Seq.{drop-cons}
use Rattle.rtl_sig.specs.declared.sig.SigBit.{SigBit}
use Rattle.rtl_sig.specs.declared.sig.SigBit.TheVariants.{Fixed, Wire as OnWire}
use Rattle.rtl_sig.specs.declared.sig.WireBit.{WireBit}
use Rattle.rtl_ir.specs.declared.follow.Join.{Join}
use Rattle.rtl_ir.specs.declared.module.Link.{Link}
use Rattle.rtl_ir.specs.Follow.{all_joins, joins}
use Rattle.rtl_ir.specs.Signals.{same_bit}
use Rattle.rtl_ir.specs.Tree.{CaseView, SwitchView, cases_of, switches_of}
use Rattle.match_cells.specs.Numbers.{behind_case, behind_switch}
use Rattle.proc_mux.specs.Lines.{is_bit}
use Rattle.proc_mux.specs.Rows.{case_row, cases_row, joins_row, switch_row, switches_row, with_placed}
use Rattle.proc_mux.specs.declared.rows.Placed.{Placed}

-- one more switch
module _ (b : WireBit) (items : List SwitchView) (at : ℕ) where
  pub switch_goes : (s : SwitchView) (h : at < length items) (e : s ≡ get_or items at s) (n n' : ℕ) (row row' all : List Placed) → n' ≡ behind_switch n s.cases → row' ≡ switch_row n b s row → switches_row n b (switches_of (drop at items)) row ≡ all → switches_row n' b (switches_of (drop (at + 1) items)) row' ≡ all
  switch_goes s h e n n' row row' all is made so =
      let next : drop at items ≡ s ∷ drop (suc at) items = drop-cons items at s h ∙ ap (λ x. x ∷ drop (suc at) items) (sym e) in
      (λ i. switches_row (is i) b (switches_of (drop (add-one at i) items)) (made i))
      ∙ ap (λ ss. switches_row n b (switches_of ss) row) (sym next)
      ∙ so

  pub switches_end : (n : ℕ) (row all : List Placed) → length items ≤ at → switches_row n b (switches_of (drop at items)) row ≡ all → row ≡ all
  switches_end n row all past so = sym (ap (λ ss. switches_row n b (switches_of ss) row) (none items at past)) ∙ so
    where
      none : (items : List SwitchView) (at : ℕ) → length items ≤ at → drop at items ≡ []
      none [] zero h = refl
      none [] (suc at) h = refl
      none (x ∷ items) zero h = absurd (omega arith)
      none (x ∷ items) (suc at) h = none items at (omega arith)

-- one more case
module _ (b : WireBit) (items : List CaseView) (at : ℕ) where
  pub case_goes : (c : CaseView) (h : at < length items) (e : c ≡ get_or items at c) (n n' : ℕ) (row row' all : List Placed) → n' ≡ behind_case n c.switches → row' ≡ case_row n b c row → cases_row n b (cases_of (drop at items)) row ≡ all → cases_row n' b (cases_of (drop (at + 1) items)) row' ≡ all
  case_goes c h e n n' row row' all is made so =
      let next : drop at items ≡ c ∷ drop (suc at) items = drop-cons items at c h ∙ ap (λ x. x ∷ drop (suc at) items) (sym e) in
      (λ i. cases_row (is i) b (cases_of (drop (add-one at i) items)) (made i))
      ∙ ap (λ cs. cases_row n b (cases_of cs) row) (sym next)
      ∙ so

  pub cases_end : (n : ℕ) (row all : List Placed) → length items ≤ at → cases_row n b (cases_of (drop at items)) row ≡ all → row ≡ all
  cases_end n row all past so = sym (ap (λ cs. cases_row n b (cases_of cs) row) (none items at past)) ∙ so
    where
      none : (items : List CaseView) (at : ℕ) → length items ≤ at → drop at items ≡ []
      none [] zero h = refl
      none [] (suc at) h = refl
      none (x ∷ items) zero h = absurd (omega arith)
      none (x ∷ items) (suc at) h = none items at (omega arith)

-- one more assign
joins_both : (n : ℕ) (b : WireBit) (xs ys : List Join) (row : List Placed) → joins_row n b (xs ++ ys) row ≡ joins_row n b ys (joins_row n b xs row)
joins_both n b [] ys row = refl
joins_both n b (j ∷ xs) ys row = joins_both n b xs ys (if same_bit j.bit b then with_placed n j.source row else row)

module _ (n : ℕ) (b : WireBit) (assigns : List Link) (at : ℕ) where
  pub line_goes : (x : Link) (h : at < length assigns) (e : x ≡ get_or assigns at x) (row row' all : List Placed) → row' ≡ joins_row n b (joins x.left x.right) row → joins_row n b (all_joins (drop at assigns)) row ≡ all → joins_row n b (all_joins (drop (at + 1) assigns)) row' ≡ all
  line_goes x h e row row' all made so =
      let next : drop at assigns ≡ x ∷ drop (suc at) assigns = drop-cons assigns at x h ∙ ap (λ y. y ∷ drop (suc at) assigns) (sym e) in
      (λ i. joins_row n b (all_joins (drop (add-one at i) assigns)) (made i))
      ∙ sym (joins_both n b (joins x.left x.right) (all_joins (drop (suc at) assigns)) row)
      ∙ ap (λ ls. joins_row n b (all_joins ls) row) (sym next)
      ∙ so

  pub lines_end : (row all : List Placed) → length assigns ≤ at → joins_row n b (all_joins (drop at assigns)) row ≡ all → row ≡ all
  lines_end row all past so = sym (ap (λ ls. joins_row n b (all_joins ls) row) (none assigns at past)) ∙ so
    where
      none : (items : List Link) (at : ℕ) → length items ≤ at → drop at items ≡ []
      none [] zero h = refl
      none [] (suc at) h = refl
      none (x ∷ items) zero h = absurd (omega arith)
      none (x ∷ items) (suc at) h = none items at (omega arith)

-- one more place of an assign
place_first : (n : ℕ) (b : WireBit) (l r : SigBit) (ls rs : List SigBit) (row : List Placed) → joins_row n b (joins (l ∷ ls) (r ∷ rs)) row ≡ joins_row n b (joins ls rs) (if is_bit l b then with_placed n r row else row)
place_first n b (Fixed c) r ls rs row = refl
place_first n b (OnWire a) r ls rs row = refl

module _ (n : ℕ) (b : WireBit) (left right : List SigBit) (at : ℕ) where
  pub place_goes : (dl dr : SigBit) (hl : at < length left) (hr : at < length right) (row row' all : List Placed) → row' ≡ (if is_bit (get_or left at dl) b then with_placed n (get_or right at dr) row else row)
      → joins_row n b (joins (drop at left) (drop at right)) row ≡ all → joins_row n b (joins (drop (at + 1) left) (drop (at + 1) right)) row' ≡ all
  place_goes dl dr hl hr row row' all made so =
      let ls = drop (suc at) left in
      let rs = drop (suc at) right in
      let one : drop at left ≡ get_or left at dl ∷ ls = drop-cons left at dl hl in
      let two : drop at right ≡ get_or right at dr ∷ rs = drop-cons right at dr hr in
      (λ i. joins_row n b (joins (drop (add-one at i) left) (drop (add-one at i) right)) (made i))
      ∙ sym (place_first n b (get_or left at dl) (get_or right at dr) ls rs row)
      ∙ (λ i. joins_row n b (joins (sym one i) (sym two i)) row)
      ∙ so

  pub places_end : (row all : List Placed) → min (length left) (length right) ≤ at → joins_row n b (joins (drop at left) (drop at right)) row ≡ all → row ≡ all
  places_end row all past so = sym (ap (λ js. joins_row n b js row) (none left right at past)) ∙ so
    where
      nothing : (ls : List SigBit) → joins ls [] ≡ []
      nothing [] = refl
      nothing (Fixed c ∷ ls) = refl
      nothing (OnWire a ∷ ls) = refl

      none : (left right : List SigBit) (at : ℕ) → min (length left) (length right) ≤ at → joins (drop at left) (drop at right) ≡ []
      none [] right zero h = refl
      none [] right (suc at) h = refl
      none (Fixed c ∷ left) [] zero h = refl
      none (OnWire a ∷ left) [] zero h = refl
      none (l ∷ left) [] (suc at) h = nothing (drop at left)
      none (l ∷ left) (r ∷ right) zero h = absurd (omega arith)
      none (l ∷ left) (r ∷ right) (suc at) h = none left right at (omega arith)
