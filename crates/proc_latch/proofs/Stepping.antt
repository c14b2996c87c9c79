-- Bits that are always updated, one by one: what they add.
use Rattle.std.proofs.Common.{◌≡◌, ℕ, zero, suc, ◌+◌, ◌<◌, ◌≤◌, Bool, true, false, List, [], ◌∷◌, ◌++◌, length, drop, get_or, if◌then◌else◌, ◌⊎◌, inl, inr, refl, sym, ◌∙◌, ap, subst, arith, add-one, length-append}
use Rattle.std.specs.Prelude.{codes}
use Rattle.std.proofs.Math.Seq.{drop-cons}
use Rattle.rtl_sig.specs.declared.sig.SigBit.{SigBit}
use Rattle.rtl_sig.specs.declared.sig.SigBit.TheVariants.{Fixed, Wire as OnWire}
use Rattle.rtl_sig.specs.declared.sig.WireBit.{WireBit}
use Rattle.rtl_ir.specs.declared.module.Link.{Link}
use Rattle.rtl_ir.specs.declared.cell.Cell.{Cell}
use Rattle.rtl_ir.specs.Build.{Building, made_name, new_link}
use Rattle.rtl_ir.specs.Flat.Process.{may_hold}
use Rattle.rtl_ir.specs.Follow.{all_joins, joins}
use Rattle.rtl_ir.specs.declared.follow.Join.{Join}
use Rattle.rtl_ir.specs.Tree.{CaseView}
use Rattle.net_index.specs.Builder.{PassesLimit}
use Rattle.net_model.specs.Proc.Latch.{Side, ForData, ForEnable, latch_cell}
use Rattle.match_cells.specs.Trees.{Numbered}
use Rattle.match_cells.proofs.Growing.{Grows, grows_more, grows_none, link_grows, over_later}
use Rattle.proc_latch.specs.Parts.{latch_params, latch_pins}
use Rattle.proc_latch.specs.Steps.{always_step, always_steps, latch_step, side_value}
use Rattle.proc_latch.proofs.Leaves.{leaf_adds}

pub latch_grows : (q : WireBit) (new enable : SigBit) (b : Building) → Grows b (latch_cell q new enable b)
latch_grows q new enable b = record {
  cells = omega (arith, length-append b.body.cells (cell ∷ []));
  bits = omega arith;
  names = omega arith;
}
  where
    cell : Cell
    cell = record { kind_name = codes "$dlatch"; name = made_name b.next; params = latch_params; pins = latch_pins q new enable; attributes = [] }

module _ (root : CaseView) (bits : List WireBit) where
  pub side_grows : (side : Side) (j : Join) (t : Numbered) → Grows t.building (side_value side root bits j t).1.building
  side_grows side j t = leaf_adds side root bits j.bit (length bits) j.source (record { trees = t; chains = [] })

  module _ (j : Join) (t : Numbered) where
    abbrev new : SigBit × Numbered
    new = side_value ForData root bits j t

    abbrev enable : SigBit × Numbered
    enable = side_value ForEnable root bits j new.1

    pub latch_step_grows : Grows t.building (latch_step root bits j t).building
    unfolding latch_step
    latch_step_grows =
        grows_more t.building new.1.building (latch_step root bits j t).building (side_grows ForData j t)
        (grows_more new.1.building enable.1.building (latch_step root bits j t).building (side_grows ForEnable j new.1) (latch_grows j.bit new.0 enable.0 enable.1.building))

    -- where the cells of the data pass a limit, the latch does
    pub data_over : PassesLimit new.1.building → PassesLimit (latch_step root bits j t).building
    unfolding latch_step
    data_over over =
        over_later new.1.building (latch_step root bits j t).building
        (grows_more new.1.building enable.1.building (latch_step root bits j t).building (side_grows ForEnable j new.1) (latch_grows j.bit new.0 enable.0 enable.1.building)) over

    -- .. or those of the enable
    pub enable_over : (s : SigBit) (t' : Numbered) → (s, t') ≡ new → PassesLimit (side_value ForEnable root bits j t').1.building → PassesLimit (latch_step root bits j t).building
    unfolding latch_step
    enable_over s t' made over =
        over_later enable.1.building (latch_step root bits j t).building (latch_grows j.bit new.0 enable.0 enable.1.building)
        (subst (λ (r : SigBit × Numbered). PassesLimit (side_value ForEnable root bits j r.1).1.building) made over)

    -- all of it is the latch
    pub latch_is : (s : SigBit) (t' : Numbered) → (s, t') ≡ new → (e : SigBit) (t'' : Numbered) → (e, t'') ≡ side_value ForEnable root bits j t' → record { building = latch_cell j.bit s e t''.building; made = t''.made } ≡ latch_step root bits j t
    unfolding latch_step
    latch_is s t' made e t'' later =
        let f : (e, t'') ≡ enable = later ∙ ap (λ (r : SigBit × Numbered). side_value ForEnable root bits j r.1) made in
        λ i. record { building = latch_cell j.bit (made i).0 (f i).0 (f i).1.building; made = (f i).1.made }

    pub always_grows : Grows t.building (always_step root bits j t).building
    unfolding always_step
    always_grows = by (may_hold root bits j)
      where
        by : (h : Bool) → Grows t.building (if h then latch_step root bits j t else record { building = new_link (OnWire j.bit ∷ []) (j.source ∷ []) t.building; made = t.made }).building
        by true = latch_step_grows
        by false = link_grows (OnWire j.bit ∷ []) (j.source ∷ []) t.building

  pub steps_grow : (js : List Join) (t : Numbered) → Grows t.building (always_steps root bits js t).building
  steps_grow [] t = grows_none t.building
  steps_grow (j ∷ js) t =
      grows_more t.building (always_step root bits j t).building (always_steps root bits js (always_step root bits j t)).building
      (always_grows j t) (steps_grow js (always_step root bits j t))

  pub steps_both : (js ks : List Join) (t : Numbered) → always_steps root bits (js ++ ks) t ≡ always_steps root bits ks (always_steps root bits js t)
  steps_both [] ks t = refl
  steps_both (j ∷ js) ks t = steps_both js ks (always_step root bits j t)

  -- one more line, at a place
  module _ (lines : List Link) (at : ℕ) (l : Link) (h : at < length lines) (e : l ≡ get_or lines at l) where
    next : drop at lines ≡ l ∷ drop (suc at) lines
    next = drop-cons lines at l h ∙ ap (λ k. k ∷ drop (suc at) lines) (sym e)

    split : (t : Numbered) → always_steps root bits (all_joins (drop at lines)) t ≡ always_steps root bits (all_joins (drop (suc at) lines)) (always_steps root bits (joins l.left l.right) t)
    split t = ap (λ ls. always_steps root bits (all_joins ls) t) next ∙ steps_both (joins l.left l.right) (all_joins (drop (suc at) lines)) t

    pub line_goes : (t t' all : Numbered) → t' ≡ always_steps root bits (joins l.left l.right) t → always_steps root bits (all_joins (drop at lines)) t ≡ all → always_steps root bits (all_joins (drop (at + 1) lines)) t' ≡ all
    line_goes t t' all made so =
        (λ i. always_steps root bits (all_joins (drop (add-one at i) lines)) (made i)) ∙ sym (split t) ∙ so

    pub line_over : (t all : Numbered) → always_steps root bits (all_joins (drop at lines)) t ≡ all → PassesLimit (always_steps root bits (joins l.left l.right) t).building → PassesLimit all.building
    line_over t all so over =
        let later = always_steps root bits (joins l.left l.right) t in
        subst (λ (s : Numbered). PassesLimit s.building) (sym (split t) ∙ so)
        (over_later later.building (always_steps root bits (all_joins (drop (suc at) lines)) later).building (steps_grow (all_joins (drop (suc at) lines)) later) over)

  -- the first place of a line, and those behind it
  place_first : (l r : SigBit) (ls rs : List SigBit) (t : Numbered) → always_steps root bits (joins (l ∷ ls) (r ∷ rs)) t ≡ always_steps root bits (joins ls rs) (always_steps root bits (joins (l ∷ []) (r ∷ [])) t)
  place_first (Fixed c) r ls rs t = refl
  place_first (OnWire b) r ls rs t = refl

  module _ (left right : List SigBit) (at : ℕ) where
    -- one more place
    module _ (dl dr : SigBit) (hl : at < length left) (hr : at < length right) where
      abbrev l : SigBit
      l = get_or left at dl

      abbrev r : SigBit
      r = get_or right at dr

      split_place : (t : Numbered) → always_steps root bits (joins (drop at left) (drop at right)) t ≡ always_steps root bits (joins (drop (suc at) left) (drop (suc at) right)) (always_steps root bits (joins (l ∷ []) (r ∷ [])) t)
      split_place t =
          (λ i. always_steps root bits (joins (drop-cons left at dl hl i) (drop-cons right at dr hr i)) t)
          ∙ place_first l r (drop (suc at) left) (drop (suc at) right) t

      pub place_goes : (t t' all : Numbered) → t' ≡ always_steps root bits (joins (l ∷ []) (r ∷ [])) t → always_steps root bits (joins (drop at left) (drop at right)) t ≡ all → always_steps root bits (joins (drop (at + 1) left) (drop (at + 1) right)) t' ≡ all
      place_goes t t' all made so =
          (λ i. always_steps root bits (joins (drop (add-one at i) left) (drop (add-one at i) right)) (made i)) ∙ sym (split_place t) ∙ so

      pub place_over : (t all : Numbered) → always_steps root bits (joins (drop at left) (drop at right)) t ≡ all → PassesLimit (always_steps root bits (joins (l ∷ []) (r ∷ [])) t).building → PassesLimit all.building
      place_over t all so over =
          let later = always_steps root bits (joins (l ∷ []) (r ∷ [])) t in
          let rest = joins (drop (suc at) left) (drop (suc at) right) in
          subst (λ (s : Numbered). PassesLimit s.building) (sym (split_place t) ∙ so)
          (over_later later.building (always_steps root bits rest later).building (steps_grow rest later) over)

    -- behind the last place
    pub places_end : (t all : Numbered) → (length left ≤ at) ⊎ (length right ≤ at) → always_steps root bits (joins (drop at left) (drop at right)) t ≡ all → t ≡ all
    places_end t all past so = ap (λ js. always_steps root bits js t) (sym (none left right at past)) ∙ so
      where
        nothing : (ls : List SigBit) → joins ls [] ≡ []
        nothing [] = refl
        nothing (l ∷ ls) = refl

        none : (left right : List SigBit) (at : ℕ) → (length left ≤ at) ⊎ (length right ≤ at) → joins (drop at left) (drop at right) ≡ []
        none [] right zero h = refl
        none [] right (suc at) h = refl
        none (l ∷ left) [] zero h = refl
        none (l ∷ left) [] (suc at) h = nothing (drop at left)
        none (l ∷ left) (r ∷ right) zero (inl h) = absurd (omega arith)
        none (l ∷ left) (r ∷ right) zero (inr h) = absurd (omega arith)
        none (l ∷ left) (r ∷ right) (suc at) (inl h) = none left right at (inl (omega arith))
        none (l ∷ left) (r ∷ right) (suc at) (inr h) = none left right at (inr (omega arith))
