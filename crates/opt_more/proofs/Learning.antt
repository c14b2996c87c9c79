-- What is learnt of the ways from the arms of the multiplexers that a way passes.
use Rattle.std.proofs.Common.{◌≡◌, ℕ, zero, suc, ◌+◌, ◌-◌, ◌<◌, ◌≤◌, arith, Bool, true, false, List, [], ◌∷◌, ◌++◌, length, Option, Some, None, inl, inr, refl, sym, ◌∙◌, ap, subst}
use Rattle.std.specs.Prelude.{nat_eq, if◌then◌else◌, nat_lt, slice_index_or}
use Rattle.std.specs.Arc.{arc_value}
use Rattle.std.specs.HashMap.{get_by}
use Rattle.std.proofs.lemmas.Bool.{and_parts, ltb-false, ltb-true}
use Rattle.std.proofs.lemmas.List.{length-append}
use Rattle.cell_types.specs.PinName.{pin_text}
use Rattle.cell_types.specs.declared.pin_name.PinName.{PinName}
use Rattle.cell_types.specs.declared.pin_name.PinName.TheVariants.{Y}
use Rattle.rtl_sig.specs.declared.sig.SigBit.{SigBit}
use Rattle.rtl_ir.specs.Parameters.{signal_at}
use Rattle.rtl_ir.specs.Signals.{same_signal}
use Rattle.rtl_ir.specs.declared.cell.Cell.{Cell}
use Rattle.rtl_ir.specs.declared.module.Link.{Link}
use Rattle.pass_laws.proofs.SamePlaces.{signal_is}
use Rattle.opt_expr.specs.Places.{place_of}
use Rattle.opt_more.specs.Ends.{AreEnds, EndsAt, IsKnown, LeadsTo, Passes}
use Rattle.opt_more.specs.Muxtree.{arm_of, chooses_as, gives_as, now_at, walk_by, way_on}
use Rattle.opt_more.specs.declared.ends.Arm.{Arm}
use Rattle.opt_more.specs.declared.ends.End.{End}
use Rattle.opt_more.proofs.Knowing.{arm_at, same_ways}
use Rattle.opt_more.proofs.Walks.{one_step, walk_more}

-- a place, or one place past the end
same_before : (xs : List ℕ) (x at : ℕ) → at < length xs → slice_index_or (xs ++ x ∷ []) at 0 ≡ slice_index_or xs at 0
same_before [] x at lt = absurd (omega (arith, lt))
same_before (y ∷ xs) x zero lt = refl
same_before (y ∷ xs) x (suc at) lt = same_before xs x at (omega (arith, lt))

at_last : (xs : List ℕ) (x at : ℕ) → at ≡ length xs → slice_index_or (xs ++ x ∷ []) at 0 ≡ x
at_last [] x zero e = refl
at_last [] x (suc at) e = absurd (omega (arith, e))
at_last (y ∷ xs) x zero e = absurd (omega (arith, e))
at_last (y ∷ xs) x (suc at) e = at_last xs x at (omega (arith, e))

module _ (arm : PinName) (cells : List Cell) (slots : List (Option Cell)) (links : List Link) (c : Cell) where
  abbrev on : List SigBit → Option (List SigBit)
  on = way_on arm cells slots links c

  -- a way for one cell is one for each that chooses alike
  pub known_by : (place : ℕ) (e : Cell) (steps : ℕ) (word : List SigBit) → now_at slots (Some place) ≡ Some e → chooses_as links c e ≡ true → LeadsTo on steps (arm_at arm links e) word → IsKnown arm cells slots links place steps word
  known_by place e steps word at chooses h d f there chosen =
      let same : e ≡ f = (let both : Some e ≡ Some f = sym at ∙ there in cc) in
      let chooses' : chooses_as links c f ≡ true = subst (λ z. chooses_as links c z ≡ true) same chooses in
      let ways : on ≡ way_on arm cells slots links d = same_ways links arm cells slots c d f chooses' chosen in
      subst (λ z. LeadsTo z steps (arm_at arm links f) word) ways (subst (λ z. LeadsTo on steps (arm_at arm links z) word) same h)

  -- the way has passed cells at these places, and has come to a word
  pub record HasPassed (passed : List ℕ) (word : List SigBit) : Type 0 where
    pub each : (at : ℕ) → at < length passed → (e : Cell) × (now_at slots (Some (slice_index_or passed at 0)) ≡ Some e) × (chooses_as links c e ≡ true) × (walk_by on (length passed - (at + 1)) (arm_at arm links e) ≡ word)

  pub none_passed : (word : List SigBit) → HasPassed [] word
  none_passed word = record { each = λ at lt. absurd (omega (arith, lt)) }

  pub one_passed : (passed : List ℕ) (word next : List SigBit) (place : ℕ) → on word ≡ Some next → Passes arm slots links c place next → HasPassed passed word → HasPassed (passed ++ place ∷ []) next
  one_passed passed word next place step passes h = record { each = by }
    where
      long : length (passed ++ place ∷ []) ≡ length passed + 1
      long = length-append passed (place ∷ [])

      Goal : ℕ → Type 0
      Goal at =
          (e : Cell) × (now_at slots (Some (slice_index_or (passed ++ place ∷ []) at 0)) ≡ Some e) × (chooses_as links c e ≡ true) × (walk_by on (length (passed ++ place ∷ []) - (at + 1)) (arm_at arm links e) ≡ next)

      before : (at : ℕ) → at < length passed → Goal at
      before at lt =
          let k = h.each at lt in
          let steps : length (passed ++ place ∷ []) - (at + 1) ≡ (length passed - (at + 1)) + 1 = omega (arith, long, lt) in (
            k.0,
            ap (λ z. now_at slots (Some z)) (same_before passed place at lt) ∙ k.1,
            k.2,
            ap (λ n. walk_by on n (arm_at arm links k.0)) steps
                ∙ walk_more on (length passed - (at + 1)) 1 (arm_at arm links k.0)
                ∙ ap (walk_by on 1) k.3
                ∙ one_step on 0 word next step,
          )

      last : (at : ℕ) → at ≡ length passed → Goal at
      last at e =
          let steps : length (passed ++ place ∷ []) - (at + 1) ≡ 0 = omega (arith, long, e) in (
            passes.0,
            ap (λ z. now_at slots (Some z)) (at_last passed place at e) ∙ passes.1,
            passes.2,
            ap (λ n. walk_by on n (arm_at arm links passes.0)) steps ∙ passes.3,
          )

      by : (at : ℕ) → at < length (passed ++ place ∷ []) → Goal at
      by at lt = pick (nat_lt at (length passed)) refl
        where
          pick : (t : Bool) → nat_lt at (length passed) ≡ t → Goal at
          pick true e = before at (ltb-true at (length passed) e)
          pick false e = let le : length passed ≤ at = ltb-false at (length passed) e in last at (omega (arith, le, lt, long))

  -- where the word leads to an end, so do the arms of those cells
  pub passed_known : (passed : List ℕ) (word end : List SigBit) (steps back : ℕ) → HasPassed passed word → LeadsTo on steps word end → back < length passed → IsKnown arm cells slots links (slice_index_or passed (length passed - 1 - back) 0) (steps + back) end
  passed_known passed word end steps back h leads lt =
      let k = h.each (length passed - 1 - back) (omega (arith, lt)) in
      let far : length passed - ((length passed - 1 - back) + 1) ≡ back = omega (arith, lt) in
      let sum : steps + back ≡ back + steps = omega arith in
      let here : walk_by on back (arm_at arm links k.0) ≡ word = ap (λ n. walk_by on n (arm_at arm links k.0)) (sym far) ∙ k.3 in
      known_by (slice_index_or passed (length passed - 1 - back) 0) k.0 (steps + back) end k.1 k.2
      (ap (λ n. walk_by on n (arm_at arm links k.0)) sum ∙ walk_more on back steps (arm_at arm links k.0) ∙ ap (walk_by on steps) here ∙ leads.0, leads.1)

  -- the way on from a word, by what stands at the place of the cell that gives it
  module _ (word : List SigBit) where
    pub no_place : place_of cells word ≡ None → EndsAt on word
    no_place e = inl (ap (λ o. arm_of arm links c word (now_at slots o)) e)

    pub no_cell : (place : ℕ) → place_of cells word ≡ Some place → now_at slots (Some place) ≡ None → EndsAt on word
    no_cell place e f = inl (ap (λ o. arm_of arm links c word (now_at slots o)) e ∙ ap (arm_of arm links c word) f)

    by_cell : (place : ℕ) (e : Cell) → place_of cells word ≡ Some place → now_at slots (Some place) ≡ Some e → on word ≡ (if gives_as links c word e then Some (arm_at arm links e) else None)
    by_cell place e p f = ap (λ o. arm_of arm links c word (now_at slots o)) p ∙ ap (arm_of arm links c word) f

    pub not_given : (place : ℕ) (e : Cell) → place_of cells word ≡ Some place → now_at slots (Some place) ≡ Some e → gives_as links c word e ≡ false → EndsAt on word
    not_given place e p f g = inl (by_cell place e p f ∙ ap (λ t. if t then Some (arm_at arm links e) else None) g)

    pub is_given : (place : ℕ) (e : Cell) → place_of cells word ≡ Some place → now_at slots (Some place) ≡ Some e → gives_as links c word e ≡ true → on word ≡ Some (arm_at arm links e)
    is_given place e p f g = by_cell place e p f ∙ ap (λ t. if t then Some (arm_at arm links e) else None) g

    chooses : (e : Cell) → gives_as links c word e ≡ true → chooses_as links c e ≡ true
    chooses e g = (and_parts (chooses_as links c e) (same_signal (signal_at e.pins (pin_text Y)) word) g).0

    -- it leads to the arm of that cell
    pub leads_on : (place : ℕ) (e : Cell) (next : List SigBit) → place_of cells word ≡ Some place → now_at slots (Some place) ≡ Some e → gives_as links c word e ≡ true → next ≡ arm_at arm links e → (on word ≡ Some next) × Passes arm slots links c place next
    leads_on place e next p f g is = (is_given place e p f g ∙ ap Some (sym is), (e, f, chooses e g, sym is))

    -- or to the word itself
    pub leads_back : (place : ℕ) (e : Cell) (next : List SigBit) → place_of cells word ≡ Some place → now_at slots (Some place) ≡ Some e → gives_as links c word e ≡ true → next ≡ arm_at arm links e → same_signal next word ≡ true → EndsAt on word
    leads_back place e next p f g is same = inr (is_given place e p f g ∙ ap Some (sym is ∙ signal_is next word same))

    -- or where it is known to end
    pub leads_far : (known : Arm) (place : ℕ) (e : Cell) (end : End) → known.name ≡ arm → place_of cells word ≡ Some place → now_at slots (Some place) ≡ Some e → gives_as links c word e ≡ true → AreEnds known cells slots links → get_by (nat_eq place) known.ends ≡ Some end → LeadsTo on (suc end.steps) word (arc_value end.word)
    leads_far known place e end name p f g ends here =
        let h = subst (λ z. IsKnown z cells slots links place end.steps (arc_value end.word)) name (ends.known place end here) c e f (chooses e g) in
        (one_step on end.steps word (arm_at arm links e) (is_given place e p f g) ∙ h.0, h.1)
