-- The ways that are found while the way from an arm is gone.
use Rattle.std.proofs.Common.{◌≡◌, ℕ, suc, ◌+◌, ◌-◌, ◌<◌, List, Option, Some, length, sym, subst}
use Rattle.std.specs.Prelude.{slice_index_or}
use Rattle.std.specs.Arc.{arc_value}
use Rattle.rtl_sig.specs.declared.sig.SigBit.{SigBit}
use Rattle.rtl_ir.specs.declared.cell.Cell.{Cell}
use Rattle.rtl_ir.specs.declared.module.Link.{Link}
use Rattle.opt_more.specs.Ends.{AreEnds, EndsAt, IsKnown, LeadsTo, Passes}
use Rattle.opt_more.specs.Muxtree.{way_on}
use Rattle.opt_more.specs.Ways.{IsWay}
use Rattle.opt_more.specs.declared.ends.Arm.{Arm}
use Rattle.opt_more.specs.declared.ends.End.{End}
use Rattle.opt_more.specs.declared.muxes.Way.{Way}
use Rattle.opt_more.specs.declared.muxes.Way.TheVariants.{Ends, On, Known}
use Rattle.opt_more.proofs.Learning.{HasPassed, passed_known}

-- for a cell, from a word, over what is known of an arm
module _ (cells : List Cell) (slots : List (Option Cell)) (links : List Link) (c : Cell) (arm known : Arm) (same : known ≡ arm) (word : List SigBit) where
  abbrev on : List SigBit → Option (List SigBit)
  on = way_on arm.name cells slots links c

  pub still_ends : AreEnds arm cells slots links → AreEnds known cells slots links
  still_ends ends = subst (λ z. AreEnds z cells slots links) (sym same) ends

  -- each kind of a way
  module _ (ends : AreEnds arm cells slots links) (slice : List SigBit) (at : slice ≡ word) (way : Way) (found : AreEnds known cells slots links → IsWay known.name cells slots links c slice way) where
    is_way : IsWay arm.name cells slots links c word way
    is_way =
        subst (λ z. IsWay arm.name cells slots links c z way) at
        (subst (λ z. IsWay z.name cells slots links c slice way) same (found (still_ends ends)))

    pub way_ends : way ≡ Ends → EndsAt on word
    way_ends e = subst (IsWay arm.name cells slots links c word) e is_way

    pub way_passes : (place : ℕ) (next : List SigBit) → way ≡ On place next → (on word ≡ Some next) × Passes arm.name slots links c place next
    way_passes place next e = subst (IsWay arm.name cells slots links c word) e is_way

    pub way_known : (end : End) → way ≡ Known end → LeadsTo on (suc end.steps) word (arc_value end.word)
    way_known end e = subst (IsWay arm.name cells slots links c word) e is_way

  -- where the word leads to an end, so do the arms of the cells that were passed
  pub all_known : (passed list : List ℕ) (steps : ℕ) (end : List SigBit) → list ≡ passed → HasPassed arm.name cells slots links c passed word → LeadsTo on steps word end → (back : ℕ) → back < length list → IsKnown known.name cells slots links (slice_index_or list (length list - 1 - back) 0) (steps + back) end
  all_known passed list steps end e h leads back lt =
      subst (λ z. IsKnown z.name cells slots links (slice_index_or list (length list - 1 - back) 0) (steps + back) end) (sym same)
      (passed_known arm.name cells slots links c list word end steps back (subst (λ z. HasPassed arm.name cells slots links c z word) (sym e) h) leads lt)
