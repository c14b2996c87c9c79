-- What is known of where the ways from the arms of multiplexers end.
use Rattle.std.specs.Prelude.{◌≡◌, ℕ, ◌<◌, nat_eq, true, List, length, map, Option, Some, None, ◌⊎◌}
use Rattle.std.specs.Arc.{arc_value}
use Rattle.std.specs.HashMap.{get_by}
use Rattle.rtl_sig.specs.declared.sig.SigBit.{SigBit}
use Rattle.cell_types.specs.declared.pin_name.PinName.{PinName}
use Rattle.cell_types.specs.declared.pin_name.PinName.TheVariants.{A, B}
use Rattle.cell_types.specs.PinName.{pin_text}
use Rattle.rtl_ir.specs.Follow.{follow}
use Rattle.rtl_ir.specs.Parameters.{signal_at}
use Rattle.rtl_ir.specs.declared.cell.Cell.{Cell}
use Rattle.rtl_ir.specs.declared.module.Link.{Link}
use Rattle.opt_more.specs.Muxtree.{chooses_as, now_at, walk_by, way_on}
use Rattle.opt_more.specs.declared.ends.Arm.{Arm}
use Rattle.opt_more.specs.declared.ends.Arms.{Arms}
use Rattle.opt_more.specs.declared.ends.End.{End}

-- ways end at a word: none leads on from it, or it leads to itself
abbrev pub EndsAt : (List SigBit → Option (List SigBit)) → List SigBit → Type 0
EndsAt on word = (on word ≡ None) ⊎ (on word ≡ Some word)

-- so many steps lead from one word to another, at which ways end
abbrev pub LeadsTo : (List SigBit → Option (List SigBit)) → ℕ → (from word : List SigBit) → Type 0
LeadsTo on steps from word = (walk_by on steps from ≡ word) × EndsAt on word

-- the way from the arm of the cell at a place ends with the word after so many steps, for each cell that it chooses as
abbrev pub IsKnown : PinName → List Cell → List (Option Cell) → List Link → ℕ → ℕ → List SigBit → Type 0
IsKnown arm cells slots links place steps word =
    (c e : Cell) → now_at slots (Some place) ≡ Some e → chooses_as links c e ≡ true
    → LeadsTo (way_on arm cells slots links c) steps (map (follow links) (signal_at e.pins (pin_text arm))) word

-- the ends that are known of an arm are so, each after fewer steps than there are cells
pub record AreEnds (arm : Arm) (cells : List Cell) (slots : List (Option Cell)) (links : List Link) : Type 0 where
  pub known : (place : ℕ) (end : End) → get_by (nat_eq place) arm.ends ≡ Some end
      → IsKnown arm.name cells slots links place end.steps (arc_value end.word)
  pub few : (place : ℕ) (end : End) → get_by (nat_eq place) arm.ends ≡ Some end → end.steps < length slots

-- those of both arms
pub record AreArms (arms : Arms) (cells : List Cell) (slots : List (Option Cell)) (links : List Link) : Type 0 where
  pub a : AreEnds arms.a cells slots links
  pub b : AreEnds arms.b cells slots links
  pub first : arms.a.name ≡ A
  pub second : arms.b.name ≡ B

-- a way leads from a word, for a cell, by the cell at a place to its arm
abbrev pub Passes : PinName → List (Option Cell) → List Link → Cell → ℕ → List SigBit → Type 0
Passes arm slots links c place next =
    (e : Cell) × (now_at slots (Some place) ≡ Some e) × (chooses_as links c e ≡ true)
    × (map (follow links) (signal_at e.pins (pin_text arm)) ≡ next)
