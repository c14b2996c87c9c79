-- Which parts are to be evaluated.
use Rattle.std.specs.Prelude.{◌≡◌, ◌<◌, ◌⊎◌, ℕ, ◌+◌, ◌≤◌, Bool, true, false, List, length, Some, slice_get, slice_index_or, slice_set}
use Rattle.rtl_bits.specs.declared.bit.Bit.{Bit}
use Rattle.rtl_bits.specs.declared.bit.Bit.TheVariants.{X}
use Rattle.rtl_ir.specs.Flat.Place.{Place}
use Rattle.flat_net.specs.declared.net.Part.{Part}
use Rattle.flat_net.specs.Parts.{part_rows, parts_rows}
use Rattle.net_model.specs.Lists.{In}
use Rattle.net_model.specs.Run.{Time}
use Rattle.net_model.specs.Valuation.{Valuation}
use Rattle.sim_eval.specs.declared.agenda.Agenda.{Agenda}
use Rattle.sim_eval.specs.declared.readers.Readers.{Readers}
use Rattle.sim_eval.specs.Advance.{AreMet, AreUnder}
use Rattle.sim_eval.specs.Numbers.{is_x}
use Rattle.sim_eval.specs.Reads.{readers_at}
use Rattle.sim_eval.specs.Shown.{shown}

-- there is a mark at a place
abbrev pub has_mark : List Bool → ℕ → Bool
has_mark marks at = slice_index_or marks at false

-- the part at a place is to be evaluated
abbrev pub is_marked : Agenda → ℕ → Bool
is_marked a at = has_mark a.marks.items at

-- the readers of the bit of a number know that it has a value
abbrev pub is_told : Agenda → ℕ → Bool
is_told a number = has_mark a.told.items number

-- each part that is to be evaluated is in the list
abbrev pub AreListed : Agenda → Type 0
AreListed a = (at : ℕ) → is_marked a at ≡ true → In at a.places.items

-- no part is to be evaluated
abbrev pub IsUnmarked : Agenda → Type 0
IsUnmarked a = (at : ℕ) → is_marked a at ≡ false

-- all of so many parts are to be evaluated, and none of so many bits has a value
pub record IsWhole (a : Agenda) (parts bits : ℕ) : Type 0 where
  pub marks : length a.marks.items ≡ parts
  pub told : length a.told.items ≡ bits
  pub all : (at : ℕ) → at < parts → is_marked a at ≡ true
  pub none : (number : ℕ) → is_told a number ≡ false
  pub listed : AreListed a

-- no part is to be evaluated, where all that are were in the list
pub record IsEmptied (old new : Agenda) : Type 0 where
  pub marks : new.marks.items ≡ old.marks.items
  pub told : new.told.items ≡ old.told.items
  pub none : AreListed old → IsUnmarked new

-- the part at a place is taken off
pub record TakesOff (old new : Agenda) (place : ℕ) : Type 0 where
  pub within : place < length old.marks.items
  pub marks : new.marks.items ≡ slice_set old.marks.items place false
  pub told : new.told.items ≡ old.told.items
  pub listed : AreListed old → AreListed new
  pub shorter : length new.places.items + 1 ≤ length old.places.items

-- the parts at these places are to be evaluated, and those that were
pub record Marks (old new : Agenda) (places : List ℕ) : Type 0 where
  pub same : length new.marks.items ≡ length old.marks.items
  pub told : new.told.items ≡ old.told.items
  pub keeps : (at : ℕ) → is_marked old at ≡ true → is_marked new at ≡ true
  pub marks : (at : ℕ) → In at places → at < length old.marks.items → is_marked new at ≡ true
  pub listed : AreListed old → AreListed new

-- a bit has a value, and its readers are to be evaluated
pub record HasTold (a : Agenda) (readers : Readers) (now : List Bit) (number : ℕ) : Type 0 where
  pub valued : is_x (slice_index_or now number X) ≡ false
  pub marked : (at : ℕ) → In at (readers_at readers number) → at < length a.marks.items → is_marked a at ≡ true

-- the readers of the bits of these numbers are told of their values, and those that were to be evaluated still are
pub record Tells (old new : Agenda) (readers : Readers) (now : List Bit) (numbers : List ℕ) : Type 0 where
  pub same : length new.marks.items ≡ length old.marks.items
  pub same_told : length new.told.items ≡ length old.told.items
  pub keeps : (at : ℕ) → is_marked old at ≡ true → is_marked new at ≡ true
  pub keeps_told : (number : ℕ) → is_told old number ≡ true → is_told new number ≡ true
  pub told : (number : ℕ) → is_told new number ≡ true → (is_told old number ≡ true) ⊎ HasTold new readers now number
  pub tells :
      (number : ℕ) → In number numbers → number < length old.told.items → is_x (slice_index_or now number X) ≡ false → is_told new number ≡ true
  pub listed : AreListed old → AreListed new

-- the values of numbered bits stand below each valuation that meets the parts at a time, and meet each part that is not to be
-- evaluated and is none of these, if any valuation meets the parts
pub record IsSettlingBut (ps : List Place) (t : Time Place) (parts : List Part) (a : Agenda) (now : List Bit) (apart : ℕ → Type 0) : Type 0 where
  pub marks : length a.marks.items ≡ length parts
  pub bits : length a.told.items ≡ length now
  pub under : AreUnder ps t (parts_rows ps parts) now
  pub met :
      (at : ℕ) (p : Part) → slice_get parts at ≡ Some p → is_marked a at ≡ false → (apart at → ⊥) →
      (w : Valuation) → AreMet (parts_rows ps parts) t w → AreMet (part_rows ps p) t (shown ps now)
  pub told : (number : ℕ) → is_told a number ≡ true → is_x (slice_index_or now number X) ≡ false
  pub listed : AreListed a

-- they meet each part that is not to be evaluated
abbrev pub IsSettling : List Place → Time Place → List Part → Agenda → List Bit → Type 0
IsSettling ps t parts a now = IsSettlingBut ps t parts a now (λ at. ⊥)
