-- The first driver of each bit.
use Rattle.std.specs.Prelude.{◌≡◌, ℕ, Bool, true, false, ◌||◌, List, [], ◌∷◌, length, slice_index_or, slice_set, if◌then◌else◌, Option, Some, None}
use Rattle.rtl_ir.specs.Flat.Driver.{Driven}
use Rattle.rtl_ir.specs.Flat.Place.{Place, place_same}
use Rattle.flat_net.specs.declared.memory.ReadPort.{ReadPort}
use Rattle.flat_net.specs.declared.net.Output.{Output}
use Rattle.flat_net.specs.declared.net.Part.{Part}
use Rattle.flat_net.specs.Parts.{part_rows}
use Rattle.flat_net.specs.Points.{AreApart}
use Rattle.flat_net.specs.Within.{IsPartWithin}
use Rattle.sim_eval.specs.Shown.{found}

-- the items whose numbers are not marked, and of those of one number the first
abbrev pub unmarked : {A : Type 0} → (A → ℕ) → List Bool → List A → List A
unmarked number seen [] = []
unmarked number seen (x ∷ xs) =
    if slice_index_or seen (number x) false
    then unmarked number (slice_set seen (number x) true) xs
    else x ∷ unmarked number (slice_set seen (number x) true) xs

-- the marks with those of the numbers of these items
abbrev pub marked : {A : Type 0} → (A → ℕ) → List Bool → List A → List Bool
marked number seen [] = seen
marked number seen (x ∷ xs) = marked number (slice_set seen (number x) true) xs

-- a read port without the bits whose numbers are marked
abbrev pub unmarked_port : List Bool → ReadPort → ReadPort
unmarked_port seen r = record { address = r.address; outputs = unmarked (λ (o : Output). o.number) seen r.outputs }

-- read ports without the bits whose numbers are marked, or that an earlier one drives
abbrev pub unmarked_ports : List Bool → List ReadPort → List ReadPort
unmarked_ports seen [] = []
unmarked_ports seen (r ∷ ports) =
    unmarked_port seen r ∷ unmarked_ports (marked (λ (o : Output). o.number) seen r.outputs) ports

-- the marks with those of the bits that read ports drive
abbrev pub marked_ports : List Bool → List ReadPort → List Bool
marked_ports seen [] = seen
marked_ports seen (r ∷ ports) = marked_ports (marked (λ (o : Output). o.number) seen r.outputs) ports

-- some bits, and one more
abbrev pub and_place : (Place → Bool) → Place → Place → Bool
and_place seen p q = place_same p q || seen q

-- the rows of bits that are none of these, and of several rows of one bit the first
abbrev pub firsts : (Place → Bool) → List Driven → List Driven
firsts seen [] = []
firsts seen (r ∷ rows) =
    if seen r.place then firsts (and_place seen r.place) rows else r ∷ firsts (and_place seen r.place) rows

-- these bits and those of the rows
abbrev pub and_places : (Place → Bool) → List Driven → Place → Bool
and_places seen [] = seen
and_places seen (r ∷ rows) = and_places (and_place seen r.place) rows

-- the rows of a part that may be there
abbrev pub option_rows : List Place → Option Part → List Driven
option_rows ps None = []
option_rows ps (Some part) = part_rows ps part

-- its numbers are below the count
abbrev pub IsOptionWithin : ℕ → Option Part → Type 0
IsOptionWithin count None = Unit {0}
IsOptionWithin count (Some part) = IsPartWithin count part

-- this is what is kept of a part where some numbers are marked, and these are the marks after it
pub record IsFirstOf (seen new : List Bool) (part : Part) (kept : Option Part) : Type 0 where
  pub rows :
      (ps : List Place) → AreApart ps → length ps ≡ length seen → IsPartWithin (length ps) part →
      option_rows ps kept ≡ firsts (found false ps seen) (part_rows ps part)
  pub marks :
      (ps : List Place) → AreApart ps → length ps ≡ length seen → IsPartWithin (length ps) part →
      found false ps new ≡ and_places (found false ps seen) (part_rows ps part)
  pub within : (count : ℕ) → IsPartWithin count part → IsOptionWithin count kept
