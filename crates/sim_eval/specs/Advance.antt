-- What rows do to the values of bits, one after another.
use Rattle.std.specs.Prelude.{◌≡◌, ◌⊎◌, ℕ, ◌+◌, ◌≤◌, Bool, false, cond, List, [], ◌∷◌, slice_index_or}
use Rattle.rtl_bits.specs.declared.bit.Bit.{Bit}
use Rattle.rtl_bits.specs.declared.bit.Bit.TheVariants.{X}
use Rattle.rtl_bits.specs.Knowledge.{FlatBelow}
use Rattle.rtl_ir.specs.Flat.Driver.{Driven}
use Rattle.rtl_ir.specs.Flat.Place.{Place}
use Rattle.net_model.specs.Lists.{In}
use Rattle.net_model.specs.Run.{Time}
use Rattle.net_model.specs.Settle.{Pointwise}
use Rattle.net_model.specs.Valuation.{Valuation}
use Rattle.net_model.specs.Value.{value_of}
use Rattle.flat_net.specs.declared.net.Output.{Output}
use Rattle.flat_net.specs.Points.{place_at}
use Rattle.sim_eval.specs.declared.cell.Worked.{Worked}
use Rattle.sim_eval.specs.Numbers.{is_x, worked_bit}
use Rattle.sim_eval.specs.Shown.{shown}

-- no row gives more than its bit has
abbrev pub AreMet : List Driven → Time Place → Valuation → Type 0
AreMet rows t w = (r : Driven) → In r rows → FlatBelow (value_of r.driver t w) (w r.place)

-- a bit, and a value that it is given
pub record Fact : Type 0 where
  pub place : Place
  pub value : Bit

-- no bit is given more than it has
abbrev pub AreHeld : List Fact → Valuation → Type 0
AreHeld facts w = (f : Fact) → In f facts → FlatBelow f.value (w f.place)

-- a bit has the value that it had, or is that of one of these facts
abbrev pub HasOrIsGiven : List Place → List Fact → List Bit → List Bit → ℕ → Type 0
HasOrIsGiven ps facts old new number =
    (slice_index_or old number X ≡ slice_index_or new number X) ⊎ ((f : Fact) × In f facts × (f.place ≡ place_at ps number))

-- giving bits their values leads from old values to new ones: never beyond a valuation that holds the given values; no bit
-- loses a value, and only bits that are given one change; and the new values hold what was given, if the old ones stand
-- below such a valuation
pub record Takes (ps : List Place) (facts : List Fact) (old new : List Bit) (changed : Bool) : Type 0 where
  pub below : (w : Valuation) → AreHeld facts w → Pointwise FlatBelow (shown ps old) w → Pointwise FlatBelow (shown ps new) w
  pub still : changed ≡ false → old ≡ new
  pub grows : Pointwise FlatBelow (shown ps old) (shown ps new)
  pub given : (number : ℕ) → HasOrIsGiven ps facts old new number
  pub held : (w : Valuation) → AreHeld facts w → Pointwise FlatBelow (shown ps old) w → AreHeld facts (shown ps new)

-- what a bit of the output of a combinational cell is given
abbrev pub output_fact : List Place → Worked → Output → Fact
output_fact ps worked o = record { place = place_at ps o.number; value = worked_bit worked o.at }

-- a bit has the value that it had, or is that of one of these rows
abbrev pub HasOrIsDriven : List Place → List Driven → List Bit → List Bit → ℕ → Type 0
HasOrIsDriven ps rows old new number =
    (slice_index_or old number X ≡ slice_index_or new number X) ⊎ ((r : Driven) × In r rows × (r.place ≡ place_at ps number))

-- no row gives more over these values than its bit has among those
abbrev pub AreReached : List Driven → Time Place → Valuation → Valuation → Type 0
AreReached rows t v w = (r : Driven) → In r rows → FlatBelow (value_of r.driver t v) (w r.place)

-- these rows lead from old values to new ones: never beyond a valuation that meets the rows; no bit loses a value, and only
-- bits of the rows change; and each bit has what its row gave, if the old values stand below such a valuation
pub record Advances (ps : List Place) (t : Time Place) (rows : List Driven) (old new : List Bit) (changed : Bool) : Type 0 where
  pub below :
      (w : Valuation) → AreMet rows t w → Pointwise FlatBelow (shown ps old) w → Pointwise FlatBelow (shown ps new) w
  pub still : changed ≡ false → old ≡ new
  pub grows : Pointwise FlatBelow (shown ps old) (shown ps new)
  pub driven : (number : ℕ) → HasOrIsDriven ps rows old new number
  pub reached :
      (w : Valuation) → AreMet rows t w → Pointwise FlatBelow (shown ps old) w →
      AreReached rows t (shown ps old) (shown ps new)

-- how many of these bits are x
abbrev pub unknowns : List Bit → ℕ
unknowns [] = 0
unknowns (b ∷ bits) = cond (is_x b) 1 0 + unknowns bits

-- where something changed, fewer bits are x, and else no more
abbrev pub AreFewer : List Bit → List Bit → Bool → Type 0
AreFewer old new changed = unknowns new + cond changed 1 0 ≤ unknowns old

-- the values of numbered bits stand below each valuation that meets the rows at a time
abbrev pub AreUnder : List Place → Time Place → List Driven → List Bit → Type 0
AreUnder ps t rows values = (w : Valuation) → AreMet rows t w → Pointwise FlatBelow (shown ps values) w

-- and they meet the rows, if any valuation does: they are the least that do
pub record AreLeast (ps : List Place) (t : Time Place) (rows : List Driven) (values : List Bit) : Type 0 where
  pub under : AreUnder ps t rows values
  pub met : (w : Valuation) → AreMet rows t w → AreMet rows t (shown ps values)
