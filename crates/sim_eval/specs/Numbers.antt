-- What drivers give, by the values of the numbered bits.
use Rattle.std.specs.Prelude.{ℕ, ◌≡◌, Bool, true, false, not, ◌&&◌, nat_lt, List, [], ◌∷◌, length, map, slice_index_or, slice_set, if◌then◌else◌}
use Rattle.rtl_bits.specs.declared.bit.Bit.{Bit}
use Rattle.rtl_bits.specs.declared.bit.Bit.TheVariants.{S0, S1, X, Z, M, Dash}
use Rattle.cell_types.specs.declared.shape.Shape.{Shape}
use Rattle.cell_gate.specs.declared.pins.Pins.{Pins}
use Rattle.cell_word.specs.Values.{word_value_of}
use Rattle.flat_net.specs.declared.net.Logic.{Logic}
use Rattle.flat_net.specs.declared.net.Point.{Point}
use Rattle.flat_net.specs.declared.net.Point.TheVariants.{Constant, At}
use Rattle.flat_net.specs.declared.net.StoreBit.{StoreBit}
use Rattle.flat_net.specs.declared.net.StorePins.{StorePins}
use Rattle.net_model.specs.Order.{next_bit_of}
use Rattle.net_model.specs.Value.{worked_of}
use Rattle.sim_eval.specs.declared.cell.Worked.{Worked}
use Rattle.sim_eval.specs.declared.cell.Worked.TheVariants.{Gate, Word}
use Rattle.sim_eval.specs.declared.moment.Moment.{Moment}
use Rattle.sim_eval.specs.declared.moment.Moment.TheVariants.{Start, Step}

-- a bit is x
abbrev pub is_x : Bit → Bool
is_x X = true
is_x S0 = false
is_x S1 = false
is_x Z = false
is_x M = false
is_x Dash = false

-- what a point has
abbrev pub number_read : List Bit → Point → Bit
number_read values (Constant b) = b
number_read values (At number) = slice_index_or values number X

-- what the points of a word have
abbrev pub number_word : List Bit → List Point → List Bit
number_word values points = map (number_read values) points

-- what the inputs of a combinational cell have
abbrev pub number_inputs : List Bit → Logic → List (List Bit)
number_inputs values c = number_word values c.a ∷ number_word values c.b ∷ number_word values c.s ∷ []

-- what a cell on words gives
abbrev pub given_word : List Bit → Logic → List Bit
given_word values c = word_value_of c.shape (number_inputs values c)

-- what a storage bit has at its pins
abbrev pub number_pins : List Bit → StorePins → ℕ → Pins
number_pins values pins own = record {
  clk = number_read values pins.clk;
  en = number_read values pins.en;
  arst = number_read values pins.arst;
  srst = number_read values pins.srst;
  aload = number_read values pins.aload;
  ad = number_read values pins.ad;
  set = number_read values pins.set;
  clr = number_read values pins.clr;
  d = number_read values pins.d;
  q = slice_index_or values own X;
}

-- what the input vector gives at a place
abbrev pub given_of : Moment → ℕ → Bit
given_of Start at = X
given_of (Step before inputs first order) at = slice_index_or inputs.now at X

-- what a storage bit keeps
abbrev pub kept_of : Moment → Shape → StoreBit → List Bit → Bit
kept_of Start shape b values = b.start
kept_of (Step before inputs first order) shape b values =
    next_bit_of (record { first = first; order = order }) shape b.at (number_pins before.now b.pins b.number)
    (number_pins values b.pins b.number)

-- the bit at a place of what a combinational cell gives
abbrev pub worked_bit : Worked → ℕ → Bit
worked_bit (Gate b) at = b
worked_bit (Word bits) at = slice_index_or bits at X

-- this is what the cell gives at each place
abbrev pub IsWorked : Logic → List Bit → Worked → Type 0
IsWorked c values worked =
    (at : ℕ) → worked_bit worked at ≡ worked_of c.shape.kind c.shape (number_inputs values c) at

-- a numbered bit gets a value that it did not have
abbrev pub gains : List Bit → ℕ → Bit → Bool
gains values number value =
    nat_lt number (length values) && (is_x (slice_index_or values number X) && not (is_x value))

-- the values after that
abbrev pub put_of : List Bit → ℕ → Bit → List Bit
put_of values number value = if gains values number value then slice_set values number value else values
