-- Bits that test an event bit: bits that lead back to it through connections and at most four cells that each give
-- it or its inverse.
use Rattle.std.specs.Prelude.{ℕ, zero, suc, ◌==◌, Bool, true, false, not, ◌&&◌, ◌||◌, List, [], ◌∷◌, length, map, filter, find, flat_map, count_by, slice_get, slice_index_or, Option, Some, None, if◌then◌else◌, option_map, option_and_then}
use Rattle.std.specs.List.{list_all}
use Rattle.std.specs.Option.{option_map_or}
use Rattle.std.specs.Str.{bytes_eq}
use Rattle.rtl_bits.specs.declared.bit.Bit.{Bit}
use Rattle.rtl_bits.specs.declared.bit.Bit.TheVariants.{S0, S1, X}
use Rattle.cell_types.specs.declared.kind.CellKind.{CellKind}
use Rattle.cell_types.specs.declared.kind.CellKind.TheVariants as Cells
use Rattle.cell_types.specs.declared.pin_name.PinName.{PinName}
use Rattle.cell_types.specs.declared.pin_name.PinName.TheVariants.{A, B, S, Y}
use Rattle.cell_types.specs.declared.word.WordKind.TheVariants.{Bmux, Demux}
use Rattle.cell_types.specs.PinName.{pin_text}
use Rattle.cell_types.specs.Pins.{pins_of}
use Rattle.cell_types.specs.Shape.{made_shape}
use Rattle.cell_gate.specs.Gates.{gate_value_of}
use Rattle.cell_word.specs.Values.{word_value_of, input_of}
use Rattle.rtl_sig.specs.declared.sig.SigBit.{SigBit}
use Rattle.rtl_sig.specs.declared.sig.SigBit.TheVariants as sig
use Rattle.rtl_sig.specs.declared.sig.WireBit.{WireBit}
use Rattle.rtl_ir.specs.declared.cell.Cell.{Cell}
use Rattle.rtl_ir.specs.declared.module.Module.{Module}
use Rattle.rtl_ir.specs.Drivers.{Source, FromPort, FromCell, FromLink, FromTree, FromRules, cell_drives, driver_in}
use Rattle.rtl_ir.specs.Follow.{all_joins, back, follow_joins}
use Rattle.rtl_ir.specs.declared.follow.Join.{Join}
use Rattle.rtl_ir.specs.Parameters.{given_params, signal_at}
use Rattle.rtl_ir.specs.Signals.{same_bit, is_constant, is_all_constant}
use Rattle.rtl_ir.specs.Types.{Ports, CellType, Library, cell_type}

-- a place of a signal is this bit
abbrev pub is_bit : WireBit → SigBit → Bool
is_bit b (sig.Fixed c) = false
is_bit b (sig.Wire a) = same_bit a b

-- the way back from a place through at most so many connections meets a bit
abbrev pub meets_within : List Join → ℕ → WireBit → SigBit → Bool
meets_within js zero b s = is_bit b s
meets_within js (suc n) b s = is_bit b s || option_map_or (meets_within js n b) (back js s) false

-- the way back through connections meets a bit
abbrev pub meets : List Join → WireBit → SigBit → Bool
meets js b s = meets_within js (length js) b s

-- a combinational cell of the library
abbrev pub combinational_kind : CellType → Option CellKind
combinational_kind (Library (Cells.Word kind)) = Some (Cells.Word kind)
combinational_kind (Library (Cells.Gate kind)) = Some (Cells.Gate kind)
combinational_kind type = None

-- the pins of a combinational kind; where it has S and no B, the place of B is kept
abbrev pub placed_pins : CellKind → List PinName
placed_pins (Cells.Word Bmux) = A ∷ B ∷ S ∷ Y ∷ []
placed_pins (Cells.Word Demux) = A ∷ B ∷ S ∷ Y ∷ []
placed_pins kind = pins_of kind

-- the input pins of a combinational kind, in the order A, B, S
abbrev pub input_names : CellKind → List PinName
input_names kind = filter (λ name. not (bytes_eq (pin_text name) (pin_text Y))) (placed_pins kind)

-- the signals at the inputs of a cell of a kind
abbrev pub input_signals : CellKind → Cell → List (List SigBit)
input_signals kind c = map (λ name. signal_at c.pins (pin_text name)) (input_names kind)

-- a bit of a word, x past its end
abbrev pub bit_in : List Bit → ℕ → Bit
bit_in bits at = slice_index_or bits at X

-- the lowest bit of the value of a combinational cell, of the words at its inputs
abbrev pub lowest_bit : CellKind → Cell → List (List Bit) → Bit
lowest_bit (Cells.Gate kind) c words =
    gate_value_of (Cells.Gate kind) (bit_in (input_of words 0) 0) (bit_in (input_of words 1) 0) (bit_in (input_of words 2) 0)
lowest_bit kind c words = bit_in (word_value_of (made_shape kind (given_params c.params)) words) 0

-- a constant as it is, and this bit in the place of any other
abbrev pub probed : Bit → SigBit → Bit
probed bit (sig.Fixed c) = c
probed bit (sig.Wire b) = bit

-- the result of a cell where each input that does not follow to a constant is this bit
abbrev pub probe : List Join → CellKind → Cell → Bit → Bit
probe js kind c bit =
    lowest_bit kind c (map (map (λ s. probed bit (follow_joins js s))) (input_signals kind c))

-- whether a function of a bit gives the inverse, where it gives 0 and 1 for 0 and 1 or the other way round
abbrev pub inverts : Bit → Bit → Option Bool
inverts S0 S1 = Some false
inverts S1 S0 = Some true
inverts low high = None

-- a step back through a cell: the input that it depends on, and whether it gives its inverse
pub record Step : Type 0 where
  pub input : SigBit
  pub inverse : Bool

-- an input follows to no constant
abbrev pub is_open : List Join → SigBit → Bool
is_open js s = not (is_constant (follow_joins js s))

-- the step through a combinational cell with a result of one bit and one open input, where 0 and 1 there give
-- known, different values
abbrev pub step_through : List Join → Cell → CellKind → Option Step
step_through js c kind =
    let inputs = flat_map (λ (s : List SigBit). s) (input_signals kind c) in
    if (length (signal_at c.pins (pin_text Y)) == 1) && (count_by (is_open js) inputs == 1)
    then option_and_then
    (λ s. option_map (λ i. record { input = s; inverse = i }) (inverts (probe js kind c S0) (probe js kind c S1)))
    (find (is_open js) inputs)
    else None

-- the cell that a driver names
abbrev pub cell_in : List Cell → Source → Option Cell
cell_in cells FromPort = None
cell_in cells (FromCell cell pin at) = slice_get cells cell
cell_in cells (FromLink s) = None
cell_in cells (FromTree process) = None
cell_in cells (FromRules process) = None

-- the step back from a bit through the cell that drives it
abbrev pub step_at : Ports → Module → SigBit → Option Step
step_at ports m (sig.Fixed c) = None
step_at ports m (sig.Wire b) =
    option_and_then
    (λ (c : Cell). option_and_then (step_through (all_joins m.links) c) (combinational_kind (cell_type ports c.kind_name)))
    (option_and_then (cell_in m.cells) (driver_in (cell_drives ports 0 m.cells) b))

-- one of two, but not both
abbrev pub differs : Bool → Bool → Bool
differs true b = not b
differs false b = b

-- whether a place tests a bit through at most so many cells, and then whether it gives the inverse
abbrev pub test_within : Ports → Module → ℕ → WireBit → SigBit → Option Bool
test_within ports m zero b s = if meets (all_joins m.links) b s then Some false else None
test_within ports m (suc n) b s =
    if meets (all_joins m.links) b s
    then Some false
    else option_and_then
    (λ (step : Step). option_map (differs step.inverse) (test_within ports m n b step.input))
    (step_at ports m (follow_joins (all_joins m.links) s))

-- whether a place tests a bit, and then whether it gives the inverse
abbrev pub test_of : Ports → Module → WireBit → SigBit → Option Bool
test_of ports m b s = test_within ports m 4 b s

-- whether a switch on a signal with these patterns tests a bit: the signal is one bit that does, and the patterns are
-- constants
abbrev pub switch_test : Ports → Module → WireBit → List SigBit → List (List SigBit) → Option Bool
switch_test ports m b (s ∷ []) patterns = if list_all is_all_constant patterns then test_of ports m b s else None
switch_test ports m b signal patterns = None
