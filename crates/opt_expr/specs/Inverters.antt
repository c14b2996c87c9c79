-- Cells that invert a word, bit by bit.
use Rattle.std.specs.Prelude.{Bool, true, false, ◌&&◌, ◌==◌, List, length, Option, Some, None, if◌then◌else◌, slice_index_or}
use Rattle.std.specs.Option.{option_map}
use Rattle.rtl_bits.specs.declared.bit.Bit.TheVariants.{X}
use Rattle.rtl_sig.specs.declared.sig.SigBit.{SigBit}
use Rattle.rtl_sig.specs.declared.sig.SigBit.TheVariants.{Fixed}
use Rattle.cell_types.specs.declared.gate.GateKind.TheVariants as gate
use Rattle.cell_types.specs.declared.kind.CellKind.{CellKind}
use Rattle.cell_types.specs.declared.kind.CellKind.TheVariants as kind
use Rattle.cell_types.specs.declared.pin_name.PinName.TheVariants.{A, Y}
use Rattle.cell_types.specs.declared.word.FoldKind.TheVariants.{LogicNot}
use Rattle.cell_types.specs.declared.word.UnaryKind.TheVariants.{Not}
use Rattle.cell_types.specs.declared.word.WordKind.TheVariants.{Unary, Fold}
use Rattle.cell_types.specs.PinName.{pin_text}
use Rattle.rtl_ir.specs.declared.cell.Cell.{Cell}
use Rattle.rtl_ir.specs.Flat.Cell.{cell_kind}
use Rattle.rtl_ir.specs.Parameters.{signal_at}
use Rattle.rtl_ir.specs.Signals.{same_signal}
use Rattle.opt_expr.specs.Places.{other_at, place_of}

-- a kind that inverts each bit; of one bit so does `$logic_not`, where it counts
abbrev pub inverts : (logic : Bool) → Option CellKind → Bool
inverts logic (Some (kind.Word (Unary Not))) = true
inverts logic (Some (kind.Word (Fold LogicNot))) = logic
inverts logic (Some (kind.Gate gate.Not)) = true
inverts logic kind = false

-- what an inverter reads, where its whole output is this word, and its input is as wide
abbrev pub input_of : (logic : Bool) → Cell → List SigBit → Option (List SigBit)
input_of logic c word =
    if inverts logic (cell_kind c)
    && (same_signal (signal_at c.pins (pin_text Y)) word && (length (signal_at c.pins (pin_text A)) == length word))
    then Some (signal_at c.pins (pin_text A))
    else None

-- the same of a cell that may be there
abbrev pub input_at : (logic : Bool) → Option Cell → List SigBit → Option (List SigBit)
input_at logic None word = None
input_at logic (Some c) word = input_of logic c word

-- what another cell, as it stands now, inverts to a word: the one whose output begins as the word does
abbrev pub inverted : List Cell → List (Option Cell) → List Cell → List SigBit → Option (List SigBit)
inverted cells done rest word = input_at false (other_at done rest (place_of cells word)) word

-- the bit that another cell inverts to a word of one bit
abbrev pub inverted_bit : List Cell → List (Option Cell) → List Cell → List SigBit → Option SigBit
inverted_bit cells done rest word =
    if length word == 1
    then option_map (λ input. slice_index_or input 0 (Fixed X)) (input_at true (other_at done rest (place_of cells word)) word)
    else None
