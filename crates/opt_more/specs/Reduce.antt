-- Folds that read what other folds read.
use Rattle.std.specs.Prelude.{nat_le, Bool, false, ◌&&◌, ◌||◌, List, [], ◌∷◌, ◌++◌, length, map, flat_map, Option, Some, None, if◌then◌else◌}
use Rattle.std.specs.List.{fold, list_any}
use Rattle.std.specs.Option.{option_map_or}
use Rattle.rtl_bits.specs.declared.bit.Bit.{Bit}
use Rattle.rtl_bits.specs.declared.bit.Bit.TheVariants.{S0, S1}
use Rattle.rtl_sig.specs.declared.sig.SigBit.{SigBit}
use Rattle.rtl_sig.specs.declared.sig.SigBit.TheVariants as sig
use Rattle.rtl_sig.specs.declared.sig.WireBit.{WireBit}
use Rattle.cell_types.specs.declared.kind.CellKind.{CellKind}
use Rattle.cell_types.specs.declared.kind.CellKind.TheVariants.{Word}
use Rattle.cell_types.specs.declared.pin_name.PinName.TheVariants.{A, Y}
use Rattle.cell_types.specs.declared.word.FoldKind.TheVariants as Folds
use Rattle.cell_types.specs.declared.word.WordKind.TheVariants.{Fold}
use Rattle.cell_types.specs.PinName.{pin_text}
use Rattle.rtl_ir.specs.Attributes.{is_kept}
use Rattle.rtl_ir.specs.Flat.Cell.{cell_kind}
use Rattle.rtl_ir.specs.Follow.{follow}
use Rattle.rtl_ir.specs.Parameters.{signal_at}
use Rattle.rtl_ir.specs.Signals.{same_place, same_value}
use Rattle.rtl_ir.specs.Types.{Ports}
use Rattle.rtl_ir.specs.declared.cell.Cell.{Cell}
use Rattle.rtl_ir.specs.declared.module.Link.{Link}
use Rattle.rtl_ir.specs.declared.module.Module.{Module}
use Rattle.follow_laws.specs.Inputs.{followed_cell}
use Rattle.opt_expr.specs.Places.{begins_with}
use Rattle.opt_expr.specs.Sweep.{stays}
use Rattle.opt_more.specs.Changed.{with_inputs}
use Rattle.opt_more.specs.Others.{other_of}
use Rattle.opt_more.specs.Sweep.{Visiting, swept_of}

-- the constant that does not count in a fold: 1 among bits of which all are asked, 0 among those of which one is
abbrev pub neutral_of : Option CellKind → Option Bit
neutral_of (Some (Word (Fold Folds.And))) = Some S1
neutral_of (Some (Word (Fold Folds.Or))) = Some S0
neutral_of (Some (Word (Fold Folds.Bool))) = Some S0
neutral_of kind = None

-- the constant of a fold that has no nonzero `\keep`
abbrev pub fold_of : Cell → Option Bit
fold_of c = if is_kept c.attributes then None else neutral_of (cell_kind c)

-- a cell is such a fold with this constant, and its output begins with the bit
abbrev pub folds_to : Bit → WireBit → Cell → Bool
folds_to neutral b c =
    option_map_or (same_value neutral) (fold_of c) false && begins_with b (signal_at c.pins (pin_text Y))

-- what stands for a bit: the followed inputs of a cell that folds to it, else the bit itself
abbrev pub inputs_for : Bit → List Link → WireBit → Option Cell → List SigBit
inputs_for neutral links b None = sig.Wire b ∷ []
inputs_for neutral links b (Some c) =
    if folds_to neutral b c then map (follow links) (signal_at c.pins (pin_text A)) else sig.Wire b ∷ []

-- what stands for an input of a fold between the cells that are done and the rest
abbrev pub standing_for : Bit → List Cell → List (Option Cell) → List Cell → List Link → SigBit → List SigBit
standing_for neutral cells done rest links (sig.Fixed c) = sig.Fixed c ∷ []
standing_for neutral cells done rest links (sig.Wire b) = inputs_for neutral links b (other_of cells done rest b)

-- a bit goes last, unless it does not count or is in the list already
abbrev pub with_bit : Bit → List SigBit → SigBit → List SigBit
with_bit neutral bits bit =
    if same_place (sig.Fixed neutral) bit || list_any (same_place bit) bits then bits else bits ++ bit ∷ []

-- the constant where no bit counts
abbrev pub or_neutral : Bit → List SigBit → List SigBit
or_neutral neutral [] = sig.Fixed neutral ∷ []
or_neutral neutral (bit ∷ bits) = bit ∷ bits

-- what a fold of these bits reads: all that stands for them, each once
abbrev pub gathered : Bit → List Cell → List (Option Cell) → List Cell → List Link → List SigBit → List SigBit
gathered neutral cells done rest links bits =
    or_neutral neutral (fold (with_bit neutral) [] (flat_map (standing_for neutral cells done rest links) bits))

-- a cell that reads these bits, unless they are more than 4,096
abbrev pub reduced_to : List SigBit → Cell → Cell
reduced_to bits c = if nat_le (length bits) 4096 then with_inputs bits c else c

-- a fold whose inputs are followed
abbrev pub reduced_fold : Bit → List Cell → List (Option Cell) → List Cell → List Link → Cell → Cell
reduced_fold neutral cells done rest links c =
    reduced_to (gathered neutral cells done rest links (signal_at c.pins (pin_text A))) c

-- a cell, where it may be a fold
abbrev pub reduced : Option Bit → Ports → List Cell → List (Option Cell) → List Cell → List Link → Cell → Cell
reduced None ports cells done rest links c = c
reduced (Some neutral) ports cells done rest links c =
    reduced_fold neutral cells done rest links (followed_cell ports links c)

-- a cell: it keeps its place
abbrev pub reduce_visit : Ports → List Cell → Visiting
reduce_visit ports cells done rest links c = stays (reduced (fold_of c) ports cells done rest links c)

-- the whole pass
abbrev pub reduce_of : Ports → Module → Module
reduce_of ports m = swept_of (reduce_visit ports m.cells) m
