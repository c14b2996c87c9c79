-- Where the cells stand that drive words.
use Rattle.std.specs.Prelude.{◌≡◌, ℕ, ◌+◌, Bool, false, List, [], ◌∷◌, ◌++◌, Option, Some, None, map, if◌then◌else◌, slice_index_or}
use Rattle.std.specs.HashMap.{get_by}
use Rattle.std.specs.Option.{option_map_or}
use Rattle.rtl_sig.specs.declared.sig.SigBit.{SigBit}
use Rattle.rtl_sig.specs.declared.sig.SigBit.TheVariants as sig
use Rattle.rtl_sig.specs.declared.sig.WireBit.{WireBit}
use Rattle.cell_types.specs.declared.kind.CellKind.{CellKind}
use Rattle.cell_types.specs.declared.kind.CellKind.TheVariants as kind
use Rattle.cell_types.specs.declared.pin_name.PinName.TheVariants.{Y}
use Rattle.cell_types.specs.PinName.{pin_text}
use Rattle.rtl_ir.specs.declared.cell.Cell.{Cell}
use Rattle.rtl_ir.specs.Flat.Cell.{cell_kind}
use Rattle.rtl_ir.specs.Parameters.{signal_at}
use Rattle.rtl_ir.specs.Signals.{same_bit}
use Rattle.net_index.specs.IndexTable.{ByBit}

-- the kind of a combinational cell
abbrev pub combinational : Option CellKind → Option CellKind
combinational (Some (kind.Word word)) = Some (kind.Word word)
combinational (Some (kind.Gate gate)) = Some (kind.Gate gate)
combinational kind = None

-- the output of a combinational cell, no bits of any other
abbrev pub word_of : Cell → List SigBit
word_of c = option_map_or (λ own. signal_at c.pins (pin_text Y)) (combinational (cell_kind c)) []

-- a word begins with the bit
abbrev pub begins_with : WireBit → List SigBit → Bool
begins_with b [] = false
begins_with b (sig.Fixed c ∷ bits) = false
begins_with b (sig.Wire d ∷ bits) = same_bit d b

-- the place of the first of these cells, from a place on, whose output begins with the bit
abbrev pub place_from : ℕ → List Cell → WireBit → Option ℕ
place_from at [] b = None
place_from at (c ∷ cells) b = if begins_with b (word_of c) then Some at else place_from (at + 1) cells b

-- a table has the places of these cells, each by the bit that its output begins with
abbrev pub ArePlaces : ByBit ℕ → List Cell → Type 0
ArePlaces places cells = (b : WireBit) → get_by (same_bit b) places ≡ place_from 0 cells b

-- the place of the cell whose output begins as a word does
abbrev pub place_of : List Cell → List SigBit → Option ℕ
place_of cells [] = None
place_of cells (sig.Fixed c ∷ bits) = None
place_of cells (sig.Wire b ∷ bits) = place_from 0 cells b

-- the cells other than the one whose turn it is, each in its place: those before it as they stand now, where one that went
-- leaves none, and those behind it as they were
abbrev pub others : List (Option Cell) → List Cell → List (Option Cell)
others done rest = done ++ None ∷ map Some rest

-- one of them, by its place
abbrev pub other_at : List (Option Cell) → List Cell → Option ℕ → Option Cell
other_at done rest None = None
other_at done rest (Some at) = slice_index_or (others done rest) at None
