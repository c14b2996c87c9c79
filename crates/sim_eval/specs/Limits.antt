-- Cells that are within the limits of their kinds.
use Rattle.std.specs.Prelude.{◌≡◌, ℕ, Bool, true, false, ◌||◌, nat_le, List, [], ◌∷◌, length, map, slice_index_or}
use Rattle.std.specs.List.{list_all}
use Rattle.cell_types.specs.declared.kind.CellKind.{CellKind}
use Rattle.cell_types.specs.declared.kind.CellKind.TheVariants as Cell
use Rattle.cell_types.specs.declared.pin_name.PinName.{PinName}
use Rattle.cell_types.specs.declared.pin_name.PinName.TheVariants.{A, B, S, Y}
use Rattle.cell_types.specs.declared.shape.Shape.{Shape}
use Rattle.cell_types.specs.declared.word.WordKind.{WordKind}
use Rattle.cell_types.specs.declared.word.WordKind.TheVariants.{Bmux, Demux}
use Rattle.cell_types.specs.Fault.{limit_of}
use Rattle.cell_types.specs.Pins.{pins_of}
use Rattle.rtl_ir.specs.Flat.Driver.{Driver, Worked, Stored}
use Rattle.flat_net.specs.declared.net.Logic.{Logic}
use Rattle.flat_net.specs.declared.net.Part.{Part}
use Rattle.flat_net.specs.declared.net.Part.TheVariants as part
use Rattle.flat_net.specs.declared.net.Storage.{Storage}

-- the width of a pin of a cell of a shape, with words of these widths at its pins A, B and S
abbrev pub width_at : Shape → List ℕ → PinName → ℕ
width_at shape widths A = slice_index_or widths 0 0
width_at shape widths B = slice_index_or widths 1 0
width_at shape widths S = slice_index_or widths 2 0
width_at shape widths Y = shape.widths.y
width_at shape widths name = 0

-- the greatest width of a pin: few bits choose one of parts
abbrev pub most_of : WordKind → PinName → ℕ
most_of Bmux S = 12
most_of Demux S = 12
most_of kind name = limit_of kind

-- no pin of a combinational cell on words passes the limit of the kind
abbrev pub is_word_within : WordKind → Shape → List ℕ → Bool
is_word_within kind shape widths = list_all (λ name. nat_le (width_at shape widths name) (most_of kind name)) (pins_of (Cell.Word kind))

-- a cell of this kind is combinational, and no pin of it passes the limit of the kind
abbrev pub is_logic_within : CellKind → Shape → List ℕ → Bool
is_logic_within (Cell.Word kind) shape widths = is_word_within kind shape widths
is_logic_within (Cell.Gate kind) shape widths = true
is_logic_within kind shape widths = false

-- a cell of this kind keeps bits
abbrev pub is_storage : CellKind → Bool
is_storage (Cell.Storage kind) = true
is_storage (Cell.StorageGate gate) = true
is_storage kind = false

-- the cell of a driver is within the limits of its kind, where there is one
abbrev pub is_driver_within : Driver → Bool
is_driver_within (Worked shape inputs at) = is_logic_within shape.kind shape (map length inputs)
is_driver_within (Stored start shape at pins own) = is_storage shape.kind
is_driver_within driver = true

-- nothing stands in a list
abbrev pub is_empty : {A : Type 0} → List A → Bool
is_empty [] = true
is_empty (x ∷ xs) = false

-- the widths of the words at the pins A, B and S of a combinational cell
abbrev pub input_widths : Logic → List ℕ
input_widths c = length c.a ∷ length c.b ∷ length c.s ∷ []

-- a cell is a combinational one on words, and no pin of it passes the limit of its kind
pub record IsWordWithin (c : Logic) : Type 0 where
  pub kind : WordKind
  pub is : c.shape.kind ≡ Cell.Word kind
  pub within : is_word_within kind c.shape (input_widths c) ≡ true

-- a combinational cell that drives a bit is within the limits of its kind
abbrev pub is_computable : Logic → Bool
is_computable c = is_empty c.outputs || is_logic_within c.shape.kind c.shape (input_widths c)

-- a cell that keeps a bit is a storage cell
abbrev pub keeps_bits : Storage → Bool
keeps_bits c = is_empty c.bits || is_storage c.shape.kind

-- the cell of a part, where it is one, is within the limits of its kind
abbrev pub is_part_computable : Part → Bool
is_part_computable (part.Given o) = true
is_part_computable (part.Joined j) = true
is_part_computable (part.Logic c) = is_computable c.value
is_part_computable (part.Storage c) = keeps_bits c.value
is_part_computable (part.Tree t) = true
is_part_computable (part.Held h) = true
is_part_computable (part.Raced r) = true
is_part_computable (part.Remembered w) = true
is_part_computable (part.Fetched f) = true

-- the same of several parts
abbrev pub are_computable : List Part → Bool
are_computable parts = list_all is_part_computable parts
