-- What a cell is compared by.
use Rattle.std.specs.Prelude.{ℕ, Bool, true, false, ◌&&◌, ◌==◌, length, List, [], ◌∷◌, ◌++◌, map, Option, Some, None, if◌then◌else◌}
use Rattle.std.specs.Option.{option_map_or}
use Rattle.std.specs.Cmp.Lexicographic.{pointwise}
use Rattle.std.specs.Str.{bytes_eq}
use Rattle.rtl_bits.specs.declared.bit.Bit.{Bit}
use Rattle.rtl_bits.specs.declared.bit.Bit.TheVariants.{S0, S1, X, Z, M, Dash}
use Rattle.rtl_sig.specs.declared.sig.SigBit.{SigBit}
use Rattle.cell_types.specs.declared.kind.CellKind.{CellKind}
use Rattle.cell_types.specs.declared.kind.CellKind.TheVariants.{Word, Gate, Storage, StorageGate, Memory}
use Rattle.cell_types.specs.declared.level.Level.{Level}
use Rattle.cell_types.specs.declared.level.Level.TheVariants.{Low, High}
use Rattle.cell_types.specs.declared.levels.Levels.{Levels}
use Rattle.cell_types.specs.declared.pin_name.PinName.{PinName}
use Rattle.cell_types.specs.declared.pin_name.PinName.TheVariants.{A, B, S, Clk, En, Arst, Srst, Aload, Set, Clr, Ad, D, Q, C, E, R, L}
use Rattle.cell_types.specs.declared.shape.Port.{Port}
use Rattle.cell_types.specs.declared.shape.Shape.{Shape}
use Rattle.cell_types.specs.declared.shape.Widths.{Widths}
use Rattle.cell_types.specs.PinName.{pin_text}
use Rattle.rtl_ir.specs.declared.cell.Cell.{Cell}
use Rattle.rtl_ir.specs.declared.cell.Pin.{Pin}
use Rattle.rtl_ir.specs.declared.module.Link.{Link}
use Rattle.rtl_ir.specs.Flat.Cell.{cell_kind, cell_shape}
use Rattle.rtl_ir.specs.Follow.{follow}
use Rattle.rtl_ir.specs.Outputs.{output_pin}
use Rattle.rtl_ir.specs.Parameters.{signal_at}
use Rattle.rtl_ir.specs.Signals.{same_signal, same_value}
use Rattle.rtl_ir.specs.Attributes.{is_kept}

-- the pins that a cell of a kind may read
abbrev pub input_pins : CellKind → List PinName
input_pins (Word kind) = A ∷ B ∷ S ∷ []
input_pins (Gate kind) = A ∷ B ∷ S ∷ []
input_pins (Storage kind) = Clk ∷ En ∷ Arst ∷ Srst ∷ Aload ∷ Set ∷ Clr ∷ Ad ∷ D ∷ []
input_pins (StorageGate gate) = C ∷ E ∷ R ∷ L ∷ Ad ∷ S ∷ D ∷ []
input_pins (Memory kind) = []

-- the signal at the output of a cell of a kind
abbrev pub output_of : CellKind → Cell → List SigBit
output_of kind c = option_map_or (λ pin. signal_at c.pins (pin_text pin)) (output_pin kind) []

-- the start values of what a cell of a kind keeps
abbrev pub starts_of : (SigBit → Bit) → CellKind → Cell → List Bit
starts_of start (Word kind) c = []
starts_of start (Gate kind) c = []
starts_of start (Storage kind) c = map start (signal_at c.pins (pin_text Q))
starts_of start (StorageGate gate) c = map start (signal_at c.pins (pin_text Q))
starts_of start (Memory kind) c = []

-- a bit as a number
abbrev pub bit_number : Bit → ℕ
bit_number S0 = 0
bit_number S1 = 1
bit_number X = 2
bit_number Z = 3
bit_number M = 4
bit_number Dash = 5

abbrev pub flag_number : Bool → ℕ
flag_number false = 0
flag_number true = 1

abbrev pub level_number : Level → ℕ
level_number Low = 0
level_number High = 1

abbrev pub widths_numbers : Widths → List ℕ
widths_numbers w = w.a ∷ w.b ∷ w.s ∷ w.y ∷ []

abbrev pub levels_numbers : Levels → List ℕ
levels_numbers l =
    level_number l.clk ∷ level_number l.en ∷ level_number l.arst ∷ level_number l.srst
    ∷ level_number l.aload ∷ level_number l.set ∷ level_number l.clr ∷ []

abbrev pub port_numbers : Port → List ℕ
port_numbers p = p.address ∷ flag_number p.clocked ∷ p.number ∷ p.words ∷ []

-- the widths, signs, offset, width and levels of a shape, and what a memory cell says in numbers
abbrev pub plain_numbers : Shape → List ℕ
plain_numbers s =
    widths_numbers s.widths
    ++ (flag_number s.signs.a ∷ flag_number s.signs.b ∷ s.offset ∷ s.width ∷ levels_numbers s.levels)
    ++ port_numbers s.port

-- what the parameters of a cell say, as lists of numbers
abbrev pub shape_numbers : Shape → List (List ℕ)
shape_numbers s =
    plain_numbers s
    ∷ map bit_number s.resets.arst
    ∷ map bit_number s.resets.srst
    ∷ map bit_number s.port.mask
    ∷ map bit_number s.port.priority
    ∷ []

-- what a cell is compared by: its type, what its parameters say, how wide its output is, its inputs followed, and the start
-- values of what it keeps
pub record Traits : Type 0 where
  pub type : List ℕ
  pub params : List (List ℕ)
  pub width : ℕ
  pub inputs : List (List SigBit)
  pub starts : List Bit

-- the signals at these pins, followed
abbrev pub inputs_of : List Link → List PinName → List Pin → List (List SigBit)
inputs_of links names pins = map (λ name. map (follow links) (signal_at pins (pin_text name))) names

-- the traits of a cell of a kind, over these connections
abbrev pub traits_of : (SigBit → Bit) → List Link → CellKind → Cell → Traits
traits_of start links kind c = record {
  type = c.kind_name;
  params = shape_numbers (cell_shape kind c.params);
  width = length (output_of kind c);
  inputs = inputs_of links (input_pins kind) c.pins;
  starts = starts_of start kind c;
}

-- equal traits; x and z differ
abbrev pub same_traits : Traits → Traits → Bool
same_traits a b =
    bytes_eq a.type b.type && pointwise bytes_eq a.params b.params && a.width == b.width
    && pointwise same_signal a.inputs b.inputs && pointwise same_value a.starts b.starts

-- a combinational or storage cell
abbrev pub logic_kind : Option CellKind → Option CellKind
logic_kind None = None
logic_kind (Some (Word kind)) = Some (Word kind)
logic_kind (Some (Gate kind)) = Some (Gate kind)
logic_kind (Some (Storage kind)) = Some (Storage kind)
logic_kind (Some (StorageGate gate)) = Some (StorageGate gate)
logic_kind (Some (Memory kind)) = None

-- the kind of a cell that may be merged: one of these without a nonzero `\keep`
abbrev pub merging_kind : Cell → Option CellKind
merging_kind c = if is_kept c.attributes then None else logic_kind (cell_kind c)
