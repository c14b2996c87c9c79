-- Registers that are always enabled, and those that never change.
use Rattle.std.specs.Prelude.{ℕ, zero, suc, Bool, true, false, List, [], ◌∷◌, length, map, Option, Some, None, if◌then◌else◌, slice_index_or}
use Rattle.rtl_bits.specs.Tables.{seen_of}
use Rattle.rtl_bits.specs.declared.bit.Bit.{Bit}
use Rattle.rtl_bits.specs.declared.bit.Bit.TheVariants.{S0, S1, X}
use Rattle.rtl_sig.specs.declared.sig.SigBit.{SigBit}
use Rattle.rtl_sig.specs.declared.sig.SigBit.TheVariants as sig
use Rattle.cell_gate.specs.Control.{active_of}
use Rattle.cell_gate.specs.Store.{gate_kind, reset_at, storage_kind}
use Rattle.cell_types.specs.declared.kind.CellKind.{CellKind}
use Rattle.cell_types.specs.declared.kind.CellKind.TheVariants.{Storage, StorageGate}
use Rattle.cell_types.specs.declared.level.Level.{Level}
use Rattle.cell_types.specs.declared.level.Level.TheVariants.{Low, High}
use Rattle.cell_types.specs.declared.param_name.ParamName.TheVariants.{Width, ClkPolarity}
use Rattle.cell_types.specs.declared.pin_name.PinName.{PinName}
use Rattle.cell_types.specs.declared.pin_name.PinName.TheVariants.{Clk, En, C, D, E, Q}
use Rattle.cell_types.specs.declared.storage.StorageKind.{StorageKind}
use Rattle.cell_types.specs.declared.storage.StorageKind.TheVariants.{Ff, Dff, Dffe, Sdff, Sdffe, Sdffce, Adff, Adffe}
use Rattle.cell_types.specs.declared.storage_gate.StorageGate.TheVariants as gate
use Rattle.cell_types.specs.ParamName.{param_text}
use Rattle.cell_types.specs.PinName.{pin_text}
use Rattle.rtl_ir.specs.Attributes.{is_kept}
use Rattle.rtl_ir.specs.Build.{integer_param, pin_of}
use Rattle.rtl_ir.specs.Flat.Cell.{cell_kind, cell_shape}
use Rattle.rtl_ir.specs.Flat.Start.{start_of}
use Rattle.rtl_ir.specs.Parameters.{signal_at}
use Rattle.rtl_ir.specs.Signals.{constant_of, same_place}
use Rattle.rtl_ir.specs.Types.{Ports}
use Rattle.rtl_ir.specs.declared.cell.Cell.{Cell}
use Rattle.rtl_ir.specs.declared.cell.CellParam.{CellParam}
use Rattle.rtl_ir.specs.declared.cell.Pin.{Pin}
use Rattle.rtl_ir.specs.declared.module.Module.{Module}
use Rattle.rtl_ir.specs.declared.wire.Wire.{Wire}
use Rattle.follow_laws.specs.Inputs.{followed_cell}
use Rattle.net_index.specs.BuilderNames.{name_of}
use Rattle.opt_expr.specs.Sweep.{Visit, stays}
use Rattle.opt_more.specs.Sweep.{Visiting, swept_of}

-- a kind has no controls but a clock, an enable and a reset to a value
abbrev pub is_plain : StorageKind → Bool
is_plain Ff = true
is_plain Dff = true
is_plain Dffe = true
is_plain Sdff = true
is_plain Sdffe = true
is_plain Sdffce = true
is_plain Adff = true
is_plain Adffe = true
is_plain kind = false

-- a kind has a reset to a value
abbrev pub has_reset : StorageKind → Bool
has_reset Sdff = true
has_reset Sdffe = true
has_reset Sdffce = true
has_reset Adff = true
has_reset Adffe = true
has_reset kind = false

-- the kind of a register of such a kind, on words or of one bit
abbrev pub register_kind : Option CellKind → Option CellKind
register_kind (Some (Storage kind)) = if is_plain kind then Some (Storage kind) else None
register_kind (Some (StorageGate gate)) = if is_plain (gate_kind gate) then Some (StorageGate gate) else None
register_kind kind = None

-- the kind of one without a nonzero `\keep`
abbrev pub register_of : Cell → Option CellKind
register_of c = if is_kept c.attributes then None else register_kind (cell_kind c)

-- the enable of a register
abbrev pub enable_pin : CellKind → PinName
enable_pin (StorageGate gate) = E
enable_pin kind = En

-- whether a register with an enable and no reset is enabled: 1 always, 0 never, x where that is not known
abbrev pub enabled_as : StorageKind → Level → Bit → Bit
enabled_as Dffe level b = active_of level b
enabled_as kind level b = X

-- the same of a cell, by the constant at its enable
abbrev pub enabled_of : CellKind → Cell → Bit
enabled_of kind c =
    enabled_as (storage_kind kind) (cell_shape kind c.params).levels.en
    (constant_of (slice_index_or (signal_at c.pins (pin_text (enable_pin kind))) 0 (sig.Fixed X)))

-- the data as a candidate: x where the register keeps its own bit, else the constant, if it is one
abbrev pub data_of : (enabled : Bit) → (q d : SigBit) → Option Bit
data_of S0 q d = Some X
data_of enabled q (sig.Fixed b) = Some (seen_of b)
data_of enabled q d = if same_place d q then Some X else None

-- the value that a candidate and others agree on: none where two known ones differ, x where none is known
abbrev pub agree : Bit → Option Bit → Option Bit
agree S0 (Some S1) = None
agree S1 (Some S0) = None
agree S0 (Some b) = Some S0
agree S1 (Some b) = Some S1
agree a b = b

-- the reset value as a candidate: x where there is no reset
abbrev pub reset_of : StorageKind → Bit → Bit
reset_of kind reset = if has_reset kind then reset else X

-- the value on which the start value, the reset value and the data of a bit agree
abbrev pub agreed : StorageKind → (enabled start reset : Bit) → (q d : SigBit) → Option Bit
agreed kind enabled start reset q d = agree start (agree (reset_of kind reset) (data_of enabled q d))

-- the bit of a cell at a place of a pin
abbrev pub bit_at : PinName → Cell → ℕ → SigBit
bit_at name c at = slice_index_or (signal_at c.pins (pin_text name)) at (sig.Fixed X)

-- the value that the bit at a place always has, where there is one
abbrev pub settled_bit : List Wire → CellKind → Cell → ℕ → Option Bit
settled_bit wires kind c at =
    agreed (storage_kind kind) (enabled_of kind c)
    (start_of wires [] (bit_at Q c at))
    (reset_at (storage_kind kind) (cell_shape kind c.params).resets at)
    (bit_at Q c at)
    (bit_at D c at)

-- a value before others, where all are there
abbrev pub with_first : Option Bit → Option (List Bit) → Option (List Bit)
with_first (Some b) (Some bits) = Some (b ∷ bits)
with_first b bits = None

-- the values of so many bits from a place on, where each has one
abbrev pub settled_from : List Wire → CellKind → Cell → (at count : ℕ) → Option (List Bit)
settled_from wires kind c at zero = Some []
settled_from wires kind c at (suc count) =
    with_first (settled_bit wires kind c at) (settled_from wires kind c (suc at) count)

-- the values that a register always has
abbrev pub settled_of : List Wire → CellKind → Cell → Option (List Bit)
settled_of wires kind c = settled_from wires kind c 0 (length (signal_at c.pins (pin_text Q)))

-- the number that sets a polarity
abbrev pub polarity_of : Level → ℕ
polarity_of Low = 0
polarity_of High = 1

-- the parameters of a register of a width without an enable, with a clock of this level; a gate has none
abbrev pub params_for : CellKind → Level → ℕ → List CellParam
params_for (Storage kind) clk width =
    integer_param (param_text Width) width ∷ integer_param (param_text ClkPolarity) (polarity_of clk) ∷ []
params_for kind clk width = []

-- the pins of a register without an enable, in the order in which new cells write them
abbrev pub enabled_pins : CellKind → List PinName
enabled_pins (StorageGate gate) = D ∷ C ∷ Q ∷ []
enabled_pins kind = Clk ∷ D ∷ Q ∷ []

-- a pin as it is
abbrev pub same_pin : Cell → PinName → Pin
same_pin c name = pin_of (pin_text name) (signal_at c.pins (pin_text name))

-- the kind of a register without its enable
abbrev pub enabled_kind : CellKind → CellKind
enabled_kind (StorageGate (gate.Dffe clk en)) = StorageGate (gate.Dff clk)
enabled_kind kind = Storage Dff

-- a register that is always enabled, without its enable
abbrev pub without_enable : CellKind → Cell → Cell
without_enable kind c = record c {
  kind_name = name_of (enabled_kind kind);
  params = params_for kind (cell_shape kind c.params).levels.clk (length (signal_at c.pins (pin_text Q)));
  pins = map (same_pin c) (enabled_pins kind);
}

-- a register that changes: without its enable where it is always enabled
abbrev pub enabled : Bit → CellKind → Cell → Cell
enabled S1 kind c = without_enable kind c
enabled b kind c = c

-- what comes of a register whose inputs are followed: its output is connected to the values that it always has, or it stays
abbrev pub register_visit : Option (List Bit) → CellKind → Cell → Visit
register_visit (Some values) kind c =
    record { cell = None; links = record { left = signal_at c.pins (pin_text Q); right = map sig.Fixed values } ∷ [] }
register_visit None kind c = stays (enabled (enabled_of kind c) kind c)

-- a cell, where it may be a register
abbrev pub registered : List Wire → Option CellKind → Cell → Cell → Visit
registered wires None c followed = stays c
registered wires (Some kind) c followed = register_visit (settled_of wires kind followed) kind followed

-- a cell
abbrev pub dff_visit : Ports → List Wire → Visiting
dff_visit ports wires done rest links c = registered wires (register_of c) c (followed_cell ports links c)

-- the whole pass
abbrev pub dff_of : Ports → Module → Module
dff_of ports m = swept_of (dff_visit ports m.wires) m
