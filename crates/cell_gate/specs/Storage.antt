-- The values of one bit of a storage cell.
use Rattle.std.specs.Prelude.{◌≡◌, ℕ, Bool}
use Rattle.rtl_bits.specs.declared.bit.Bit.{Bit}
use Rattle.rtl_bits.specs.declared.bit.Bit.TheVariants.{S0, S1}
use Rattle.rtl_bits.specs.Tables.{seen_of}
use Rattle.cell_types.specs.declared.storage.StorageKind.{StorageKind}
use Rattle.cell_types.specs.declared.storage.StorageKind.TheVariants.{Ff, Dff, Dffe, Sdff, Sdffe, Sdffce, Adff, Adffe, Aldff, Aldffe, Dffsr, Dffsre, Dlatch, Adlatch, Dlatchsr, Sr}
use Rattle.cell_gate.specs.declared.pins.Pins.{Pins}
use Rattle.cell_types.specs.declared.levels.Levels.{Levels}
use Rattle.cell_types.specs.declared.shape.Shape.{Shape}
use Rattle.cell_gate.specs.declared.store.Store.{Store}
use Rattle.cell_gate.specs.Control.{active_of, pick_of, edge_of, was_of}
use Rattle.cell_gate.specs.Store.{store_of}

-- the pins with each control as whether it is active
abbrev pub acting_of : Levels → Pins → Pins
acting_of levels pins = record pins {
  clk = active_of levels.clk pins.clk;
  en = active_of levels.en pins.en;
  arst = active_of levels.arst pins.arst;
  srst = active_of levels.srst pins.srst;
  aload = active_of levels.aload pins.aload;
  set = active_of levels.set pins.set;
  clr = active_of levels.clr pins.clr;
}

-- what a clock makes of new data: the data at a certain edge, the old output at an impossible one,
-- else what the two have in common
abbrev pub clocked_of : Pins → Pins → Bit → Bit
clocked_of before now new = pick_of (edge_of before.clk now.clk) new before.q

-- what an enable makes of new data: the data where it is active, else the old output
abbrev pub enabled_of : Pins → Bit → Bit
enabled_of pins new = pick_of pins.en new pins.q

-- what a set and a clear make of a bit; the clear goes before the set
abbrev pub set_or_cleared_of : Pins → Bit → Bit
set_or_cleared_of now other = pick_of now.clr S0 (pick_of now.set S1 other)

-- a register: the data at the clock edge
abbrev pub register_of : Pins → Pins → Bit
register_of before now = clocked_of before now before.d

-- a register with an enable: the data at the clock edge where it is enabled
abbrev pub enabled_register_of : Pins → Pins → Bit
enabled_register_of before now = clocked_of before now (enabled_of before before.d)

-- a latch: the data while its gate is active
abbrev pub latch_of : Pins → Pins → Bit
latch_of before now = pick_of now.en now.d before.q

-- the output of a kind of storage, of the acting pins of the step before and of now, and of the
-- value that a reset gives
abbrev pub next_of : StorageKind → Bit → Pins → Pins → Bit
next_of Ff value before now = seen_of before.d
next_of Dff value before now = register_of before now
next_of Dffe value before now = enabled_register_of before now
next_of Sdff value before now = clocked_of before now (pick_of before.srst value before.d)
next_of Sdffe value before now =
    clocked_of before now (pick_of before.srst value (enabled_of before before.d))
next_of Sdffce value before now =
    clocked_of before now (enabled_of before (pick_of before.srst value before.d))
next_of Adff value before now = pick_of now.arst value (register_of before now)
next_of Adffe value before now = pick_of now.arst value (enabled_register_of before now)
next_of Aldff value before now = pick_of now.aload now.ad (register_of before now)
next_of Aldffe value before now = pick_of now.aload now.ad (enabled_register_of before now)
next_of Dffsr value before now = set_or_cleared_of now (register_of before now)
next_of Dffsre value before now = set_or_cleared_of now (enabled_register_of before now)
next_of Dlatch value before now = latch_of before now
next_of Adlatch value before now = pick_of now.arst value (latch_of before now)
next_of Dlatchsr value before now = set_or_cleared_of now (latch_of before now)
next_of Sr value before now = set_or_cleared_of now before.q

-- the output of a storage bit, of its pins in the step before and now, and of whether the step is
-- the first, in which the clock of the step before counts as x
abbrev pub stored_of : Store → Pins → Pins → Bool → Bit
stored_of store before now first =
    next_of store.kind store.value
    (acting_of store.levels (record before { clk = was_of first before.clk }))
    (acting_of store.levels now)

-- the output of a storage cell at a place
abbrev pub store_bit_of : Shape → ℕ → Pins → Pins → Bool → Bit
store_bit_of shape at before now first = stored_of (store_of shape at) before now first

-- a kind is a register where it has a clock
abbrev pub IsRegister : StorageKind → Type 0
IsRegister Ff = ⊥
IsRegister Dlatch = ⊥
IsRegister Adlatch = ⊥
IsRegister Dlatchsr = ⊥
IsRegister Sr = ⊥
IsRegister kind = Unit {0}

-- no asynchronous control of the kind is active, of the acting pins
abbrev pub IsQuiet : StorageKind → Pins → Type 0
IsQuiet Adff now = now.arst ≡ S0
IsQuiet Adffe now = now.arst ≡ S0
IsQuiet Aldff now = now.aload ≡ S0
IsQuiet Aldffe now = now.aload ≡ S0
IsQuiet Dffsr now = (now.set ≡ S0) × (now.clr ≡ S0)
IsQuiet Dffsre now = (now.set ≡ S0) × (now.clr ≡ S0)
IsQuiet kind now = Unit {0}

-- pins stand in an order of bits where each of their bits does
pub record PinsBelow (order : Bit → Bit → Type 0) (low high : Pins) : Type 0 where
  pub clk : order low.clk high.clk
  pub en : order low.en high.en
  pub arst : order low.arst high.arst
  pub srst : order low.srst high.srst
  pub aload : order low.aload high.aload
  pub ad : order low.ad high.ad
  pub set : order low.set high.set
  pub clr : order low.clr high.clr
  pub d : order low.d high.d
  pub q : order low.q high.q

-- a bit that depends on the pins of two steps keeps an order, in both of them together
abbrev pub IsPinMonotone : (Bit → Bit → Type 0) → (Pins → Pins → Bit) → Type 0
IsPinMonotone order f =
    (before before' now now' : Pins) →
    PinsBelow order before before' → PinsBelow order now now' → order (f before now) (f before' now')
