-- Orders of time: what the edge of a clock takes where an asynchronous control changes in the same step.
use Rattle.std.specs.Prelude.{ℕ, Bool}
use Rattle.rtl_bits.specs.declared.bit.Bit.{Bit}
use Rattle.cell_types.specs.declared.levels.Levels.{Levels}
use Rattle.cell_types.specs.declared.shape.Shape.{Shape}
use Rattle.cell_types.specs.declared.storage.StorageKind.{StorageKind}
use Rattle.cell_types.specs.declared.storage.StorageKind.TheVariants.{Adff, Adffe, Aldff, Aldffe, Dffsr, Dffsre}
use Rattle.cell_gate.specs.declared.pins.Pins.{Pins}
use Rattle.cell_gate.specs.Control.{pick_of, was_of}
use Rattle.cell_gate.specs.Storage.{acting_of, clocked_of, enabled_of, set_or_cleared_of, stored_of}
use Rattle.cell_gate.specs.Store.{reset_at, storage_kind}
use Rattle.net_model.specs.declared.order.Order.{Order}
use Rattle.net_model.specs.declared.order.Order.TheVariants.{Together, Released}

-- how a step is taken: whether it is the first one, and the order of time
pub record Manner : Type 0 where
  pub first : Bool
  pub order : Order

-- what the edge of a clock takes, of the acting pins of the step before: the data, under the asynchronous control as it was
abbrev pub taken_of : StorageKind → Bit → Pins → Bit
taken_of Adff value before = pick_of before.arst value before.d
taken_of Adffe value before = pick_of before.arst value (enabled_of before before.d)
taken_of Aldff value before = pick_of before.aload before.ad before.d
taken_of Aldffe value before = pick_of before.aload before.ad (enabled_of before before.d)
taken_of Dffsr value before = set_or_cleared_of before before.d
taken_of Dffsre value before = set_or_cleared_of before (enabled_of before before.d)
taken_of kind value before = before.d

-- the output of a kind of storage whose clock takes the value under the control as it was, and on which the control as it is
-- now acts; of a kind without such a control what it is in the first order
abbrev pub released_of : StorageKind → Bit → Pins → Pins → Bit → Bit
released_of Adff value before now other = pick_of now.arst value (clocked_of before now (taken_of Adff value before))
released_of Adffe value before now other = pick_of now.arst value (clocked_of before now (taken_of Adffe value before))
released_of Aldff value before now other = pick_of now.aload now.ad (clocked_of before now (taken_of Aldff value before))
released_of Aldffe value before now other = pick_of now.aload now.ad (clocked_of before now (taken_of Aldffe value before))
released_of Dffsr value before now other = set_or_cleared_of now (clocked_of before now (taken_of Dffsr value before))
released_of Dffsre value before now other = set_or_cleared_of now (clocked_of before now (taken_of Dffsre value before))
released_of kind value before now other = other

-- the pins of the step before, whose clock and asynchronous controls count as x in the first step
abbrev pub were_of : Bool → Pins → Pins
were_of first pins = record pins {
  clk = was_of first pins.clk;
  arst = was_of first pins.arst;
  aload = was_of first pins.aload;
  set = was_of first pins.set;
  clr = was_of first pins.clr;
}

-- the output of a storage bit in an order of time, of its pins in the step before and now, and of whether the step is the first
abbrev pub stored_in : Order → StorageKind → Levels → Bit → Pins → Pins → Bool → Bit
stored_in Together kind levels value before now first =
    stored_of (record { kind = kind; levels = levels; value = value }) before now first
stored_in Released kind levels value before now first =
    released_of kind value (acting_of levels (were_of first before)) (acting_of levels now)
    (stored_of (record { kind = kind; levels = levels; value = value }) before now first)

-- the output of a storage cell at a place, in a manner
abbrev pub next_bit_of : Manner → Shape → ℕ → Pins → Pins → Bit
next_bit_of manner shape at before now =
    stored_in manner.order (storage_kind shape.kind) shape.levels (reset_at (storage_kind shape.kind) shape.resets at) before now manner.first
