-- Which cells are among the readers of the bits that their inputs lead back to.
use Rattle.std.specs.Prelude.{◌≡◌, ℕ, List, Some, slice_get}
use Rattle.rtl_sig.specs.declared.sig.SigBit.{SigBit}
use Rattle.rtl_sig.specs.declared.sig.SigBit.TheVariants.{Wire as OnWire}
use Rattle.rtl_sig.specs.declared.sig.WireBit.{WireBit}
use Rattle.cell_types.specs.declared.kind.CellKind.{CellKind}
use Rattle.cell_types.specs.declared.pin_name.PinName.{PinName}
use Rattle.cell_types.specs.PinName.{pin_text}
use Rattle.rtl_ir.specs.declared.cell.Cell.{Cell}
use Rattle.rtl_ir.specs.declared.cell.Pin.{Pin}
use Rattle.rtl_ir.specs.declared.module.Link.{Link}
use Rattle.rtl_ir.specs.Follow.{follow}
use Rattle.rtl_ir.specs.Parameters.{signal_at}
use Rattle.net_model.specs.Lists.{In}
use Rattle.opt_merge.specs.declared.readers.Readers.{Readers}
use Rattle.opt_merge.specs.Readers.{readers_at}
use Rattle.opt_merge.specs.Traits.{input_pins, merging_kind}

-- something is so of each of these
abbrev pub EachOf : {A : Type 0} → (A → Type 0) → List A → Type 0
EachOf {A} P xs = (x : A) → In x xs → P x

-- the cell at a place reads this bit, where it is no constant
abbrev pub ReadsEnd : Readers → ℕ → SigBit → Type 0
ReadsEnd readers at end = (b : WireBit) → end ≡ OnWire b → In at (readers_at readers b)

-- it reads what this bit leads back to
abbrev pub ReadsBit : Readers → List Link → ℕ → SigBit → Type 0
ReadsBit readers links at x = ReadsEnd readers at (follow links x)

-- it reads the signal at this pin
abbrev pub ReadsPin : Readers → List Link → ℕ → List Pin → PinName → Type 0
ReadsPin readers links at pins name = EachOf (ReadsBit readers links at) (signal_at pins (pin_text name))

-- a cell at a place reads its inputs, if it may be merged
pub record ReadsCell (readers : Readers) (links : List Link) (at : ℕ) (c : Cell) : Type 0 where
  pub reads : (kind : CellKind) → merging_kind c ≡ Some kind → EachOf (ReadsPin readers links at c.pins) (input_pins kind)

-- each of these cells reads its inputs
pub record HasReaders (links : List Link) (cells : List Cell) (readers : Readers) : Type 0 where
  pub each : (at : ℕ) (c : Cell) → slice_get cells at ≡ Some c → ReadsCell readers links at c

-- what reads a bit still reads it
pub record MoreReaders (old new : Readers) : Type 0 where
  pub keeps : (b : WireBit) (at : ℕ) → In at (readers_at old b) → In at (readers_at new b)
