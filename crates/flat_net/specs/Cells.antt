-- What is put behind the bits that a cell drives.
use Rattle.std.specs.Prelude.{◌≡◌, ◌<◌, ℕ, List, ◌++◌, length, map, slice_index_or}
use Rattle.std.specs.List.{AllByRecursion}
use Rattle.rtl_bits.specs.declared.bit.Bit.{Bit}
use Rattle.rtl_bits.specs.declared.bit.Bit.TheVariants.{X}
use Rattle.rtl_sig.specs.declared.sig.SigBit.{SigBit}
use Rattle.cell_types.specs.declared.shape.Shape.{Shape}
use Rattle.rtl_ir.specs.Flat.Cell.{outputs, stores}
use Rattle.rtl_ir.specs.Flat.Driver.{Driven, StorePoints}
use Rattle.rtl_ir.specs.Flat.Place.{Place}
use Rattle.rtl_ir.specs.Flat.Point as rtl
use Rattle.flat_net.specs.declared.net.Logic.{Logic}
use Rattle.flat_net.specs.declared.net.Output.{Output}
use Rattle.flat_net.specs.declared.net.Point.{Point}
use Rattle.flat_net.specs.declared.net.Point.TheVariants.{Constant}
use Rattle.flat_net.specs.declared.net.StoreBit.{StoreBit}
use Rattle.flat_net.specs.declared.net.StorePins.{StorePins}
use Rattle.flat_net.specs.declared.reads.Reads.{Reads}
use Rattle.flat_net.specs.declared.reads.Reads.TheVariants.{Word, Gate}
use Rattle.flat_net.specs.Parts.{output_row, inputs_of, store_row}
use Rattle.flat_net.specs.Points.{points_of, pins_of}
use Rattle.flat_net.specs.Within.{ArePointsWithin, ArePinsWithin, IsLogicWithin, IsStoreWithin}

-- the combinational cell is these rows of numbered bits
pub record IsLogic (ps : List Place) (c : Logic) (rows : List Driven) : Type 0 where
  pub are : map (output_row ps c.shape (inputs_of ps c)) c.outputs ≡ rows
  pub within : IsLogicWithin (length ps) c

-- behind these outputs stand those of the points, from a place on
pub record PutsOutputs (at : ℕ) (old new : List Output) (points : List Point) : Type 0 where
  pub rows : (ps : List Place) (shape : Shape) (inputs : List (List rtl.Point))
      → map (output_row ps shape inputs) new ≡ map (output_row ps shape inputs) old ++ outputs shape inputs (points_of ps points) at
  pub within : (count : ℕ) → ArePointsWithin count points → AllByRecursion (λ (o : Output). o.number < count) old
      → AllByRecursion (λ (o : Output). o.number < count) new

-- the point at a place, past the end the constant x
abbrev pub listed_point : List Point → ℕ → Point
listed_point points at = slice_index_or points at (Constant X)

-- what the bit of a storage cell at a place reads
abbrev pub reads_at : Reads → ℕ → StorePins
reads_at (Word w) at = record {
  clk = w.clk;
  en = w.en;
  arst = w.arst;
  srst = w.srst;
  aload = w.aload;
  ad = listed_point w.ad at;
  set = listed_point w.set at;
  clr = listed_point w.clr at;
  d = listed_point w.d at;
}
reads_at (Gate pins) at = pins

-- the bits of the cell read this
pub record AreReads (ps : List Place) (reads : Reads) (they : ℕ → StorePoints) : Type 0 where
  pub are : (at : ℕ) → pins_of ps (reads_at reads at) ≡ they at
  pub within : (at : ℕ) → ArePinsWithin (length ps) (reads_at reads at)

-- behind these bits stand those of a signal with its points, from a place on, as far as both go
pub record PutsStores (start : SigBit → Bit) (reads : Reads) (at : ℕ) (old new : List StoreBit) (signal : List SigBit) (points : List Point) : Type 0 where
  pub rows : (ps : List Place) (shape : Shape)
      → map (store_row ps shape) new ≡ map (store_row ps shape) old ++ stores start shape (λ at. pins_of ps (reads_at reads at)) signal (points_of ps points) at
  pub within : (count : ℕ) → ((at : ℕ) → ArePinsWithin count (reads_at reads at)) → ArePointsWithin count points
      → AllByRecursion (IsStoreWithin count) old → AllByRecursion (IsStoreWithin count) new
