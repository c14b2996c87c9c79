-- The readers of the bits of a module in one list, each with the number of the bit that it reads.
use Rattle.std.specs.Prelude.{◌≡◌, ℕ, ◌<◌, ◌==◌, ◌++◌, List, [], ◌∷◌, Some, if◌then◌else◌}
use Rattle.std.specs.List.{All}
use Rattle.rtl_sig.specs.declared.sig.WireBit.{WireBit}
use Rattle.rtl_ir.specs.declared.cell.Pin.{Pin}
use Rattle.rtl_ir.specs.Outputs.{drives_pin}
use Rattle.rtl_ir.specs.Signals.{same_bit}
use Rattle.rtl_ir.specs.Types.{CellType}
use Rattle.net_index.specs.declared.reader.Reader.{Reader}
use Rattle.net_index.specs.declared.reader_fill.BitReader.{BitReader}
use Rattle.net_index.specs.Numbering.{bit_count, number_of}
use Rattle.net_index.specs.Readers.{Read, places_read}

-- the readers in the list of the bit of a number, in order
abbrev pub readers_at : List BitReader → ℕ → List Reader
readers_at [] number = []
readers_at (r ∷ rs) number = if r.number == number then r.reader ∷ readers_at rs number else readers_at rs number

-- each of the list is of one of so many bits
abbrev pub AreBelow : ℕ → List BitReader → Type 0
AreBelow count list = All (λ (r : BitReader). r.number < count) list

-- to the list were added, for each bit that a wire has, these readers
pub record Adds (widths : List ℕ) (old : List BitReader) (added : WireBit → List Reader) (new : List BitReader) : Type 0 where
  pub below : AreBelow (bit_count widths) old → AreBelow (bit_count widths) new
  pub readers : (b : WireBit) (number : ℕ) → number_of widths b ≡ Some number →
      readers_at new number ≡ readers_at old number ++ added b

-- the list has, for each bit that a wire has, these readers, and nothing else
pub record HasReaders (widths : List ℕ) (list : List BitReader) (wanted : WireBit → List Reader) : Type 0 where
  pub below : AreBelow (bit_count widths) list
  pub readers : (b : WireBit) (number : ℕ) → number_of widths b ≡ Some number → readers_at list number ≡ wanted b

-- one reader, of one bit
abbrev pub reader_of : WireBit → Reader → WireBit → List Reader
reader_of bit reader b = if same_bit bit b then reader ∷ [] else []

-- what a cell of this type reads by a pin
abbrev pub reads_of_pin : CellType → ℕ → ℕ → Pin → List Read
reads_of_pin type cell pin p = if drives_pin type p.name then [] else places_read cell pin 0 p.sig
