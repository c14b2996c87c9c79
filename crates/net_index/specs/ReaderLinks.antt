-- The connections that read a bit, each once.
use Rattle.std.specs.Prelude.{◌≡◌, ℕ, ◌+◌, ◌≤◌, ◌++◌, nat_le, List, [], ◌∷◌, Some, if◌then◌else◌, slice_index}
use Rattle.rtl_sig.specs.declared.sig.SigBit.{SigBit}
use Rattle.rtl_sig.specs.declared.sig.SigBit.TheVariants as sig
use Rattle.rtl_sig.specs.declared.sig.WireBit.{WireBit}
use Rattle.rtl_ir.specs.Signals.{has_bit, wire_bits}
use Rattle.net_index.specs.declared.reader.Reader.{Reader}
use Rattle.net_index.specs.declared.reader.Reader.TheVariants as reader
use Rattle.net_index.specs.declared.reader_fill.BitReader.{BitReader}
use Rattle.net_index.specs.Numbering.{bit_count, number_of}
use Rattle.net_index.specs.ReaderFill.{AreBelow, readers_at}

-- the connection at a place as a reader of a bit, where its right side has it
abbrev pub readers_by_link : ℕ → List SigBit → WireBit → List Reader
readers_by_link link right b = if has_bit (wire_bits right) b then reader.Link link ∷ [] else []

-- no bit is marked with more than so many connections
abbrev pub AreMarks : ℕ → List ℕ → Type 0
AreMarks links marks = (number : ℕ) → slice_index marks number ≤ links

-- the connection as a reader that is still to be added for these bits: none where the bit's mark is above its place
abbrev pub left_by_link : List ℕ → ℕ → List SigBit → WireBit → ℕ → List Reader
left_by_link marks link right b number =
    if nat_le (slice_index marks number) link then readers_by_link link right b else []

-- the connection is added for its next bit, this one, where it was not
pub record AddsLink (widths : List ℕ) (link : ℕ) (bit : WireBit) (old : List BitReader) (marks : List ℕ) (new : List BitReader) (after : List ℕ) : Type 0 where
  pub below : AreBelow (bit_count widths) old → AreBelow (bit_count widths) new
  pub marked : AreMarks (link + 1) marks → AreMarks (link + 1) after
  pub readers : (b : WireBit) (number : ℕ) → number_of widths b ≡ Some number → (rest : List SigBit) →
      readers_at new number ++ left_by_link after link rest b number
      ≡ readers_at old number ++ left_by_link marks link (sig.Wire bit ∷ rest) b number
