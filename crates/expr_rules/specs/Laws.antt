-- What the rules owe: no change says less than the cell did.
use Rattle.std.specs.Prelude.{◌≡◌, ℕ, ◌<◌, List, [], ◌∷◌, length, map, slice_index_or, Some}
use Rattle.rtl_bits.specs.declared.bit.Bit.{Bit}
use Rattle.rtl_bits.specs.declared.bit.Bit.TheVariants.{S0, X}
use Rattle.rtl_bits.specs.Knowledge.{Below}
use Rattle.rtl_bits.specs.Tables.{not_of}
use Rattle.rtl_sig.specs.declared.sig.SigBit.{SigBit}
use Rattle.rtl_sig.specs.declared.sig.SigBit.TheVariants.{Fixed}
use Rattle.cell_types.specs.declared.kind.CellKind.{CellKind}
use Rattle.cell_types.specs.declared.kind.CellKind.TheVariants.{Word, Gate}
use Rattle.cell_types.specs.declared.shape.Shape.{Shape}
use Rattle.cell_word.specs.Values.{IsWithin}
use Rattle.net_model.specs.Value.{worked_of}
use Rattle.expr_rules.specs.Signals.{constants_of, first_bit}
use Rattle.expr_rules.specs.declared.change.Change.{Change}
use Rattle.expr_rules.specs.declared.change.Change.TheVariants.{Gives, Becomes}
use Rattle.expr_rules.specs.declared.operands.Operands.{Operands}

-- a cell is combinational: within the widths that its value is computed for, and a gate has one bit
abbrev pub IsComputed : CellKind → Shape → Operands → Type 0
IsComputed (Word kind) shape o = IsWithin kind (constants_of o.a) (constants_of o.b) (constants_of o.s) shape.widths.y
IsComputed (Gate kind) shape o = shape.widths.y ≡ 1
IsComputed kind shape o = ⊥

-- a reading of signals takes each constant as itself
abbrev pub IsReading : (SigBit → Bit) → Type 0
IsReading f = (c : Bit) → f (Fixed c) ≡ c

-- a bit of a signal as it is read; past its end x
abbrev pub read_at : (SigBit → Bit) → List SigBit → ℕ → Bit
read_at f word at = f (slice_index_or word at (Fixed X))

-- what a reading has of the inverters below a cell: as far as S is known, it is the inverse of that inverter's A, and so is
-- each bit of A
pub record KnowsInverters (f : SigBit → Bit) (o : Operands) : Type 0 where
  pub inverted : (s : SigBit) → o.inverted ≡ Some s → Below (f (first_bit o.s)) (not_of (f s))
  pub inner :
      (a : List SigBit) → o.inner ≡ Some a → (at : ℕ) → at < length a →
      Below (read_at f o.a at) (not_of (read_at f a at))

-- the words that are read at A, B and S
abbrev pub words_read : (SigBit → Bit) → List SigBit → List SigBit → List SigBit → List (List Bit)
words_read f a b s = map f a ∷ map f b ∷ map f s ∷ []

-- a bit of the output of a cell
abbrev pub output_at : (SigBit → Bit) → Shape → Operands → ℕ → Bit
output_at f shape o at = worked_of shape.kind shape (words_read f o.a o.b o.s) at

-- a change says no less than the cell, bit by bit of Y: what it gives, or the new cell, whatever else its shape says
abbrev pub SaysAll : (SigBit → Bit) → Shape → Operands → Change → Type 0
SaysAll f shape o (Gives word) =
    (at : ℕ) → at < shape.widths.y → Below (output_at f shape o at) (f (slice_index_or word at (Fixed S0)))
SaysAll f shape o (Becomes c) =
    (new : Shape) → new.kind ≡ c.kind → new.widths.y ≡ shape.widths.y → (at : ℕ) → at < shape.widths.y →
    Below (output_at f shape o at) (worked_of c.kind new (words_read f c.a c.b c.s) at)

-- a change refines a cell: under each reading it says no less
abbrev pub Refines : Shape → Operands → Change → Type 0
Refines shape o change = (f : SigBit → Bit) → IsReading f → KnowsInverters f o → SaysAll f shape o change
