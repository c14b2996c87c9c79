-- The cells that are built for a memory have no fault of their kinds, and the connections have sides of one width.
use Rattle.std.proofs.Common.{◌≡◌, ◌<◌, ◌≤◌, ℕ, Bool, true, false, ◌||◌, List, [], ◌∷◌, length, Some, None, if◌then◌else◌, refl, arith}
use Rattle.std.specs.Prelude.{codes}
use Rattle.cell_types.specs.Fault.{fault_of}
use Rattle.cell_types.specs.ParamName.{param_text}
use Rattle.cell_types.specs.PinName.{pin_text}
use Rattle.cell_types.specs.declared.kind.CellKind.{CellKind}
use Rattle.cell_types.specs.declared.kind.CellKind.TheVariants.{Storage, Word}
use Rattle.cell_types.specs.declared.param_name.ParamName.TheVariants.{ASigned, AWidth, BSigned, BWidth, YWidth}
use Rattle.cell_types.specs.declared.pin_name.PinName.TheVariants.{A, B, Y}
use Rattle.cell_types.specs.declared.storage.StorageKind.TheVariants.{Dff}
use Rattle.cell_types.specs.declared.word.BitwiseKind.TheVariants.{And}
use Rattle.cell_types.specs.declared.word.EqualKind.TheVariants.{Eq}
use Rattle.cell_types.specs.declared.word.WordKind.TheVariants.{Bitwise, Equal, Mux}
use Rattle.rtl_bits.specs.Knowledge.{all_known}
use Rattle.rtl_bits.specs.Numbers.{number_of}
use Rattle.rtl_bits.specs.declared.bit.Bit.{Bit}
use Rattle.rtl_sig.specs.declared.sig.SigBit.{SigBit}
use Rattle.rtl_ir.specs.Build.{integer_param, pin_of, whole}
use Rattle.rtl_ir.specs.Constants.{low_bits}
use Rattle.rtl_ir.specs.Faults.Cells.{has_constant_output, is_memory_kind, misfit}
use Rattle.rtl_ir.specs.Flat.Cell.{cell_kind}
use Rattle.rtl_ir.specs.Signals.{bits_of_wire, has_constant}
use Rattle.rtl_ir.specs.Types.{Library}
use Rattle.rtl_ir.specs.declared.cell.Cell.{Cell}
use Rattle.build_laws.proofs.CellFits.{no_constant, mux_fits, eq_fits, dff_fits}
use Rattle.memory_laws.proofs.PortCells.{whole_long}
use Rattle.pass_laws.proofs.CellNumbers.{number_known, number_is}

and_fits : (z o : List Bit) (ly : ℕ) → all_known z ≡ true → all_known o ≡ true → number_of o ≡ 1 → ly ≡ 1
    → fault_of (Word (Bitwise And))
    (record { name = param_text ASigned; value = z } ∷ record { name = param_text AWidth; value = o } ∷ record { name = param_text BSigned; value = z } ∷ record { name = param_text BWidth; value = o } ∷ record { name = param_text YWidth; value = o } ∷ [])
    (record { name = pin_text A; width = 1 } ∷ record { name = pin_text B; width = 1 } ∷ record { name = pin_text Y; width = ly } ∷ []) ≡ None
and_fits z o ly kz ko one ey = rw (kz, ko, one, ey) refl

or_none : (t : Bool) → t ≡ false → (t || false) ≡ false
or_none true e = e
or_none false e = refl

-- a cell of the library that is none of a memory fits its kind, and has no constant at its output
pub record IsFit (c : Cell) : Type 0 where
  pub kind : CellKind
  pub own : cell_kind c ≡ Some kind
  pub plain : is_memory_kind kind ≡ false
  pub shape : misfit kind c ≡ None
  pub output : has_constant_output (Library kind) c.pins ≡ false

abbrev pub eq_made : List ℕ → List SigBit → List SigBit → ℕ → Cell
eq_made name a b wire = record {
  kind_name = codes "$eq";
  name = name;
  params = integer_param (codes "\\A_SIGNED") 0 ∷ integer_param (codes "\\A_WIDTH") (length a) ∷ integer_param (codes "\\B_SIGNED") 0 ∷ integer_param (codes "\\B_WIDTH") (length a) ∷ integer_param (codes "\\Y_WIDTH") 1 ∷ [];
  pins = pin_of (codes "\\A") a ∷ pin_of (codes "\\B") b ∷ pin_of (codes "\\Y") (whole wire 1) ∷ [];
  attributes = [];
}

pub eq_fit : (name : List ℕ) (a b : List SigBit) (wire : ℕ) → length b ≡ length a → 0 < length a → length a ≤ 4096 → IsFit (eq_made name a b wire)
unfolding cell_kind misfit
eq_fit name a b wire lb some few = record {
  kind = Word (Equal Eq);
  own = refl;
  plain = refl;
  shape = eq_fits (low_bits 0 32) (low_bits (length a) 32) (low_bits 1 32) (length a) (length b) (length (whole wire 1)) (length a) (number_known 0) (number_known (length a)) (number_known 1) (number_is (length a) few) (number_is 1 (omega arith)) refl lb (whole_long wire 1) some few;
  output = or_none (has_constant (whole wire 1)) (no_constant (bits_of_wire wire 1));
}

abbrev pub and_made : List ℕ → SigBit → SigBit → ℕ → Cell
and_made name match enable wire = record {
  kind_name = codes "$and";
  name = name;
  params = integer_param (codes "\\A_SIGNED") 0 ∷ integer_param (codes "\\A_WIDTH") 1 ∷ integer_param (codes "\\B_SIGNED") 0 ∷ integer_param (codes "\\B_WIDTH") 1 ∷ integer_param (codes "\\Y_WIDTH") 1 ∷ [];
  pins = pin_of (codes "\\A") (match ∷ []) ∷ pin_of (codes "\\B") (enable ∷ []) ∷ pin_of (codes "\\Y") (whole wire 1) ∷ [];
  attributes = [];
}

pub and_fit : (name : List ℕ) (match enable : SigBit) (wire : ℕ) → IsFit (and_made name match enable wire)
unfolding cell_kind misfit
and_fit name match enable wire = record {
  kind = Word (Bitwise And);
  own = refl;
  plain = refl;
  shape = and_fits (low_bits 0 32) (low_bits 1 32) (length (whole wire 1)) (number_known 0) (number_known 1) (number_is 1 (omega arith)) (whole_long wire 1);
  output = or_none (has_constant (whole wire 1)) (no_constant (bits_of_wire wire 1));
}

abbrev pub mux_made : List ℕ → List SigBit → List SigBit → SigBit → ℕ → Cell
mux_made name a b s wire = record {
  kind_name = codes "$mux";
  name = name;
  params = integer_param (codes "\\WIDTH") (length a) ∷ [];
  pins = pin_of (codes "\\A") a ∷ pin_of (codes "\\B") b ∷ pin_of (codes "\\S") (s ∷ []) ∷ pin_of (codes "\\Y") (whole wire (length a)) ∷ [];
  attributes = [];
}

pub mux_fit : (name : List ℕ) (a b : List SigBit) (s : SigBit) (wire : ℕ) → length b ≡ length a → 0 < length a → length a ≤ 4096 → IsFit (mux_made name a b s wire)
unfolding cell_kind misfit
mux_fit name a b s wire lb some few = record {
  kind = Word Mux;
  own = refl;
  plain = refl;
  shape = mux_fits (low_bits (length a) 32) (length a) (length b) (length (whole wire (length a))) (length a) (number_known (length a)) (number_is (length a) few) refl lb (whole_long wire (length a)) some few;
  output = or_none (has_constant (whole wire (length a))) (no_constant (bits_of_wire wire (length a)));
}

abbrev pub dff_made : List ℕ → Bool → SigBit → List SigBit → List SigBit → Cell
dff_made name rising clock d q = record {
  kind_name = codes "$dff";
  name = name;
  params = integer_param (codes "\\WIDTH") (length q) ∷ integer_param (codes "\\CLK_POLARITY") (if rising then 1 else 0) ∷ [];
  pins = pin_of (codes "\\CLK") (clock ∷ []) ∷ pin_of (codes "\\D") d ∷ pin_of (codes "\\Q") q ∷ [];
  attributes = [];
}

pub dff_fit : (name : List ℕ) (rising : Bool) (clock : SigBit) (d q : List SigBit) → length d ≡ length q → 0 < length q → length q ≤ 4096 → has_constant q ≡ false → IsFit (dff_made name rising clock d q)
unfolding cell_kind misfit
dff_fit name rising clock d q ld some few whole_q = record {
  kind = Storage Dff;
  own = refl;
  plain = refl;
  shape = dff_fits (low_bits (length q) 32) (low_bits (if rising then 1 else 0) 32) 1 (length d) (length q) (length q) (number_known (length q)) (number_is (length q) few) (number_known (if rising then 1 else 0)) refl ld refl some few;
  output = or_none (has_constant q) whole_q;
}
