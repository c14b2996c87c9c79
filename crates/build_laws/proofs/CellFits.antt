-- The cells that trees become: multiplexers, comparisons and the join of several matches fit their kinds.
use Rattle.std.proofs.Common.{◌≡◌, ℕ, zero, suc, ◌+◌, ◌<◌, ◌≤◌, Bool, true, false, List, [], ◌∷◌, length, None, inl, inr, refl, ◌∙◌, ap, arith}
use Rattle.std.specs.Prelude.{◌==◌, ◌||◌, codes, map, nat_lt}
use Rattle.std.specs.List.{range_with_len}
use Rattle.std.proofs.lemmas.Bool.{eq-eqb, lt-ltb}
use Rattle.std.proofs.lemmas.List.{length-map}
use Rattle.cell_types.specs.declared.kind.CellKind.TheVariants.{Word, Storage}
use Rattle.cell_types.specs.declared.param_name.ParamName.TheVariants.{ASigned, AWidth, BSigned, BWidth, YWidth, Width, ClkPolarity}
use Rattle.cell_types.specs.declared.pin_name.PinName.TheVariants.{A, B, S, Y, Clk, D, Q}
use Rattle.cell_types.specs.declared.word.EqualKind.TheVariants.{Eq}
use Rattle.cell_types.specs.declared.word.FoldKind.TheVariants.{Or}
use Rattle.cell_types.specs.declared.word.WordKind.TheVariants.{Equal, Fold, Mux}
use Rattle.cell_types.specs.Fault.{fault_of}
use Rattle.cell_types.specs.ParamName.{param_text}
use Rattle.cell_types.specs.PinName.{pin_text}
use Rattle.rtl_bits.specs.Knowledge.{all_known}
use Rattle.rtl_bits.specs.Numbers.{number_of}
use Rattle.rtl_bits.specs.declared.bit.Bit.{Bit}
use Rattle.rtl_ir.specs.Build.{integer_param, pin_of, whole}
use Rattle.rtl_ir.specs.Constants.{low_bits}
use Rattle.rtl_ir.specs.Faults.Cells.{misfit}
use Rattle.rtl_ir.specs.Flat.Cell.{cell_kind}
use Rattle.rtl_ir.specs.Signals.{bits_of_wire, has_constant, wire_bits}
use Rattle.rtl_ir.specs.declared.cell.Cell.{Cell}
use Rattle.rtl_ir.specs.declared.cell.Pin.{Pin}
use Rattle.rtl_sig.specs.declared.sig.SigBit.{SigBit}
use Rattle.rtl_sig.specs.declared.sig.SigBit.TheVariants.{Wire as OnWire}
use Rattle.rtl_sig.specs.declared.sig.WireBit.{WireBit}
use Rattle.net_model.specs.Within.{BitIn, Each, SigIn}
use Rattle.net_model.proofs.Ranges.{each_more, each_none}
use Rattle.map_laws.specs.Expansion.{IsWhole}
use Rattle.pass_laws.proofs.CellNumbers.{number_known, number_is}
use Rattle.cell_types.specs.declared.storage.StorageKind.TheVariants.{Dff}

-- a multiplexer of words, with its one parameter
pub mux_fits : (v : List Bit) (la lb ly n : ℕ) → all_known v ≡ true → number_of v ≡ n → la ≡ n → lb ≡ n → ly ≡ n → 0 < n → n ≤ 4096
    → fault_of (Word Mux) (record { name = param_text Width; value = v } ∷ [])
    (record { name = pin_text A; width = la } ∷ record { name = pin_text B; width = lb } ∷ record { name = pin_text S; width = 1 } ∷ record { name = pin_text Y; width = ly } ∷ []) ≡ None
mux_fits v la lb ly n k e ea eb ey some few =
    let positive : nat_lt 0 n ≡ true = lt-ltb 0 n some in
    let narrow : nat_lt 4096 n ≡ false = grind arith in
    let same : (n == n) ≡ true = eq-eqb n n refl in
    rw (k, e, ea, eb, ey, positive, narrow, same) refl

-- a comparison of two words of one width
pub eq_fits : (z v o : List Bit) (la lb ly n : ℕ) → all_known z ≡ true → all_known v ≡ true → all_known o ≡ true → number_of v ≡ n → number_of o ≡ 1 → la ≡ n → lb ≡ n → ly ≡ 1 → 0 < n → n ≤ 4096
    → fault_of (Word (Equal Eq))
    (record { name = param_text ASigned; value = z } ∷ record { name = param_text AWidth; value = v } ∷ record { name = param_text BSigned; value = z } ∷ record { name = param_text BWidth; value = v } ∷ record { name = param_text YWidth; value = o } ∷ [])
    (record { name = pin_text A; width = la } ∷ record { name = pin_text B; width = lb } ∷ record { name = pin_text Y; width = ly } ∷ []) ≡ None
eq_fits z v o la lb ly n kz kv ko nv one ea eb ey some few =
    let positive : nat_lt 0 n ≡ true = lt-ltb 0 n some in
    let narrow : nat_lt 4096 n ≡ false = grind arith in
    let same : (n == n) ≡ true = eq-eqb n n refl in
    rw (kz, kv, ko, nv, one, ea, eb, ey, positive, narrow, same) refl

-- the join of the bits of a word
or_fits : (z v o : List Bit) (la ly n : ℕ) → all_known z ≡ true → all_known v ≡ true → all_known o ≡ true → number_of v ≡ n → number_of o ≡ 1 → la ≡ n → ly ≡ 1 → 0 < n → n ≤ 4096
    → fault_of (Word (Fold Or))
    (record { name = param_text ASigned; value = z } ∷ record { name = param_text AWidth; value = v } ∷ record { name = param_text YWidth; value = o } ∷ [])
    (record { name = pin_text A; width = la } ∷ record { name = pin_text Y; width = ly } ∷ []) ≡ None
or_fits z v o la ly n kz kv ko nv one ea ey some few =
    let positive : nat_lt 0 n ≡ true = lt-ltb 0 n some in
    let narrow : nat_lt 4096 n ≡ false = grind arith in
    let same : (n == n) ≡ true = eq-eqb n n refl in
    rw (kz, kv, ko, nv, one, ea, ey, positive, narrow, same) refl

-- a flip-flop
pub dff_fits : (v p : List Bit) (lc ld lq n : ℕ) → all_known v ≡ true → number_of v ≡ n → all_known p ≡ true → lc ≡ 1 → ld ≡ n → lq ≡ n → 0 < n → n ≤ 4096
    → fault_of (Storage Dff) (record { name = param_text Width; value = v } ∷ record { name = param_text ClkPolarity; value = p } ∷ [])
    (record { name = pin_text Clk; width = lc } ∷ record { name = pin_text D; width = ld } ∷ record { name = pin_text Q; width = lq } ∷ []) ≡ None
dff_fits v p lc ld lq n kv nv kp ec ed eq some few =
    let positive : nat_lt 0 n ≡ true = lt-ltb 0 n some in
    let narrow : nat_lt 4096 n ≡ false = grind arith in
    let same : (n == n) ≡ true = eq-eqb n n refl in
    rw (kv, kp, nv, ec, ed, eq, positive, narrow, same) refl

-- the whole signal of a wire
pub range_length : (from n : ℕ) → length (range_with_len from n) ≡ n
range_length from zero = refl
range_length from (suc n) = omega (arith, range_length (from + 1) n)

pub whole_length : (wire width : ℕ) → length (whole wire width) ≡ width
whole_length wire width =
    length-map (bits_of_wire wire width) OnWire
    ∙ length-map (range_with_len 0 width) (λ at. record { wire = wire; at = at })
    ∙ range_length 0 width

pub bits_back : (bits : List WireBit) → wire_bits (map OnWire bits) ≡ bits
bits_back [] = refl
bits_back (b ∷ bits) = ap (λ z. b ∷ z) (bits_back bits)

pub no_constant : (bits : List WireBit) → has_constant (map OnWire bits) ≡ false
no_constant [] = refl
no_constant (b ∷ bits) = no_constant bits

pub bits_within : (n : ℕ) (bits : List WireBit) → Each (λ (b : WireBit). b.wire < n) bits → SigIn n (map OnWire bits)
bits_within n [] h = each_none (BitIn n)
bits_within n (b ∷ bits) h = each_more (BitIn n) (OnWire b) (map OnWire bits) (h b (inl refl)) (bits_within n bits (λ c i. h c (inr i)))

pub whole_within : (n wire width : ℕ) → wire < n → SigIn n (whole wire width)
whole_within n wire width h = bits_within n (bits_of_wire wire width) (each (range_with_len 0 width))
  where
    each : (ats : List ℕ) → Each (λ (b : WireBit). b.wire < n) (map (λ at. record { wire = wire; at = at }) ats)
    each [] = each_none (λ (b : WireBit). b.wire < n)
    each (at ∷ ats) = each_more (λ (b : WireBit). b.wire < n) (record { wire = wire; at = at }) _ h (each ats)

or_none : (t : Bool) → t ≡ false → (t || false) ≡ false
or_none t e = rw e refl

-- pins within a module of so many wires
two_within : (n : ℕ) (a y : Pin) → SigIn n a.sig → SigIn n y.sig → Each (λ (pin : Pin). SigIn n pin.sig) (a ∷ y ∷ [])
two_within n a y h k =
    each_more (λ (pin : Pin). SigIn n pin.sig) a (y ∷ []) h (each_more (λ (pin : Pin). SigIn n pin.sig) y [] k (each_none (λ (pin : Pin). SigIn n pin.sig)))

three_within : (n : ℕ) (a b y : Pin) → SigIn n a.sig → SigIn n b.sig → SigIn n y.sig → Each (λ (pin : Pin). SigIn n pin.sig) (a ∷ b ∷ y ∷ [])
three_within n a b y h i k = each_more (λ (pin : Pin). SigIn n pin.sig) a (b ∷ y ∷ []) h (two_within n b y i k)

four_within : (n : ℕ) (a b s y : Pin) → SigIn n a.sig → SigIn n b.sig → SigIn n s.sig → SigIn n y.sig → Each (λ (pin : Pin). SigIn n pin.sig) (a ∷ b ∷ s ∷ y ∷ [])
four_within n a b s y h i j k = each_more (λ (pin : Pin). SigIn n pin.sig) a (b ∷ s ∷ y ∷ []) h (three_within n b s y i j k)

module _ (n : ℕ) (name : List ℕ) (wire : ℕ) (fresh : wire < n) where
  -- a multiplexer of two signals by a bit, with this wire at its output
  abbrev pub mux_of : List SigBit → List SigBit → SigBit → Cell
  mux_of a b s = record {
    kind_name = codes "$mux";
    name = name;
    params = integer_param (codes "\\WIDTH") (length a) ∷ [];
    pins =
        pin_of (codes "\\A") a ∷ pin_of (codes "\\B") b ∷ pin_of (codes "\\S") (s ∷ []) ∷ pin_of (codes "\\Y") (whole wire (length a)) ∷ [];
    attributes = [];
  }

  pub mux_whole : (a b : List SigBit) (s : SigBit) → length b ≡ length a → 0 < length a → length a ≤ 4096 → SigIn n a → SigIn n b → BitIn n s → IsWhole n (Word Mux) (mux_of a b s)
  unfolding cell_kind misfit
  mux_whole a b s long some few h i j = record {
    own = refl;
    shape = mux_fits (low_bits (length a) 32) (length a) (length b) (length (whole wire (length a))) (length a) (number_known (length a)) (number_is (length a) few) refl long (whole_length wire (length a)) some few;
    output = or_none (has_constant (whole wire (length a))) (no_constant (bits_of_wire wire (length a)));
    within = four_within n _ _ _ _ h i (each_more (BitIn n) s [] j (each_none (BitIn n))) (whole_within n wire (length a) fresh);
  }

  -- a one-bit comparison of two signals
  abbrev pub eq_of : ℕ → List SigBit → List SigBit → Cell
  eq_of width a b = record {
    kind_name = codes "$eq";
    name = name;
    params =
        integer_param (codes "\\A_SIGNED") 0 ∷ integer_param (codes "\\A_WIDTH") width ∷ integer_param (codes "\\B_SIGNED") 0 ∷ integer_param (codes "\\B_WIDTH") width ∷ integer_param (codes "\\Y_WIDTH") 1 ∷ [];
    pins = pin_of (codes "\\A") a ∷ pin_of (codes "\\B") b ∷ pin_of (codes "\\Y") (whole wire 1) ∷ [];
    attributes = [];
  }

  pub eq_whole : (width : ℕ) (a b : List SigBit) → length a ≡ width → length b ≡ width → 0 < width → width ≤ 4096 → SigIn n a → SigIn n b → IsWhole n (Word (Equal Eq)) (eq_of width a b)
  unfolding cell_kind misfit
  eq_whole width a b la lb some few h i = record {
    own = refl;
    shape = eq_fits (low_bits 0 32) (low_bits width 32) (low_bits 1 32) (length a) (length b) (length (whole wire 1)) width (number_known 0) (number_known width) (number_known 1) (number_is width few) (number_is 1 (omega arith)) la lb (whole_length wire 1) some few;
    output = or_none (has_constant (whole wire 1)) (no_constant (bits_of_wire wire 1));
    within = three_within n _ _ _ h i (whole_within n wire 1 fresh);
  }

  -- the one-bit join of the bits of a signal
  abbrev pub or_of : List SigBit → Cell
  or_of a = record {
    kind_name = codes "$reduce_or";
    name = name;
    params =
        integer_param (codes "\\A_SIGNED") 0 ∷ integer_param (codes "\\A_WIDTH") (length a) ∷ integer_param (codes "\\Y_WIDTH") 1 ∷ [];
    pins = pin_of (codes "\\A") a ∷ pin_of (codes "\\Y") (whole wire 1) ∷ [];
    attributes = [];
  }

  pub or_whole : (a : List SigBit) → 0 < length a → length a ≤ 4096 → SigIn n a → IsWhole n (Word (Fold Or)) (or_of a)
  unfolding cell_kind misfit
  or_whole a some few h = record {
    own = refl;
    shape = or_fits (low_bits 0 32) (low_bits (length a) 32) (low_bits 1 32) (length a) (length (whole wire 1)) (length a) (number_known 0) (number_known (length a)) (number_known 1) (number_is (length a) few) (number_is 1 (omega arith)) refl (whole_length wire 1) some few;
    output = or_none (has_constant (whole wire 1)) (no_constant (bits_of_wire wire 1));
    within = two_within n _ _ h (whole_within n wire 1 fresh);
  }
