-- Marks of bits.
use Rattle.std.proofs.Common.{◌≡◌, Bool, true, false, List, [], ◌∷◌, ◌++◌, length, drop, get_or, cond, None, Some, refl, sym, ◌∙◌, ap, arith, ◌<◌, ℕ, suc, ◌+◌, map}
use Rattle.std.specs.Prelude.{◌||◌, ◌&&◌, ◌==◌}
use Rattle.std.proofs.Math.Seq.{drop-cons}
use Rattle.std.proofs.lemmas.Bool.Decides.{nat_tests}
use Rattle.rtl_sig.specs.declared.sig.SigBit.{SigBit}
use Rattle.rtl_sig.specs.declared.sig.SigBit.TheVariants.{Fixed, Wire as OnWire}
use Rattle.rtl_sig.specs.declared.sig.WireBit.{WireBit}
use Rattle.rtl_ir.specs.Signals.{has_bit, same_bit, wire_bits}
use Rattle.net_index.specs.declared.index_table.BitTable.{BitTable}
use Rattle.net_index.specs.IndexTable.{at_bit}
use Rattle.net_model.specs.Fsm.Find.{meets_any}
use Rattle.fsm_find.specs.Readers.{AreMarks}

equal_swap : (a b : ℕ) → (a == b) ≡ (b == a)
equal_swap a b = grind (arith, nat_tests)

same_swap : (a b : WireBit) → same_bit a b ≡ same_bit b a
same_swap a b = λ i. equal_swap a.wire b.wire i && equal_swap a.at b.at i

has_more : (bits : List WireBit) (bit b : WireBit) → has_bit (bits ++ bit ∷ []) b ≡ (has_bit bits b || same_bit b bit)
has_more [] bit b = by (same_bit b bit)
  where
    by : (t : Bool) → (t || false) ≡ t
    by true = refl
    by false = refl
has_more (x ∷ bits) bit b = ap (λ t. same_bit b x || t) (has_more bits bit b) ∙ by (same_bit b x) (has_bit bits b) (same_bit b bit)
  where
    by : (t u v : Bool) → (t || (u || v)) ≡ ((t || u) || v)
    by true u v = refl
    by false u v = refl

-- a bit more is marked
pub mark_more : (old new : BitTable Bool) (bit : WireBit) → ((b : WireBit) → at_bit new b ≡ cond (same_bit bit b) (Some true) (at_bit old b)) → (bits : List WireBit) → AreMarks old bits → AreMarks new (bits ++ bit ∷ [])
mark_more old new bit put bits are b =
    put b ∙ ap (λ o. cond (same_bit bit b) (Some true) o) (are b) ∙ by (has_bit bits b) (same_bit bit b) ∙ ap (λ t. cond t (Some true) None) (ap (λ t. has_bit bits b || t) (same_swap bit b) ∙ sym (has_more bits bit b))
  where
    by : (h s : Bool) → cond s (Some true) (cond h (Some true) None) ≡ cond (h || s) (Some true) None
    by true true = refl
    by true false = refl
    by false true = refl
    by false false = refl

-- the bits of a signal, the first and the others
pub bits_split : (s : SigBit) (rest : List SigBit) → wire_bits (s ∷ rest) ≡ wire_bits (s ∷ []) ++ wire_bits rest
bits_split (Fixed b) rest = refl
bits_split (OnWire b) rest = refl

pub meets_split : (s : SigBit) (rest : List SigBit) (bits : List WireBit) → meets_any (wire_bits (s ∷ rest)) bits ≡ (meets_any (wire_bits (s ∷ [])) bits || meets_any (wire_bits rest) bits)
meets_split (Fixed b) rest bits = refl
meets_split (OnWire b) rest bits = by (has_bit bits b) (meets_any (wire_bits rest) bits)
  where
    by : (t u : Bool) → (t || u) ≡ ((t || false) || u)
    by true u = refl
    by false u = refl

-- what is left of a signal begins with a bit
pub bits_next : (signal : List SigBit) (at : ℕ) (s : SigBit) → at < length signal → s ≡ get_or signal at s → wire_bits (drop at signal) ≡ wire_bits (s ∷ []) ++ wire_bits (drop (at + 1) signal)
bits_next signal at s h e =
    let one : at + 1 ≡ suc at = omega arith in
    ap wire_bits (drop-cons signal at s h ∙ (λ i. sym e i ∷ drop (sym one i) signal)) ∙ bits_split s (drop (at + 1) signal)

pub meets_next : (f : SigBit → SigBit) (signal : List SigBit) (at : ℕ) (s : SigBit) → at < length signal → s ≡ get_or signal at s → (bits : List WireBit)
    → meets_any (wire_bits (map f (drop at signal))) bits ≡ (meets_any (wire_bits (f s ∷ [])) bits || meets_any (wire_bits (map f (drop (at + 1) signal))) bits)
meets_next f signal at s h e bits =
    let one : at + 1 ≡ suc at = omega arith in
    ap (λ d. meets_any (wire_bits (map f d)) bits) (drop-cons signal at s h ∙ (λ i. sym e i ∷ drop (sym one i) signal)) ∙ meets_split (f s) (map f (drop (at + 1) signal)) bits

pub meets_step : (f : SigBit → SigBit) (signal : List SigBit) (at : ℕ) (s end : SigBit) (t : Bool) → at < length signal → s ≡ get_or signal at s → (bits : List WireBit) → end ≡ f s → t ≡ meets_any (wire_bits (end ∷ [])) bits
    → meets_any (wire_bits (map f (drop at signal))) bits ≡ (t || meets_any (wire_bits (map f (drop (at + 1) signal))) bits)
meets_step f signal at s end t h e bits is marked =
    meets_next f signal at s h e bits ∙ ap (λ u. u || meets_any (wire_bits (map f (drop (at + 1) signal))) bits) (sym (marked ∙ ap (λ q. meets_any (wire_bits (q ∷ [])) bits) is))

-- bits are marked, and with those that are left they are all
pub record Marked (left all : List WireBit) (marks : (done : List WireBit) → Type 0) : Type 0 where
  pub done : List WireBit
  pub all_are : done ++ left ≡ all
  pub are : marks done
