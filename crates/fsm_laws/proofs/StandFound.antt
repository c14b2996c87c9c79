-- What stands for a signal of the tree of a machine that is found: for a leaf, and for the output of a cell.
use Rattle.std.proofs.Common.{◌≡◌, ◌<◌, arith, length, ℕ, zero, suc, true, false, List, [], ◌∷◌, map, Some, sym, ap}
use Rattle.std.specs.Prelude.{slice_get, slice_index_or}
use Rattle.std.specs.List.{list_any}
use Rattle.std.proofs.lemmas.Bool.{or_parts}
use Rattle.rtl_bits.specs.Knowledge.{IsKnown, is_known}
use Rattle.rtl_bits.specs.declared.bit.Bit.{Bit}
use Rattle.rtl_bits.specs.declared.bit.Bit.TheVariants.{S0, S1, X}
use Rattle.rtl_sig.specs.declared.sig.SigBit.{SigBit}
use Rattle.rtl_sig.specs.declared.sig.SigBit.TheVariants.{Fixed, Wire as OnWire}
use Rattle.rtl_sig.specs.declared.sig.WireBit.{WireBit}
use Rattle.rtl_ir.specs.Signals.{has_constant, is_all_constant, constant_of}

-- the bits of constants
pub constant_at : (signal : List SigBit) (k : ℕ) (s : SigBit) → is_all_constant signal ≡ true → slice_get signal k ≡ Some s → s ≡ Fixed (slice_index_or (map constant_of signal) k X)
constant_at [] k s e f = absurd (cc)
constant_at (Fixed c ∷ signal) zero s e f = let same : Fixed c ≡ s = cc in sym same
constant_at (Fixed c ∷ signal) (suc k) s e f = constant_at signal k s e f
constant_at (OnWire b ∷ signal) k s e f = absurd (cc)

not_known : (b : Bit) → is_known b ≡ false → IsKnown b → ⊥
not_known S0 e h = cc
not_known S1 e h = cc
not_known b e h = h

-- of those that are not known
pub unknown_at : (signal : List SigBit) (k : ℕ) (s : SigBit) → is_all_constant signal ≡ true → list_any (λ s. is_known (constant_of s)) signal ≡ false → slice_get signal k ≡ Some s → (b : Bit) × ((IsKnown b → ⊥) × (s ≡ Fixed b))
unknown_at [] k s e f g = absurd (cc)
unknown_at (Fixed c ∷ signal) zero s e f g =
    let same : Fixed c ≡ s = cc in
    (c, (not_known c (or_parts (is_known c) (list_any (λ s. is_known (constant_of s)) signal) f).0, sym same))
unknown_at (Fixed c ∷ signal) (suc k) s e f g =
    unknown_at signal k s e (or_parts (is_known c) (list_any (λ s. is_known (constant_of s)) signal) f).1 g
unknown_at (OnWire b ∷ signal) k s e f g = absurd (cc)

-- of those that are no constants
pub wire_at : (signal : List SigBit) (k : ℕ) (s : SigBit) → has_constant signal ≡ false → slice_get signal k ≡ Some s → (q : WireBit) × (s ≡ OnWire q)
wire_at [] k s e f = absurd (cc)
wire_at (Fixed c ∷ signal) k s e f = absurd (cc)
wire_at (OnWire b ∷ signal) zero s e f = let same : OnWire b ≡ s = cc in (b, sym same)
wire_at (OnWire b ∷ signal) (suc k) s e f = wire_at signal k s e f

pub mapped_at : {A B : Type 0} (f : A → B) (xs : List A) (k : ℕ) (x : A) → slice_get xs k ≡ Some x → slice_get (map f xs) k ≡ Some (f x)
mapped_at f [] k x e = absurd (cc)
mapped_at f (y ∷ xs) zero x e = let same : y ≡ x = cc in ap (λ z. Some (f z)) same
mapped_at f (y ∷ xs) (suc k) x e = mapped_at f xs k x e

pub got_below : {A : Type 0} (xs : List A) (k : ℕ) (x : A) → slice_get xs k ≡ Some x → k < length xs
got_below [] k x e = absurd (cc)
got_below (y ∷ xs) zero x e = omega arith
got_below (y ∷ xs) (suc k) x e = let later = got_below xs k x e in omega (arith, later)
