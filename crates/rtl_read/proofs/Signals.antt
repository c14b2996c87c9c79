-- Laws of the bits of wires.
use Rattle.std.proofs.Common.{◌≡◌, ℕ, zero, suc, ◌+◌, ◌<◌, ◌≤◌, List, [], ◌∷◌, ◌++◌, length, get_or, refl, arith, add-one}
use Rattle.rtl_sig.specs.declared.sig.SigBit.TheVariants as bits
use Rattle.rtl_ir.specs.declared.wire.Wire.{Wire}
use Rattle.rtl_read.specs.Signal.{wire_bits, width_at}

pub wire_bits_more : (wire n : ℕ) → wire_bits wire (n + 1) ≡ wire_bits wire n ++ bits.Wire (record { wire = wire; at = n }) ∷ []
unfolding wire_bits
wire_bits_more wire n = rw add-one refl

pub wire_bits_none : (wire : ℕ) → wire_bits wire 0 ≡ []
unfolding wire_bits
wire_bits_none wire = refl

pub width_is : (ws : List Wire) (k : ℕ) (d : Wire) → k < length ws → width_at ws k ≡ (get_or ws k d).width
width_is [] k d lt = absurd (omega arith)
width_is (w ∷ ws) zero d lt = refl
width_is (w ∷ ws) (suc k) d lt = width_is ws k d (omega arith)

pub width_none : (ws : List Wire) (k : ℕ) → length ws ≤ k → width_at ws k ≡ 0
width_none [] k le = refl
width_none (w ∷ ws) zero le = absurd (omega arith)
width_none (w ∷ ws) (suc k) le = width_none ws k (omega arith)
