-- Write ports on a bit of a word: what they make of it is below the chain without masks, and an address is compared bit by
-- bit.
use Rattle.std.proofs.Common.{◌≡◌, ◌<◌, ◌≤◌, ℕ, zero, suc, ◌*◌, ◌/◌, ◌^◌, Bool, true, false, List, [], ◌∷◌, ◌++◌, length, if◌then◌else◌, refl, sym, ◌∙◌, ap, subst, arith}
use Rattle.std.specs.Prelude.{◌==◌, map}
use Rattle.std.proofs.Math.Nat.{pow-succ'}
use Rattle.rtl_bits.proofs.Orders.{Below_refl}
use Rattle.rtl_bits.proofs.Tables.{and_of_mono, mux_of_mono}
use Rattle.rtl_bits.specs.Knowledge.{Below}
use Rattle.rtl_bits.specs.Numbers.{bits_of, low_bit_of}
use Rattle.rtl_bits.specs.Tables.{and_of}
use Rattle.rtl_bits.specs.declared.bit.Bit.{Bit}
use Rattle.rtl_bits.specs.declared.bit.Bit.TheVariants.{S0, S1, X, Z, M, Dash}
use Rattle.rtl_sig.specs.declared.sig.SigBit.{SigBit}
use Rattle.rtl_sig.specs.declared.sig.SigBit.TheVariants.{Fixed}
use Rattle.rtl_ir.specs.Flat.Access.{Access}
use Rattle.rtl_ir.specs.Flat.Memory.{may_follow, port_points}
use Rattle.rtl_ir.specs.Flat.Place.{Path}
use Rattle.rtl_ir.specs.declared.wire.Wire.{Wire}
use Rattle.net_model.specs.Mem.Gather.{write_port}
use Rattle.net_model.specs.Picked.{equal_of}
use Rattle.net_model.specs.Valuation.{Valuation}
use Rattle.net_model.specs.Words.{address_is, after_ports, followed_by}
use Rattle.memory_laws.proofs.Chain.{chained, has_at, port_hit}
use Rattle.build_laws.proofs.CellValues.{pair_match}
use Rattle.build_laws.proofs.Moments.{Moment, seen_all}
use Rattle.build_laws.proofs.Orders.{all_right}

-- the data of a port where it may follow are no more than its data
followed_low : (fs : List Bool) (hits : List Bit) (new : Bit) → Below (followed_by fs hits new) new
followed_low fs [] new = Below_refl new
followed_low [] (S0 ∷ hits) new = followed_low [] hits new
followed_low (f ∷ fs) (S0 ∷ hits) new = followed_low fs hits new
followed_low [] (hit ∷ hits) new = tt
followed_low (true ∷ fs) (hit ∷ hits) new = followed_low fs hits new
followed_low (false ∷ fs) (hit ∷ hits) new = tt

module _ (p : Path) (wires : List Wire) (w : Valuation) (address k : ℕ) where
  -- what ports make of a bit is below the chain
  pub ports_chained : (hits : List Bit) (before accesses : List Access) (old new : Bit) → Below old new
      → Below (after_ports w address hits (port_points p wires k before accesses) old) (chained p wires w address k (map write_port accesses) new)
  ports_chained hits before [] old new h = h
  ports_chained hits before (a ∷ accesses) old new h =
      let hit : Bit = port_hit p wires w address k (write_port a) in
      ports_chained (hits ++ hit ∷ []) (before ++ a ∷ []) accesses _ _
      (mux_of_mono old new _ _ hit hit h (followed_low (map (may_follow a.mask) before) hits (has_at p wires w a.new k)) (Below_refl hit))

-- the places of an address with the bits of a number
abbrev pub address_pairs : List SigBit → ℕ → List (SigBit × SigBit)
address_pairs [] number = []
address_pairs (s ∷ address) number = (Fixed (low_bit_of number), s) ∷ address_pairs address (number / 2)

pub pairs_address : (address : List SigBit) (number : ℕ) → map (λ (q : SigBit × SigBit). q.1) (address_pairs address number) ≡ address
pairs_address [] number = refl
pairs_address (s ∷ address) number = ap (λ z. s ∷ z) (pairs_address address (number / 2))

pub pairs_number : (address : List SigBit) (number : ℕ) → map (λ (q : SigBit × SigBit). q.0) (address_pairs address number) ≡ map Fixed (bits_of number (length address))
pairs_number [] number = refl
pairs_number (s ∷ address) number = ap (λ z. Fixed (low_bit_of number) ∷ z) (pairs_number address (number / 2))

pub pairs_long : (address : List SigBit) (number : ℕ) → length (address_pairs address number) ≡ length address
pairs_long [] number = refl
pairs_long (s ∷ address) number = ap suc (pairs_long address (number / 2))

none_left : (number : ℕ) → number < 1 → (if number == 0 then S1 else S0) ≡ S1
none_left zero h = refl
none_left (suc n) h = absurd (omega (arith, h))

some_left : (number : ℕ) → 1 ≤ number → (if number == 0 then S1 else S0) ≡ S0
some_left zero h = absurd (omega (arith, h))
some_left (suc n) h =
    let other : (suc n == 0) ≡ false = grind arith in
    ap (λ t. if t then S1 else S0) other

power_next : (n : ℕ) → 2 ^ suc n ≡ 2 * 2 ^ n
power_next n = pow-succ' 2 n

-- a number that fits
pub address_folds : (m : Moment) (address : List SigBit) (number : ℕ) → number < 2 ^ length address → Below (address_is (seen_all m address) number) (all_right (map (pair_match m) (address_pairs address number)))
address_folds m [] number h = subst (λ z. Below z S1) (sym (none_left number h)) refl
address_folds m (s ∷ address) number h =
    let power : 2 ^ suc (length address) ≡ 2 * 2 ^ length address = power_next (length address) in
    let half : number / 2 < 2 ^ length address = omega (arith, h, power) in
    and_of_mono _ _ _ _ (Below_refl _) (address_folds m address (number / 2) half)

pub zero_and : (b : Bit) → and_of b S0 ≡ S0
zero_and S0 = refl
zero_and S1 = refl
zero_and X = refl
zero_and Z = refl
zero_and M = refl
zero_and Dash = refl

-- a number that does not fit
pub address_misses : (bits : List Bit) (number : ℕ) → 2 ^ length bits ≤ number → address_is bits number ≡ S0
address_misses [] number h = some_left number h
address_misses (b ∷ bits) number h =
    let power : 2 ^ suc (length bits) ≡ 2 * 2 ^ length bits = power_next (length bits) in
    let half : 2 ^ length bits ≤ number / 2 = omega (arith, h, power) in
    ap (and_of (equal_of b (low_bit_of number))) (address_misses bits (number / 2) half) ∙ zero_and _
