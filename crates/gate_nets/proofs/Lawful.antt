-- What nets compute, in each reading of the bits that obeys their gates.
use Rattle.std.proofs.Common.{◌≡◌, ℕ, suc, ◌+◌, ◌*◌, ◌^◌, List, [], ◌∷◌, length, refl, sym, ◌∙◌, ap, subst}
use Rattle.std.specs.Prelude.{map, slice_index_or}
use Rattle.std.specs.List.{fold}
use Rattle.cell_types.specs.declared.word.BitwiseKind.{BitwiseKind}
use Rattle.rtl_bits.proofs.Lists.{AreBelow_known}
use Rattle.rtl_bits.proofs.Orders.{Below_known, Below_refl, Below_trans}
use Rattle.rtl_bits.specs.Knowledge.{AreBelow, AreKnown, Below, IsKnown}
use Rattle.rtl_bits.specs.Numbers.{digit_of, number_of}
use Rattle.rtl_bits.specs.Tables.{not_of}
use Rattle.rtl_bits.specs.declared.bit.Bit.{Bit}
use Rattle.rtl_bits.specs.declared.bit.Bit.TheVariants.{X}
use Rattle.rtl_ir.specs.Build.{Build, Building}
use Rattle.rtl_sig.specs.declared.sig.SigBit.{SigBit}
use Rattle.gate_nets.specs.Reading.{Computes, IsReading, Obeys}
use Rattle.gate_nets.specs.Sum.{sum_of}
use Rattle.gate_nets.specs.Words.{fold_of, inverse_of}
use Rattle.gate_nets.specs.declared.gate.Gate.{Gate}
use Rattle.gate_nets.proofs.Adding.{low_of, sums}
use Rattle.gate_nets.proofs.Folds.{join_below, joined}
use Rattle.gate_nets.proofs.Nets.{Fair, Goods, Net, carry_at, joined_at, net_fold, net_inverse, net_sum, neutral_bit, sum_bit}
use Rattle.gate_nets.proofs.Operands.{length_map}
use Rattle.gate_nets.proofs.Standing.{reads}

module _ (f : SigBit → Bit) (is : IsReading f) where
  fair : (at : ℕ) (gates : List Gate) → Obeys f at gates → Fair (reads f is) at gates
  fair at [] h = tt
  fair at (g ∷ gates) h = (h.0, fair (at + 1) gates h.1)

  -- what a net has is what it computes
  computes : {A : Type 0} {m : Build A} {W : A → Type 0} {F : Type 0} → Net (reads f is) (Unit {0}) m W → (old : Building) → (W (m old).0 → F) → Computes f old (m old) F
  computes n old h = record {
    gates = n.gates old;
    is = n.is old;
    holds = λ o. h (n.holds old tt (fair (length old.body.wires) (n.gates old) o)).1;
  }

  -- the bits of a signal, as they are read
  abbrev at_of : List SigBit → ℕ → Bit
  at_of bits at = slice_index_or (map f bits) at X

  own_bits : (bits : List SigBit) → Goods (reads f is) (at_of bits) bits
  own_bits [] = tt
  own_bits (b ∷ bits) = (Below_refl (f b), own_bits bits)

  own_low : (bits : List SigBit) → low_of (at_of bits) (length bits) ≡ map f bits
  own_low [] = refl
  own_low (b ∷ bits) = ap (λ z. f b ∷ z) (own_low bits)

  read_below : (v : ℕ → Bit) (ys : List SigBit) → Goods (reads f is) v ys → AreBelow (low_of v (length ys)) (map f ys)
  read_below v [] h = tt
  read_below v (y ∷ ys) h = (h.0, read_below (λ i. v (suc i)) ys h.1)

  pub fold_computes : (kind : BitwiseKind) (bits : List SigBit) (old : Building) → Computes f old (fold_of kind bits old) (Below (fold (joined kind) (neutral_bit kind) (map f bits)) (f (fold_of kind bits old).0))
  fold_computes kind bits old =
      let value : Bit = fold (joined kind) (neutral_bit kind) (map f bits) in
      let below : Below value (joined_at kind (at_of bits) (length bits)) = subst (λ n. Below value (joined_at kind (at_of bits) n)) (length_map f bits) (join_below kind (map f bits)) in
      computes (net_fold (reads f is) kind (at_of bits) bits (λ r. own_bits bits)) old (Below_trans value _ _ below)

  inverse_low : (bits : List SigBit) → low_of (λ at. not_of (at_of bits at)) (length bits) ≡ map not_of (map f bits)
  inverse_low [] = refl
  inverse_low (b ∷ bits) = ap (λ z. not_of (f b) ∷ z) (inverse_low bits)

  pub inverse_computes : (bits : List SigBit) (old : Building) → Computes f old (inverse_of bits old) (AreBelow (map not_of (map f bits)) (map f (inverse_of bits old).0))
  inverse_computes bits old =
      computes (net_inverse (reads f is) (at_of bits) bits (λ r. own_bits bits)) old
      (λ w. subst (λ z. AreBelow z (map f (inverse_of bits old).0)) (ap (low_of (λ at. not_of (at_of bits at))) w.1 ∙ inverse_low bits) (read_below (λ at. not_of (at_of bits at)) (inverse_of bits old).0 w.0))

  pub sum_computes : (a b : List SigBit) (c : SigBit) (old : Building) → length a ≡ length b → AreKnown (map f a) → AreKnown (map f b) → IsKnown (f c)
      → Computes f old (sum_of a b c old)
      (number_of (map f (sum_of a b c old).0.bits) + 2 ^ length a * digit_of (f (sum_of a b c old).0.carry) ≡ number_of (map f a) + number_of (map f b) + digit_of (f c))
  sum_computes a b c old e j k l =
      computes (net_sum (reads f is) (at_of a) (at_of b) (f c) a b c (λ r. own_bits a) (λ r. own_bits b) (λ r. Below_refl (f c)) (λ r. e)) old
      (λ w.
      let n : ℕ = length a in
      let bits : List SigBit = (sum_of a b c old).0.bits in
      let v : ℕ → Bit = λ at. sum_bit (at_of a at) (at_of b at) (carry_at (at_of a) (at_of b) (f c) at) in
      let one : low_of (at_of a) n ≡ map f a = own_low a in
      let two : low_of (at_of b) n ≡ map f b = ap (low_of (at_of b)) e ∙ own_low b in
      let s = sums n (at_of a) (at_of b) (f c) (subst AreKnown (sym one) j) (subst AreKnown (sym two) k) l in
      let same : map f bits ≡ low_of v n = AreBelow_known (low_of v n) (map f bits) s.known (subst (λ m. AreBelow (low_of v m) (map f bits)) w.2 (read_below v bits w.0)) in
      let carry : f (sum_of a b c old).0.carry ≡ carry_at (at_of a) (at_of b) (f c) n = Below_known (carry_at (at_of a) (at_of b) (f c) n) _ s.carry w.1 in
      ap (λ z. number_of z + 2 ^ n * digit_of (f (sum_of a b c old).0.carry)) same
      ∙ ap (λ z. number_of (low_of v n) + 2 ^ n * digit_of z) carry
      ∙ s.adds
      ∙ ap (λ z. number_of z + number_of (low_of (at_of b) n) + digit_of (f c)) one
      ∙ ap (λ z. number_of (map f a) + number_of z + digit_of (f c)) two)
