-- The operands of cells as words.
use Rattle.std.proofs.Common.{◌≡◌, ◌≤◌, ℕ, zero, suc, ◌-◌, ◌*◌, ◌/◌, ◌^◌, Bool, true, false, List, [], ◌∷◌, length, refl, sym, ◌∙◌, ap, subst, arith, length-append, pos, ◌+ℤ◌}
use Rattle.std.proofs.lemmas.Int.{ints}
use Rattle.cell_word.specs.Integers.{integer_in}
use Rattle.gate_nets.proofs.Extended.{exact_number, last_bit}
use Rattle.gate_nets.proofs.Operands.{fill_has, goods_filled}
use Rattle.gate_nets.proofs.Residues.{going_integer}
use Rattle.gate_divide.proofs.Dividing.{IsOperand}
use Rattle.std.proofs.lemmas.List.{length-replicate, length-take}
use Rattle.std.specs.Prelude.{map, replicate, slice_index_or, take}
use Rattle.cell_word.specs.Words as words
use Rattle.cell_word.specs.Words.{extended_at}
use Rattle.rtl_bits.specs.Knowledge.{AreKnown, IsKnown}
use Rattle.rtl_bits.specs.Numbers.{digit_of, number_of, top_of}
use Rattle.rtl_bits.specs.declared.bit.Bit.{Bit}
use Rattle.rtl_bits.specs.declared.bit.Bit.TheVariants.{S0}
use Rattle.rtl_sig.specs.Signal.{extended, fill_of}
use Rattle.rtl_sig.specs.declared.sig.SigBit.{SigBit}
use Rattle.net_model.specs.Lists.{In}
use Rattle.gate_nets.proofs.Adding.{low_of}
use Rattle.gate_nets.proofs.Nets.{Logic}
use Rattle.gate_divide.proofs.Numbers.{Word, low_small, top_at, top_number}
use Rattle.gate_divide.proofs.Signals.{Reads}

-- the bits of an extended known word are known
going_known : (n : ℕ) (d : Bit) (bits : List Bit) → IsKnown d → AreKnown bits → AreKnown (low_of (λ at. slice_index_or bits at d) n)
going_known zero d bits h k = tt
going_known (suc n) d [] h k = (h, going_known n d [] h tt)
going_known (suc n) d (b ∷ bits) h k = (k.0, going_known n d bits h k.1)

top_known : (bits : List Bit) → AreKnown bits → IsKnown (top_of bits)
top_known [] k = tt
top_known (b ∷ []) k = k.0
top_known (b ∷ c ∷ bits) k = top_known (c ∷ bits) k.1

fill_known : (signed : Bool) (bits : List Bit) → AreKnown bits → IsKnown (words.fill_of signed bits)
fill_known true bits k = top_known bits k
fill_known false bits k = tt

pub extended_known : (signed : Bool) (n : ℕ) (bits : List Bit) → AreKnown bits → AreKnown (low_of (extended_at signed bits) n)
extended_known signed n bits k = going_known n (words.fill_of signed bits) bits (fill_known signed bits k) k

-- an operand as a word
unfoldable pub operand : (K : Type 0) (signed : Bool) (n : ℕ) (bits : List Bit) → (K → AreKnown bits) → Word K n (number_of (low_of (extended_at signed bits) n))
operand K signed n bits h = record {
  value = extended_at signed bits;
  known = λ k. extended_known signed n bits (h k);
  is = λ k. refl;
}

pub length_extended : (bits : List SigBit) (n : ℕ) (signed : Bool) → length (extended bits n signed) ≡ n
length_extended bits n signed =
    omega (arith, length-append (take n bits) (replicate (n - length bits) (fill_of bits signed)), length-take n bits, length-replicate (n - length bits) (fill_of bits signed))

module _ (l : Logic) where
  -- an operand at a width has the bits of the extended word
  pub reads_operand : (K : Type 0) (g : SigBit → Bit) (signed : Bool) (n : ℕ) (bits : List SigBit) (h : K → AreKnown (map g bits)) → ((x : SigBit) → In x bits → l.Has (g x) x)
      → Reads l K n _ (operand K signed n (map g bits) h) (extended bits n signed)
  unfolding operand
  reads_operand K g signed n bits h k = record {
    has = goods_filled l g (words.fill_of signed (map g bits)) (fill_of bits signed) (fill_has l g signed bits k) n bits k;
    width = length_extended bits n signed;
  }

top_is : (n : ℕ) (bits : List Bit) → length bits ≤ n → top_at n (extended_at true bits) ≡ top_of bits
top_is zero [] h = refl
top_is zero (b ∷ bits) h = absurd (omega arith)
top_is (suc k) bits h = last_bit bits k h

-- the number of an operand at a width that it fits stands for its integer
pub operand_is : (signed : Bool) (n : ℕ) (bits : List Bit) → length bits ≤ n → IsOperand signed n (number_of (low_of (extended_at signed bits) n)) (integer_in signed bits)
operand_is false n bits h = omega (arith, ints, exact_number n S0 bits h, going_integer false bits)
operand_is true n bits h =
    let v : ℕ → Bit = extended_at true bits in
    let d : digit_of (top_of bits) ≡ (2 * number_of (low_of v n)) / 2 ^ n = ap digit_of (sym (top_is n bits h)) ∙ top_number n v in
    record {
      is =
          subst (λ t. pos (number_of (low_of v n)) ≡ integer_in true bits +ℤ pos (t * 2 ^ n)) d
          (omega (arith, ints, exact_number n (top_of bits) bits h, going_integer true bits));
      small = low_small v n;
    }
