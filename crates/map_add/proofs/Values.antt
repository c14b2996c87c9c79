-- The bits of the nets are at least those of the values of cells.
use Rattle.std.proofs.Common.{◌≡◌, ◌≤◌, ℕ, zero, suc, ◌+◌, Bool, true, false, not, List, [], ◌∷◌, length, refl, sym, ◌∙◌, ap, subst, arith, ℤ, neg_ℤ, ◌+ℤ◌, ◌-ℤ◌}
use Rattle.std.specs.Prelude.{◌&&◌, if◌then◌else◌, int_lt, slice_index_or}
use Rattle.std.proofs.lemmas.Int.{ints}
use Rattle.std.proofs.lemmas.Bool.{and_parts}
use Rattle.cell_types.specs.declared.kind.CellKind.TheVariants.{Word}
use Rattle.cell_types.specs.declared.shape.Shape.{Shape}
use Rattle.cell_types.specs.declared.word.ArithKind.TheVariants.{Add, Sub}
use Rattle.cell_types.specs.declared.word.OrderKind.{OrderKind}
use Rattle.cell_types.specs.declared.word.OrderKind.TheVariants.{Lt, Le, Ge, Gt}
use Rattle.cell_types.specs.declared.word.UnaryKind.TheVariants.{Neg}
use Rattle.cell_types.specs.declared.word.WordKind.{WordKind}
use Rattle.cell_types.specs.declared.word.WordKind.TheVariants.{Unary, Arith, Order}
use Rattle.cell_word.specs.Arithmetic as cells
use Rattle.cell_word.specs.Arithmetic.{is_ordered}
use Rattle.cell_word.specs.Integers.{integer_bits, integer_in}
use Rattle.cell_word.specs.Values as word_values
use Rattle.cell_word.specs.Values.{both_signed}
use Rattle.cell_word.specs.Words.{extended_at, fill_of}
use Rattle.rtl_bits.proofs.Lists.{all_known_true}
use Rattle.rtl_bits.proofs.NumberLemmas.{bits_of_number_of}
use Rattle.rtl_bits.specs.Knowledge.{AreKnown, Below, IsKnown, all_known}
use Rattle.rtl_bits.specs.Numbers.{bits_of, digit_of, number_of, top_of}
use Rattle.rtl_bits.specs.Tables.{not_of}
use Rattle.rtl_bits.specs.declared.bit.Bit.{Bit}
use Rattle.rtl_bits.specs.declared.bit.Bit.TheVariants.{S0, S1, X}
use Rattle.rtl_sig.specs.declared.sig.SigBit.{SigBit}
use Rattle.rtl_sig.specs.declared.sig.SigBit.TheVariants.{Fixed}
use Rattle.gate_nets.specs.Reading.{IsReading}
use Rattle.gate_nets.proofs.Standing.{reads}
use Rattle.gate_nets.proofs.Values.{if_known, one_below}
use Rattle.gate_nets.proofs.Adding.{inverse_known, inverse_number, low-length, low_of, sums}
use Rattle.gate_nets.proofs.Nets.{Goods, carry_at, sum_bit}
use Rattle.gate_nets.proofs.Residues.{Residue, residue_bits, residue_extended, residue_less, residue_negative, residue_sum}
use Rattle.map_add.proofs.Nets.{arith_at, less_bit, order_bit, value_at, value_width}
use Rattle.map_add.specs.Expand.{is_mapped}
use Rattle.map_add.proofs.Ranks.{bit_of, less_integer}

-- the bits of an extended known word are known
going_known : (n : ℕ) (d : Bit) (bits : List Bit) → IsKnown d → AreKnown bits → AreKnown (low_of (λ at. slice_index_or bits at d) n)
going_known zero d bits h k = tt
going_known (suc n) d [] h k = (h, going_known n d [] h tt)
going_known (suc n) d (b ∷ bits) h k = (k.0, going_known n d bits h k.1)

top_known : (bits : List Bit) → AreKnown bits → IsKnown (top_of bits)
top_known [] k = tt
top_known (b ∷ []) k = k.0
top_known (b ∷ c ∷ bits) k = top_known (c ∷ bits) k.1

fill_known : (signed : Bool) (bits : List Bit) → AreKnown bits → IsKnown (fill_of signed bits)
fill_known true bits k = top_known bits k
fill_known false bits k = tt

pub extended_known : (signed : Bool) (n : ℕ) (bits : List Bit) → AreKnown bits → AreKnown (low_of (extended_at signed bits) n)
extended_known signed n bits k = going_known n (fill_of signed bits) bits (fill_known signed bits k) k

-- the bits of a sum whose number stands for an integer
sum_bits_are : (n : ℕ) (u v : ℕ → Bit) (c : Bit) (z : ℤ) → AreKnown (low_of u n) → AreKnown (low_of v n) → IsKnown c → Residue n (number_of (low_of u n) + number_of (low_of v n) + digit_of c) z
    → low_of (λ at. sum_bit (u at) (v at) (carry_at u v c at)) n ≡ integer_bits z n
sum_bits_are n u v c z j k l h =
    let s = sums n u v c j k l in
    let bits : List Bit = low_of (λ at. sum_bit (u at) (v at) (carry_at u v c at)) n in
    let own : bits_of (number_of bits) n ≡ bits = subst (λ m. bits_of (number_of bits) m ≡ bits) (low-length (λ at. sum_bit (u at) (v at) (carry_at u v c at)) n) (bits_of_number_of bits s.known) in
    sym own ∙ residue_bits n (number_of bits) z (residue_less n _ (number_of bits) (digit_of (carry_at u v c n)) z s.adds h)

module _ (n : ℕ) (signed : Bool) (a b : List Bit) (j : AreKnown a) (k : AreKnown b) where
  sum_is : low_of (arith_at Add (extended_at signed a) (extended_at signed b)) n ≡ integer_bits (integer_in signed a +ℤ integer_in signed b) n
  sum_is =
      let more : number_of (low_of (extended_at signed a) n) + number_of (low_of (extended_at signed b) n) + 0 ≡ number_of (low_of (extended_at signed a) n) + number_of (low_of (extended_at signed b) n) = omega arith in
      sum_bits_are n (extended_at signed a) (extended_at signed b) S0 _ (extended_known signed n a j) (extended_known signed n b k) tt
      (subst (λ m. Residue n m (integer_in signed a +ℤ integer_in signed b)) (sym more) (residue_sum n _ _ _ _ (residue_extended n signed a) (residue_extended n signed b)))

  difference_is : low_of (arith_at Sub (extended_at signed a) (extended_at signed b)) n ≡ integer_bits (integer_in signed a -ℤ integer_in signed b) n
  difference_is =
      let x : ℕ = number_of (low_of (extended_at signed a) n) in
      let y : ℕ = number_of (low_of (λ i. not_of (extended_at signed b i)) n) in
      let m : x + (y + 1) ≡ x + y + 1 = omega arith in
      let z : integer_in signed a +ℤ neg_ℤ (integer_in signed b) ≡ integer_in signed a -ℤ integer_in signed b = omega (arith, ints) in
      sum_bits_are n (extended_at signed a) (λ i. not_of (extended_at signed b i)) S1 _ (extended_known signed n a j) (inverse_known n (extended_at signed b) (extended_known signed n b k)) tt
      (subst (Residue n (x + y + 1)) z (subst (λ t. Residue n t (integer_in signed a +ℤ neg_ℤ (integer_in signed b))) m
      (residue_sum n x (y + 1) _ _ (residue_extended n signed a) (residue_negative n _ y _ (inverse_number n (extended_at signed b) (extended_known signed n b k)) (residue_extended n signed b)))))

  negative_is : low_of (λ at. sum_bit S0 (not_of (extended_at signed a at)) (carry_at (λ i. S0) (λ i. not_of (extended_at signed a i)) S1 at)) n ≡ integer_bits (neg_ℤ (integer_in signed a)) n
  negative_is =
      let y : ℕ = number_of (low_of (λ i. not_of (extended_at signed a i)) n) in
      let m : y + 1 ≡ number_of (low_of (λ i. S0) n) + y + 1 = omega (arith, zeros n) in
      sum_bits_are n (λ i. S0) (λ i. not_of (extended_at signed a i)) S1 _ (zeros_known n) (inverse_known n (extended_at signed a) (extended_known signed n a j)) tt
      (subst (λ t. Residue n t (neg_ℤ (integer_in signed a))) m (residue_negative n _ y _ (inverse_number n (extended_at signed a) (extended_known signed n a j)) (residue_extended n signed a)))
    where
      zeros : (n : ℕ) → number_of (low_of (λ i. S0) n) ≡ 0
      zeros zero = refl
      zeros (suc n) = omega (arith, zeros n)

      zeros_known : (n : ℕ) → AreKnown (low_of (λ i. S0) n)
      zeros_known zero = tt
      zeros_known (suc n) = (tt, zeros_known n)

bit_if : (t : Bool) → bit_of t ≡ (if t then S1 else S0)
bit_if true = refl
bit_if false = refl

not_if : (t : Bool) → not_of (bit_of t) ≡ (if not t then S1 else S0)
not_if true = refl
not_if false = refl

-- the bit of an order of known operands
order_is : (kind : OrderKind) (signed : Bool) (n : ℕ) (a b : List Bit) → length a ≤ n → length b ≤ n → AreKnown a → AreKnown b
    → order_bit kind signed n (extended_at signed a) (extended_at signed b) ≡ (if is_ordered kind (integer_in signed a) (integer_in signed b) then S1 else S0)
order_is kind signed n a b d e j k =
    by kind (less_integer signed n a b d e (extended_known signed n a j) (extended_known signed n b k)) (less_integer signed n b a e d (extended_known signed n b k) (extended_known signed n a j))
  where
    by : (kind : OrderKind) → less_bit signed n (extended_at signed a) (extended_at signed b) ≡ bit_of (int_lt (integer_in signed a) (integer_in signed b))
        → less_bit signed n (extended_at signed b) (extended_at signed a) ≡ bit_of (int_lt (integer_in signed b) (integer_in signed a))
        → order_bit kind signed n (extended_at signed a) (extended_at signed b) ≡ (if is_ordered kind (integer_in signed a) (integer_in signed b) then S1 else S0)
    by Lt x y = x ∙ bit_if (int_lt (integer_in signed a) (integer_in signed b))
    by Le x y = ap not_of y ∙ not_if (int_lt (integer_in signed b) (integer_in signed a))
    by Ge x y = ap not_of x ∙ not_if (int_lt (integer_in signed a) (integer_in signed b))
    by Gt x y = y ∙ bit_if (int_lt (integer_in signed b) (integer_in signed a))

module _ (f : SigBit → Bit) (is : IsReading f) where
  order_below : (t : Bool) (b c : Bit) → (t ≡ true → c ≡ b) → (z : Bit) → Below c z → Below (if t then b else X) z
  order_below true b c same z h = subst (λ k. Below k z) (same refl) h
  order_below false b c same z h = tt

  -- the bits of the value of a cell
  pub value_below : (kind : WordKind) (shape : Shape) (n : ℕ) (a b s : List Bit) (bits : List SigBit) → is_mapped (Word kind) ≡ true → length a ≤ n → length b ≤ n
      → Goods (reads f is) (value_at (Word kind) shape n a b) bits → length bits ≡ value_width (Word kind) shape
      → (at : ℕ) → Below (slice_index_or (word_values.value_of kind shape a b s) at X) (f (slice_index_or bits at (Fixed S0)))
  value_below (Unary Neg) shape n a b s bits m d e h w =
      if_known f is (all_known a) (integer_bits (neg_ℤ (integer_in shape.signs.a a)) shape.widths.y) shape.widths.y _ bits h w
      (λ t. negative_is shape.widths.y shape.signs.a a a (all_known_true a t) (all_known_true a t))
  value_below (Arith Add) shape n a b s bits m d e h w =
      if_known f is (all_known a && all_known b) _ shape.widths.y _ bits h w
      (λ t. let p = and_parts (all_known a) (all_known b) t in sum_is shape.widths.y (both_signed shape) a b (all_known_true a p.0) (all_known_true b p.1))
  value_below (Arith Sub) shape n a b s bits m d e h w =
      if_known f is (all_known a && all_known b) _ shape.widths.y _ bits h w
      (λ t. let p = and_parts (all_known a) (all_known b) t in difference_is shape.widths.y (both_signed shape) a b (all_known_true a p.0) (all_known_true b p.1))
  value_below (Order kind) shape n a b s bits m d e h w =
      one_below f is (cells.order_of kind (both_signed shape) a b) shape.widths.y _ bits h w
      (order_below (all_known a && all_known b) _ (order_bit kind (both_signed shape) n (extended_at (both_signed shape) a) (extended_at (both_signed shape) b))
      (λ t. let p = and_parts (all_known a) (all_known b) t in order_is kind (both_signed shape) n a b d e (all_known_true a p.0) (all_known_true b p.1)))
  value_below kind shape n a b s bits m d e h w = absurd (cc)
