-- Quotients and remainders by their kind: the nets give words that stand for the integers.
use Rattle.std.proofs.Common.{◌≡◌, ◌<◌, ℕ, ◌/◌, ◌%◌, Bool, true, false, not, List, refl, sym, ◌∙◌, ap, subst, ℤ, pos, ◌+ℤ◌, ◌-ℤ◌}
use Rattle.std.specs.Prelude.{◌==◌, ◌&&◌, if◌then◌else◌, int_div, int_rem, unsigned_abs}
use Rattle.cell_types.specs.declared.word.DivisionKind.{DivisionKind}
use Rattle.cell_types.specs.declared.word.DivisionKind.TheVariants.{Div, Mod, DivFloor, ModFloor}
use Rattle.cell_word.proofs.Signs.{quotient_of_signs, remainder_of_signs, rounds_up_by_signs, size_of_signed}
use Rattle.cell_word.specs.Arithmetic.{floor_div, floor_rem, quotient_of, rounds_up}
use Rattle.cell_word.specs.Sizes.{signed_of}
use Rattle.rtl_sig.specs.declared.sig.SigBit.{SigBit}
use Rattle.gate_nets.proofs.Nets.{Logic, Net, net_pure, net_then}
use Rattle.gate_nets.proofs.Residues.{Residue, residue_number}
use Rattle.gate_divide.specs.Kinds.{divide_of, rounded_of, signed_of as signed_net, unsigned_of}
use Rattle.gate_divide.specs.declared.division.Division.{Division}
use Rattle.gate_divide.proofs.Divisions.{Divided, divided_word, net_divided}
use Rattle.gate_divide.proofs.Numbers.{Word, picked, top, word_as}
use Rattle.gate_divide.proofs.Rounded.{IsTwos, floor_quotient_is, floor_remainder_is, has_size, negative, remainder_is, residue_twos, sign_digit, truncated_is}
use Rattle.gate_divide.proofs.Signals.{Reads, reads_as}
use Rattle.gate_divide.proofs.Signed.{differ_digit, differing, left_word, lowered_number, lowered_word, magnitude_word, net_floor_quotient, net_floor_remainder, net_magnitude, net_remainder, net_truncated, raised_number, raised_word, rounded_digit, rounding, sign, where_number, where_word, whole_word}

-- a number of a width stands for an integer, in two's complement where it is signed
abbrev pub IsOperand : Bool → ℕ → ℕ → ℤ → Type 0
IsOperand true n m z = IsTwos n m z
IsOperand false n m z = z ≡ pos m

-- what the parts of a signed division stand for, by the signs and the sizes
pub record Rounds (n s t p q b : ℕ) (z y : ℤ) : Type 0 where
  pub quotient : Residue n (picked (differing s t) (p / q) (negative n (p / q))) (int_div z y)
  pub remainder : Residue n (picked s (p % q) (negative n (p % q))) (int_rem z y)
  pub floor : Residue n (lowered_number n (picked (differing s t) (p / q) (negative n (p / q))) (rounding (picked s (p % q) (negative n (p % q))) (differing s t))) (floor_div z y)
  pub modulus : Residue n (raised_number n (picked s (p % q) (negative n (p % q))) b (rounding (picked s (p % q) (negative n (p % q))) (differing s t))) (floor_rem z y)

pub rounds : (n a b : ℕ) (z y : ℤ) → IsTwos n a z → IsTwos n b y → 0 < unsigned_abs y → Rounds n (sign n a) (sign n b) (unsigned_abs z) (unsigned_abs y) b z y
rounds n a b z y h g some =
    let u = has_size n a z h in
    let v = has_size n b y g in
    let p : unsigned_abs z ≡ u.size = ap unsigned_abs (sym u.whole) ∙ size_of_signed u.sign u.size in
    let q : unsigned_abs y ≡ v.size = ap unsigned_abs (sym v.whole) ∙ size_of_signed v.sign v.size in
    let more : 0 < v.size = subst (λ t. 0 < t) q some in
    let base : Rounds n (sign_digit u.sign) (sign_digit v.sign) u.size v.size b (signed_of u.sign u.size) (signed_of v.sign v.size) = record {
      quotient = truncated_is n u.size v.size u.sign v.sign more u.fits u.proper v.proper;
      remainder = remainder_is n u.size v.size u.sign v.sign more u.fits u.proper v.proper;
      floor = floor_quotient_is n u.size v.size u.sign v.sign more u.fits u.proper v.proper;
      modulus = floor_remainder_is n u.size v.size u.sign v.sign more u.fits u.proper v.proper b (subst (Residue n b) (sym v.whole) (residue_twos n b y g));
    } in
    subst (λ t. Rounds n (sign n a) (sign n b) (unsigned_abs z) (unsigned_abs y) b t y) u.whole
    (subst (λ t. Rounds n (sign n a) (sign n b) (unsigned_abs z) (unsigned_abs y) b (signed_of u.sign u.size) t) v.whole
    (subst (λ t. Rounds n (sign n a) (sign n b) t (unsigned_abs y) b (signed_of u.sign u.size) (signed_of v.sign v.size)) (sym p)
    (subst (λ t. Rounds n (sign n a) (sign n b) u.size t b (signed_of u.sign u.size) (signed_of v.sign v.size)) (sym q)
    (subst (λ t. Rounds n t (sign n b) u.size v.size b (signed_of u.sign u.size) (signed_of v.sign v.size)) (sym u.digit)
    (subst (λ t. Rounds n (sign_digit u.sign) t u.size v.size b (signed_of u.sign u.size) (signed_of v.sign v.size)) (sym v.digit) base)))))

-- the magnitude of an operand
pub size_is : (n m : ℕ) (z : ℤ) → IsTwos n m z → where_number n m (sign n m) ≡ unsigned_abs z
size_is n m z h =
    let u = has_size n m z h in
    u.magnitude ∙ sym (ap unsigned_abs (sym u.whole) ∙ size_of_signed u.sign u.size)

never : (t : Bool) → t && false ≡ false
never true = refl
never false = refl

-- the part of a division that a kind asks for, as a number
abbrev pub part : DivisionKind → ℕ → ℕ → ℕ
part Div a b = a / b
part Mod a b = a % b
part DivFloor a b = a / b
part ModFloor a b = a % b

-- a quotient of plain numbers is not rounded up
even : (a b : ℕ) → 0 < b → rounds_up (pos a) (pos b) ≡ false
even a b some =
    rounds_up_by_signs (record { negative = false; size = a }) (record { negative = false; size = b }) some (λ e. absurd (cc)) (λ e. absurd (cc)) ∙ never (not (a % b == 0))

-- plain numbers are divided as integers are
plain : (a b : ℕ) → 0 < b → (kind : DivisionKind) → pos (part kind a b) ≡ quotient_of kind (pos a) (pos b)
plain a b some Div = quotient_of_signs false false a b some
plain a b some Mod = remainder_of_signs false false a b some
plain a b some DivFloor =
    quotient_of_signs false false a b some ∙ sym (ap (λ t. if t then int_div (pos a) (pos b) -ℤ pos 1 else int_div (pos a) (pos b)) (even a b some))
plain a b some ModFloor =
    remainder_of_signs false false a b some ∙ sym (ap (λ t. if t then int_rem (pos a) (pos b) +ℤ pos b else int_rem (pos a) (pos b)) (even a b some))

pub plain_residue : (n a b : ℕ) (z y : ℤ) (kind : DivisionKind) → z ≡ pos a → y ≡ pos b → 0 < unsigned_abs y → Residue n (part kind a b) (quotient_of kind z y)
plain_residue n a b z y kind e f some =
    let more : 0 < b = subst (λ t. 0 < unsigned_abs t) f some in
    subst (λ t. Residue n (part kind a b) (quotient_of kind t y)) (sym e)
    (subst (λ t. Residue n (part kind a b) (quotient_of kind (pos a) t)) (sym f) (subst (Residue n (part kind a b)) (plain a b more kind) (residue_number n (part kind a b))))

-- a word that stands for an integer
pub record Stands (K : Type 0) (n : ℕ) (z : ℤ) : Type 0 where
  pub number : ℕ
  pub word : Word K n number
  pub residue : K → Residue n number z

module _ (K : Type 0) (n a b : ℕ) (z y : ℤ) (u : Word K n a) (v : Word K n b) (some : K → 0 < unsigned_abs y) where
  -- the word of a division of plain numbers
  module _ (h : K → z ≡ pos a) (g : K → y ≡ pos b) where
    pub more : K → 0 < b
    more k = subst (λ t. 0 < unsigned_abs t) (g k) (some k)

    unfoldable pub plain_parts : Divided K n b v more n a
    plain_parts = divided_word K n b v more n a u

    unfoldable pub plain_word : (kind : DivisionKind) → Word K n (part kind a b)
    plain_word Div = plain_parts.quotient
    plain_word Mod = plain_parts.rest
    plain_word DivFloor = plain_parts.quotient
    plain_word ModFloor = plain_parts.rest

    unfoldable pub plain_stands : (kind : DivisionKind) → Stands K n (quotient_of kind z y)
    plain_stands kind = record {
      number = part kind a b;
      word = plain_word kind;
      residue = λ k. plain_residue n a b z y kind (h k) (g k) (some k);
    }

    pub net_plain : (l : Logic) (kind : DivisionKind) (xs ys : List SigBit) {R : Type 0} → (R → Reads l K n a u xs) → (R → Reads l K n b v ys)
        → Net l R (unsigned_of kind xs ys) (Reads l K n _ (plain_stands kind).word)
    unfolding plain_stands plain_word plain_parts
    net_plain l Div xs ys f e = net_then l (net_divided K n b v more l xs n a u ys f e) λ division. net_pure l (λ r. r.1.quotient)
    net_plain l Mod xs ys f e = net_then l (net_divided K n b v more l xs n a u ys f e) λ division. net_pure l (λ r. r.1.rest)
    net_plain l DivFloor xs ys f e = net_then l (net_divided K n b v more l xs n a u ys f e) λ division. net_pure l (λ r. r.1.quotient)
    net_plain l ModFloor xs ys f e = net_then l (net_divided K n b v more l xs n a u ys f e) λ division. net_pure l (λ r. r.1.rest)

  -- the word of a division of integers
  module _ (h : K → IsTwos n a z) (g : K → IsTwos n b y) where
    unfoldable pub size_word : Word K n (unsigned_abs z)
    size_word = word_as K n _ _ (λ k. size_is n a z (h k)) (magnitude_word K n a u)

    unfoldable pub divisor_word : Word K n (unsigned_abs y)
    divisor_word = word_as K n _ _ (λ k. size_is n b y (g k)) (magnitude_word K n b v)

    unfoldable pub parts_of : Divided K n (unsigned_abs y) divisor_word some n (unsigned_abs z)
    parts_of = divided_word K n (unsigned_abs y) divisor_word some n (unsigned_abs z) size_word

    unfoldable pub signed_stands : (kind : DivisionKind) → Stands K n (quotient_of kind z y)
    signed_stands Div = record {
      number = _;
      word = where_word K n _ _ parts_of.quotient (differ_digit K n a b u v);
      residue = λ k. (rounds n a b z y (h k) (g k) (some k)).quotient;
    }
    signed_stands Mod = record {
      number = _;
      word = where_word K n _ _ parts_of.rest (top K n a u);
      residue = λ k. (rounds n a b z y (h k) (g k) (some k)).remainder;
    }
    signed_stands DivFloor = record {
      number = _;
      word = lowered_word K n _ _ (whole_word K n a b _ _ u v parts_of.quotient parts_of.rest) (rounded_digit K n a b _ _ u v parts_of.quotient parts_of.rest);
      residue = λ k. (rounds n a b z y (h k) (g k) (some k)).floor;
    }
    signed_stands ModFloor = record {
      number = _;
      word = raised_word K n _ b _ (left_word K n a b _ _ u v parts_of.quotient parts_of.rest) v (rounded_digit K n a b _ _ u v parts_of.quotient parts_of.rest);
      residue = λ k. (rounds n a b z y (h k) (g k) (some k)).modulus;
    }

    rounded : (l : Logic) (kind : DivisionKind) (xs ys : List SigBit) (division : Division) {R : Type 0} → (R → Reads l K n a u xs) → (R → Reads l K n b v ys)
        → (R → Reads l K n _ parts_of.quotient division.quotient) → (R → Reads l K n _ parts_of.rest division.rest)
        → Net l R (rounded_of kind xs ys division) (Reads l K n _ (signed_stands kind).word)
    unfolding signed_stands
    rounded l Div xs ys division f e q r = net_truncated l K n a b _ _ u v parts_of.quotient parts_of.rest xs ys division.quotient division.rest f e q r
    rounded l Mod xs ys division f e q r = net_remainder l K n a b _ _ u v parts_of.quotient parts_of.rest xs ys division.quotient division.rest f e q r
    rounded l DivFloor xs ys division f e q r = net_floor_quotient l K n a b _ _ u v parts_of.quotient parts_of.rest xs ys division.quotient division.rest f e q r
    rounded l ModFloor xs ys division f e q r = net_floor_remainder l K n a b _ _ u v parts_of.quotient parts_of.rest xs ys division.quotient division.rest f e q r

    pub net_signed : (l : Logic) (kind : DivisionKind) (xs ys : List SigBit) {R : Type 0} → (R → Reads l K n a u xs) → (R → Reads l K n b v ys)
        → Net l R (signed_net kind xs ys) (Reads l K n _ (signed_stands kind).word)
    unfolding signed_stands size_word divisor_word parts_of
    net_signed l kind xs ys f e =
        net_then l (net_magnitude l K n a u xs f) λ sizes.
        net_then l (net_magnitude l K n b v ys (λ r. e r.0)) λ divisors.
        net_then l (net_divided K n (unsigned_abs y) divisor_word some l sizes n (unsigned_abs z) size_word divisors (λ r. reads_as l K n _ _ _ (magnitude_word K n a u) sizes r.0.1) (λ r. reads_as l K n _ _ _ (magnitude_word K n b v) divisors r.1)) λ division.
        rounded l kind xs ys division (λ r. f r.0.0.0) (λ r. e r.0.0.0) (λ r. r.1.quotient) (λ r. r.1.rest)

-- what the net of a kind stands for
module _ (K : Type 0) (n a b : ℕ) (z y : ℤ) (u : Word K n a) (v : Word K n b) (some : K → 0 < unsigned_abs y) where
  unfoldable pub divide_stands : (kind : DivisionKind) (signed : Bool) → (K → IsOperand signed n a z) → (K → IsOperand signed n b y) → Stands K n (quotient_of kind z y)
  divide_stands kind true h g = signed_stands K n a b z y u v some h g kind
  divide_stands kind false h g = plain_stands K n a b z y u v some h g kind

  pub net_divide : (l : Logic) (kind : DivisionKind) (signed : Bool) (h : K → IsOperand signed n a z) (g : K → IsOperand signed n b y) (xs ys : List SigBit) {R : Type 0}
      → (R → Reads l K n a u xs) → (R → Reads l K n b v ys) → Net l R (divide_of kind signed xs ys) (Reads l K n _ (divide_stands kind signed h g).word)
  unfolding divide_stands
  net_divide l kind true h g xs ys f e = net_signed K n a b z y u v some h g l kind xs ys f e
  net_divide l kind false h g xs ys f e = net_plain K n a b z y u v some h g l kind xs ys f e
