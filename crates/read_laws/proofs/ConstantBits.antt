-- A constant has one value, and in a signal it stands for the bits of that value.
use Rattle.std.proofs.Common.{◌≡◌, refl, sym, ◌∙◌, ap, subst, ℕ, ◌+◌, ◌-◌, ◌*◌, ◌^◌, ◌<◌, ◌≤◌, ℤ, pos, negsuc, true, false, Bool, List, [], ◌∷◌, ◌++◌, length, map, reverse, replicate, Option, Some, None, Ok, Err, inl, inr, arith, length-append, append-nil}
use Rattle.std.proofs.lemmas.Bool.{cases_Bool, ltb-true, ltb-false, le-ltb}
use Rattle.std.proofs.lemmas.Int.{ints}
use Rattle.std.proofs.lemmas.Grind.{flat_map-append, reverse_onto}
use Rattle.std.proofs.lemmas.List.{length-take-le, length-replicate}
use Rattle.std.proofs.Math.Nat.{mod-eq_of_lt}
use Rattle.std.specs.Prelude.{nat_lt, if◌then◌else◌, flat_map, Result, ◌-ℤ◌}
use Rattle.rtl_bits.specs.declared.bit.Bit.{Bit}
use Rattle.rtl_bits.specs.Numbers as numbers
use Rattle.rtl_bits.proofs.NumberLemmas.{bits_of_length, number_of_bits_of, number_of_high, number_of_low}
use Rattle.rtl_lex.specs.declared.sort.Sort.{Sort}
use Rattle.rtl_lex.specs.declared.sort.Sort.TheVariants as sorts
use Rattle.rtl_lex.specs.Items.{Seen}
use Rattle.rtl_lex.specs.Numbers.{in_range}
use Rattle.rtl_lex.specs.Strings.{chars_of}
use Rattle.rtl_lex.specs.Values.{width_of, is_signed, written_of, bit_of, fill_of, bits_of}
use Rattle.rtl_sig.specs.declared.sig.SigBit.{SigBit}
use Rattle.rtl_sig.specs.declared.sig.SigBit.TheVariants.{Fixed}
use Rattle.rtl_ir.specs.declared.wire.Wire.{Wire}
use Rattle.rtl_ir.specs.Constants.{unsigned_of, value_bits, low_bits}
use Rattle.rtl_ir.specs.declared.value.Value.{Value}
use Rattle.rtl_ir.specs.declared.value.Value.TheVariants as values
use Rattle.rtl_ir.specs.declared.limits.TheConstants.{MAX_WIDTH}
use Rattle.rtl_grammar.specs.declared.expect.Expect.{Expect}
use Rattle.rtl_grammar.specs.declared.expect.Expect.TheVariants as expects
use Rattle.rtl_grammar.specs.Uses.{◌>>=◌}
use Rattle.rtl_read.specs.declared.draft.Draft.{Draft}
use Rattle.rtl_read.specs.declared.read_fault.ReadFault.{ReadFault}
use Rattle.rtl_read.specs.declared.read_fault.ReadFault.TheVariants as faults
use Rattle.rtl_read.specs.Act.{act}
use Rattle.rtl_read.specs.Constant as reader
use Rattle.rtl_read.specs.Constant.{low_bits as reader_low}
use Rattle.rtl_read.specs.Act.Module.{act_parameter_value}
use Rattle.rtl_read.specs.Signal.{plain_signal}
use Rattle.read_laws.proofs.SignalBits.{bind_on}
use Rattle.read_laws.specs.SignalBits.{Plain, StandsFor}
use Rattle.read_laws.specs.ConstantBits.{is_constant, HasValue, takes_value, with_value_at, signal_of, IsWord, IsOnTop}

-- ---- the value

-- the reader's value of the item
abbrev pub value_read : Seen → Value → Type 0
value_read i v = reader.constant i.sort i ≡ Ok v

pub is_read : (i : Seen) (v : Value) → HasValue i v → value_read i v
is_read i (values.Bits bits signed) (sort, are, sign, fits) =
    ap (λ (s : Sort). reader.constant s i) sort
    ∙ ap (λ (b : Bool). if b then Err (faults.Limit i.place) else Ok (values.Bits (bits_of i.text) (is_signed i.text))) (le-ltb MAX_WIDTH (width_of i.text) fits)
    ∙ ap (λ (b : List Bit). Ok (values.Bits b (is_signed i.text))) (sym are)
    ∙ ap (λ (s : Bool). Ok (values.Bits bits s)) (sym sign)
is_read i (values.Int n) (sort, number) =
    ap (λ (s : Sort). reader.constant s i) sort ∙ ap (λ (o : Option ℤ). reader.integer o i >>= λ k. Ok (values.Int k)) number
is_read i (values.Chars text) (sort, are, fits) =
    ap (λ (s : Sort). reader.constant s i) sort
    ∙ ap (λ (b : Bool). if b then Err (faults.Limit i.place) else Ok (values.Chars (chars_of i.text)))
    (le-ltb MAX_WIDTH (8 * length (chars_of i.text)) (subst (λ (t : List ℕ). 8 * length t ≤ MAX_WIDTH) are fits))
    ∙ ap (λ (t : List ℕ). Ok (values.Chars t)) (sym are)

pub has_constant : (i : Seen) (v : Value) → HasValue i v → is_constant i.sort ≡ true
has_constant i (values.Bits bits signed) h = ap is_constant h.0
has_constant i (values.Int n) h = ap is_constant h.0
has_constant i (values.Chars text) h = ap is_constant h.0

-- .. and what is read has a value
is_value : {T : Type 0} (i : Seen) (x : T) (f : Value → Result T ReadFault) (sort : Sort) → i.sort ≡ sort → is_constant sort ≡ true → (reader.constant sort i >>= f) ≡ Ok x → (v : Value) × HasValue i v
is_value i x f sorts.Value s c e = by (nat_lt MAX_WIDTH (width_of i.text)) refl e
  where
    by : (b : Bool) → nat_lt MAX_WIDTH (width_of i.text) ≡ b → ((if b then Err (faults.Limit i.place) else Ok (values.Bits (bits_of i.text) (is_signed i.text))) >>= f) ≡ Ok x → (v : Value) × HasValue i v
    by true t g = absurd cc
    by false t g = (values.Bits (bits_of i.text) (is_signed i.text), (s, refl, refl, ltb-false MAX_WIDTH (width_of i.text) t))
is_value i x f sorts.Int s c e = by i.number refl e
  where
    by : (o : Option ℤ) → i.number ≡ o → ((reader.integer o i >>= λ k. Ok (values.Int k)) >>= f) ≡ Ok x → (v : Value) × HasValue i v
    by None t g = absurd cc
    by (Some n) t g = (values.Int n, (s, t))
is_value i x f sorts.Chars s c e = by (nat_lt MAX_WIDTH (8 * length (chars_of i.text))) refl e
  where
    by : (b : Bool) → nat_lt MAX_WIDTH (8 * length (chars_of i.text)) ≡ b → ((if b then Err (faults.Limit i.place) else Ok (values.Chars (chars_of i.text))) >>= f) ≡ Ok x → (v : Value) × HasValue i v
    by true t g = absurd cc
    by false t g = (values.Chars (chars_of i.text), (s, refl, ltb-false MAX_WIDTH (8 * length (chars_of i.text)) t))
is_value i x f sort s c e = absurd cc

-- ---- where it stands

parameter_reads : (sort : Sort) (i : Seen) (d : Draft) → is_constant sort ≡ true → act_parameter_value sort i d ≡ (reader.constant sort i >>= λ v. Ok (with_value_at expects.ParameterValue v d))
parameter_reads sorts.Value i d c = refl
parameter_reads sorts.Int i d c = refl
parameter_reads sorts.Chars i d c = refl
parameter_reads sort i d c = absurd cc

value_reads : (place : Expect) (i : Seen) (d : Draft) → takes_value place ≡ true → is_constant i.sort ≡ true → act place i d ≡ (reader.constant i.sort i >>= λ v. Ok (with_value_at place v d))
value_reads expects.AttributeValue i d t c = refl
value_reads expects.ParameterValue i d t c = parameter_reads i.sort i d c
value_reads expects.CellParameterValue i d t c = refl
value_reads place i d t c = absurd cc

signal_reads : (wires : List Wire) (names : List (List ℕ)) (sort : Sort) (i : Seen) → is_constant sort ≡ true → plain_signal wires names sort i ≡ (reader.constant sort i >>= λ v. Ok (reader.fixed v))
signal_reads wires names sorts.Value i c = refl
signal_reads wires names sorts.Int i c = refl
signal_reads wires names sorts.Chars i c = refl
signal_reads wires names sort i c = absurd cc

pub as_value : (i : Seen) (v : Value) (place : Expect) (d : Draft) → takes_value place ≡ true → HasValue i v → act place i d ≡ Ok (with_value_at place v d)
as_value i v place d t h =
    value_reads place i d t (has_constant i v h) ∙ bind_on (reader.constant i.sort i) v (λ v. Ok (with_value_at place v d)) (is_read i v h)

pub only_values : (i : Seen) (place : Expect) (d after : Draft) → takes_value place ≡ true → is_constant i.sort ≡ true → act place i d ≡ Ok after → (v : Value) × HasValue i v
only_values i place d after t c e = is_value i after (λ v. Ok (with_value_at place v d)) i.sort refl c (sym (value_reads place i d t c) ∙ e)

-- ---- the bits

unsigned_same : (n : ℤ) → reader.unsigned n ≡ unsigned_of n
unsigned_same (pos n) = refl
unsigned_same (negsuc n) = refl

low_same : (n width : ℕ) → reader_low n width ≡ low_bits n width
unfolding low_bits reader_low
low_same n width = refl

chars_same : (chars : List ℕ) → flat_map (λ c. reader_low c 8) chars ≡ flat_map (λ c. low_bits c 8) chars
chars_same [] = refl
chars_same (c ∷ cs) = ap (λ (b : List Bit). b ++ flat_map (λ c. reader_low c 8) cs) (low_same c 8) ∙ ap (λ (b : List Bit). low_bits c 8 ++ b) (chars_same cs)

-- the reader's bits of a value are those of the value
bits_same : (v : Value) → reader.constant_bits v ≡ value_bits v
bits_same (values.Bits bits signed) = refl
bits_same (values.Int n) = low_same (reader.unsigned n) 32 ∙ ap (λ (k : ℕ). low_bits k 32) (unsigned_same n)
bits_same (values.Chars text) = chars_same (reverse text)

pub as_signal : (i : Seen) (v : Value) (wires : List Wire) (names : List (List ℕ)) → HasValue i v → StandsFor wires names (Plain i) (signal_of v)
as_signal i v wires names h =
    signal_reads wires names i.sort i (has_constant i v h)
    ∙ bind_on (reader.constant i.sort i) v (λ v. Ok (reader.fixed v)) (is_read i v h)
    ∙ ap (λ (bits : List Bit). Ok (map (λ (b : Bit). Fixed b) bits)) (bits_same v)

pub only_signals : (i : Seen) (wires : List Wire) (names : List (List ℕ)) (bits : List SigBit) → is_constant i.sort ≡ true → StandsFor wires names (Plain i) bits → (v : Value) × HasValue i v
only_signals i wires names bits c e = is_value i bits (λ v. Ok (reader.fixed v)) i.sort refl c (sym (signal_reads wires names i.sort i c) ∙ e)

-- ---- how many they are, and what they are

pub sized : (i : Seen) (bits : List Bit) (signed : Bool) → HasValue i (values.Bits bits signed) → length bits ≡ width_of i.text
sized i bits signed h =
    let width : ℕ = width_of i.text in
    let filled : List Bit = replicate width (fill_of (written_of i.text)) in
    let front : List Bit = map bit_of (reverse (written_of i.text)) in
    let long : length (front ++ filled) ≡ length front + length filled = length-append front filled in
    let fills : length filled ≡ width = length-replicate width (fill_of (written_of i.text)) in
    ap length h.1 ∙ length-take-le width (front ++ filled) (omega (arith, long, fills))

-- a number of 32 bits as an integer
word_of : (n : ℕ) → n < 2 ^ 32 → numbers.number_of (numbers.bits_of n 32) ≡ n
word_of n lt = number_of_bits_of n 32 ∙ mod-eq_of_lt lt

positive : (n : ℕ) → n < 2 ^ 31 → numbers.integer_of (numbers.bits_of n 32) ≡ pos n
positive n lt =
    let bits : List Bit = numbers.bits_of n 32 in
    let long : length bits ≡ 32 = bits_of_length n 32 in
    let is : numbers.number_of bits ≡ n = word_of n (omega (arith, lt)) in
    elim (cases_Bool (numbers.is_one (numbers.top_of bits))) [
      | inl e ↦
          let high : 2 ^ 32 ≤ 2 * numbers.number_of bits = subst (λ (k : ℕ). 2 ^ k ≤ 2 * numbers.number_of bits) long (number_of_high bits e) in
          absurd (omega (arith, high, is, lt))
      | inr e ↦ ap (λ (b : Bool). if b then pos (numbers.number_of bits) -ℤ pos (2 ^ length bits) else pos (numbers.number_of bits)) e ∙ ap pos is
    ]

negative : (n : ℕ) → n < 2 ^ 31 → numbers.integer_of (numbers.bits_of (2 ^ 32 - (n + 1)) 32) ≡ negsuc n
negative n lt =
    let m : ℕ = 2 ^ 32 - (n + 1) in
    let bits : List Bit = numbers.bits_of m 32 in
    let long : length bits ≡ 32 = bits_of_length m 32 in
    let is : numbers.number_of bits ≡ m = word_of m (omega arith) in
    elim (cases_Bool (numbers.is_one (numbers.top_of bits))) [
      | inl e ↦
          ap (λ (b : Bool). if b then pos (numbers.number_of bits) -ℤ pos (2 ^ length bits) else pos (numbers.number_of bits)) e
          ∙ ap (λ (k : ℕ). pos k -ℤ pos (2 ^ length bits)) is
          ∙ ap (λ (k : ℕ). pos m -ℤ pos (2 ^ k)) long
          ∙ below n lt
      | inr e ↦
          let low : 2 * numbers.number_of bits < 2 ^ 32 = subst (λ (k : ℕ). 2 * numbers.number_of bits < 2 ^ k) long (number_of_low bits (omega (arith, long)) e) in
          absurd (omega (arith, low, is, lt))
    ]
  where
    below : (n : ℕ) → n < 2 ^ 31 → pos (2 ^ 32 - (n + 1)) -ℤ pos (2 ^ 32) ≡ negsuc n
    below n lt = omega (arith, ints, lt)

pub integer : (n : ℤ) → in_range n ≡ true → IsWord n
unfolding low_bits
integer (pos n) h = (bits_of_length n 32, positive n (ltb-true n (2 ^ 31) h))
integer (negsuc n) h = (bits_of_length (2 ^ 32 - (n + 1)) 32, negative n (ltb-true n (2 ^ 31) h))

pub string : (char : ℕ) (text : List ℕ) → char < 2 ^ 8 → IsOnTop char text
unfolding low_bits
string char text lt =
    let byte : ℕ → List Bit = λ (c : ℕ). numbers.bits_of c 8 in
    let turned : reverse (char ∷ text) ≡ reverse text ++ char ∷ [] = reverse_onto text char [] in (
      byte char,
      ap (flat_map byte) turned
          ∙ flat_map-append byte (reverse text) (char ∷ [])
          ∙ ap (λ (b : List Bit). flat_map byte (reverse text) ++ b) (append-nil (byte char)),
      bits_of_length char 8,
      number_of_bits_of char 8 ∙ mod-eq_of_lt lt,
    )
