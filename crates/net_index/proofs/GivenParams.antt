-- Parameters as a builder is given them, and how they are written.
use Rattle.std.proofs.Common.{◌≡◌, ℕ, zero, suc, ◌-◌, ◌/◌, ◌%◌, ◌<◌, ◌≤◌, ◌^◌, Bool, true, false, List, [], ◌∷◌, ◌++◌, length, map, drop, get_or, pos, refl, sym, ◌∙◌, ap, arith, cond}
use Rattle.std.specs.Prelude.{reverse, ◌==◌, not}
use Rattle.std.specs.List.{flat_map}
use Rattle.std.specs.Str.{bytes_eq}
use Rattle.std.proofs.Math.Seq.{drop-cons}
use Rattle.std.proofs.lemmas.Bool.{and_parts}
use Rattle.std.proofs.lemmas.List.{append-nil, map-append, reverse-append, reverse-reverse}
use Rattle.std.proofs.lemmas.List.Concat.{flat_map-append}
use Rattle.rtl_bits.proofs.NumberLemmas.{number_of_bits_of}
use Rattle.rtl_bits.specs.Knowledge.{AreKnown, IsKnown}
use Rattle.rtl_bits.specs.Numbers.{bits_of, low_bit_of, number_of}
use Rattle.rtl_bits.specs.declared.bit.Bit.{Bit}
use Rattle.rtl_bits.specs.declared.bit.Bit.TheVariants.{S0, S1}
use Rattle.rtl_ir.specs.Build.{bits_param, integer_param}
use Rattle.rtl_ir.specs.declared.value.Value.{Value}
use Rattle.rtl_ir.specs.declared.value.Value.TheVariants as value
use Rattle.cell_types.specs.ParamName.{param_text}
use Rattle.cell_types.specs.declared.param_name.ParamName.{ParamName}
use Rattle.cell_types.specs.declared.param_name.ParamName.TheVariants.{Memid}
use Rattle.net_index.specs.Builder.{chars_of, is_integer, is_number_param, is_value, new_param, new_value}
use Rattle.net_index.proofs.NewParams.{is_integer_yes}

low_known : (n : ℕ) → IsKnown (low_bit_of n)
low_known n = by (n % 2 == 1)
  where
    by : (b : Bool) → IsKnown (cond b S1 S0)
    by true = tt
    by false = tt

bits_known : (n width : ℕ) → AreKnown (bits_of n width)
bits_known n zero = tt
bits_known n (suc width) = (low_known n, bits_known (n / 2) width)

bits_long : (n width : ℕ) → length (bits_of n width) ≡ width
bits_long n zero = refl
bits_long n (suc width) = ap suc (bits_long (n / 2) width)

not_true : (b : Bool) → not b ≡ true → b ≡ false
not_true true e = absurd (cc)
not_true false e = refl

number_is : (n : ℕ) → n < 2 ^ 31 → number_of (bits_of n 32) ≡ n
number_is n h = omega (arith, number_of_bits_of n 32)

pub written_number : (name : ParamName) (n : ℕ) → n < 2 ^ 31 → is_number_param name ≡ true
    → new_param (record { name = param_text name; value = bits_of n 32 }) ≡ integer_param (param_text name) n
written_number name n h e =
    let p = and_parts (not (bytes_eq (param_text name) (param_text Memid))) (not (is_value (param_text name))) e in
    let i : is_integer (bits_of n 32) ≡ true = is_integer_yes (bits_of n 32) (bits_known n 32, omega (arith, bits_long n 32)) (omega (arith, number_is n h)) in
    let v : new_value (param_text name) (bits_of n 32) ≡ value.Int (pos n) = rw (not_true _ p.0, not_true _ p.1, i, number_is n h) refl in
    ap (λ (v : Value). record { name = param_text name; value = v; signed = false }) v

pub written_bits : (name : ParamName) (bits : List Bit) → is_value (param_text name) ≡ true → bytes_eq (param_text name) (param_text Memid) ≡ false
    → new_param (record { name = param_text name; value = bits }) ≡ bits_param (param_text name) bits
written_bits name bits e m =
    let v : new_value (param_text name) bits ≡ value.Bits bits false = rw (m, e) refl in
    ap (λ (v : Value). record { name = param_text name; value = v; signed = false }) v

drop_here : (items : List ℕ) (i d : ℕ) → 0 < i → i ≤ length items → drop (i - 1) items ≡ get_or items (i - 1) d ∷ drop i items
drop_here items i d p h =
    let e : suc (i - 1) ≡ i = omega arith in
    drop-cons items (i - 1) d (omega arith) ∙ ap (λ k. get_or items (i - 1) d ∷ drop k items) e

-- the characters from one place down on, with their bits
pub chars_here : (chars : List ℕ) (i d : ℕ) → 0 < i → i ≤ length chars
    → flat_map (λ c. bits_of c 8) (reverse (drop (i - 1) chars)) ≡ flat_map (λ c. bits_of c 8) (reverse (drop i chars)) ++ bits_of (get_or chars (i - 1) d) 8
chars_here chars i d p h =
    ap (λ x. flat_map (λ c. bits_of c 8) (reverse x)) (drop_here chars i d p h)
    ∙ ap (flat_map (λ c. bits_of c 8)) (reverse-append (get_or chars (i - 1) d ∷ []) (drop i chars))
    ∙ flat_map-append (λ c. bits_of c 8) (reverse (drop i chars)) (get_or chars (i - 1) d ∷ [])
    ∙ ap (λ x. flat_map (λ c. bits_of c 8) (reverse (drop i chars)) ++ x) (append-nil (bits_of (get_or chars (i - 1) d) 8))

chars_back : (cs : List ℕ) → chars_of (flat_map (λ c. bits_of c 8) cs) ≡ reverse (map (λ c. c % 256) cs)
chars_back [] = refl
chars_back (c ∷ cs) =
    ap (λ r. r ++ number_of (bits_of c 8) ∷ []) (chars_back cs)
    ∙ ap (λ n. reverse (map (λ c. c % 256) cs) ++ n ∷ []) (number_of_bits_of c 8)
    ∙ sym (reverse-append (c % 256 ∷ []) (map (λ c. c % 256) cs))

reverse_map : (f : ℕ → ℕ) (cs : List ℕ) → reverse (map f cs) ≡ map f (reverse cs)
reverse_map f [] = refl
reverse_map f (c ∷ cs) =
    reverse-append (f c ∷ []) (map f cs) ∙ ap (λ r. r ++ f c ∷ []) (reverse_map f cs) ∙ sym (map-append f (reverse cs) (c ∷ [])) ∙ ap (map f) (sym (reverse-append (c ∷ []) cs))

small_stay : (cs : List ℕ) → ((k : ℕ) → k < length cs → get_or cs k 0 < 256) → map (λ c. c % 256) cs ≡ cs
small_stay [] h = refl
small_stay (c ∷ cs) h =
    let e : c % 256 ≡ c = omega (arith, h 0 (omega arith)) in
    ap (λ n. n ∷ map (λ c. c % 256) cs) e ∙ ap (λ r. c ∷ r) (small_stay cs (λ k l. h (suc k) (omega arith)))

pub chars_stay : (chars : List ℕ) → ((k : ℕ) → k < length chars → get_or chars k 0 < 256) → chars_of (flat_map (λ c. bits_of c 8) (reverse chars)) ≡ chars
chars_stay chars h =
    chars_back (reverse chars) ∙ reverse_map (λ c. c % 256) (reverse chars) ∙ ap (map (λ c. c % 256)) (reverse-reverse chars) ∙ small_stay chars h

pub written_chars : (chars : List ℕ) → ((k : ℕ) → k < length chars → get_or chars k 0 < 256)
    → new_param (record { name = param_text Memid; value = flat_map (λ c. bits_of c 8) (reverse chars) }) ≡ record { name = param_text Memid; value = value.Chars chars; signed = false }
written_chars chars h = ap (λ c. record { name = param_text Memid; value = value.Chars c; signed = false }) (chars_stay chars h)

-- the same of a name and bits that are known by equations
pub number_written : (name : ParamName) (n : ℕ) (text : List ℕ) (bits : List Bit) → n < 2 ^ 31 → is_number_param name ≡ true → text ≡ param_text name → bits ≡ bits_of n 32
    → new_param (record { name = text; value = bits }) ≡ integer_param (param_text name) n
number_written name n text bits h e i j = rw (i, j) (written_number name n h e)

pub chars_written : (chars : List ℕ) (text : List ℕ) (bits : List Bit) → ((k : ℕ) → k < length chars → get_or chars k 0 < 256) → text ≡ param_text Memid → bits ≡ flat_map (λ c. bits_of c 8) (reverse chars)
    → new_param (record { name = text; value = bits }) ≡ record { name = param_text Memid; value = value.Chars chars; signed = false }
chars_written chars text bits h i j = rw (i, j) (written_chars chars h)
