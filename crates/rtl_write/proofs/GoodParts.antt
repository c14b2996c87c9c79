-- What tokens say of constants, widths and attributes is good.
use Rattle.std.proofs.Common.{◌≡◌, ℕ, zero, suc, ◌*◌, ◌^◌, ◌<◌, ◌≤◌, List, [], ◌∷◌, ◌++◌, length, map, Option, Some, None, Result, Ok, Err, Bool, true, false, refl, sym, ap, subst, ◌∙◌, arith}
use Rattle.std.specs.Prelude.{◌==◌, nat_lt, ℤ, pos, negsuc, if◌then◌else◌, reverse, replicate, slice_get, slice_set}
use Rattle.std.specs.List.{All, flat_map, IsDistinct}
use Rattle.std.proofs.lemmas.Bool.{ltb-true, ltb-false, lt-ltb, le-ltb, eqb-false}
use Rattle.std.proofs.lemmas.List.{length-take, length-append, length-map, length-reverse, length-replicate, map_push}
use Rattle.std.proofs.lemmas.List.Elements.{All-nil, All-cons, All-push, All-set}
use Rattle.rtl_bits.proofs.NumberLemmas.{bits_of_length}
use Rattle.rtl_bits.specs.declared.bit.Bit.{Bit}
use Rattle.rtl_lex.specs.declared.sort.Sort.{Sort}
use Rattle.rtl_lex.specs.declared.sort.Sort.TheVariants as sorts
use Rattle.rtl_lex.specs.Items.{Seen}
use Rattle.rtl_lex.specs.Strings.{chars_of}
use Rattle.rtl_lex.specs.Values.{width_of, bits_of, fitted, written_of, fill_of, bit_of, is_signed}
use Rattle.rtl_sig.specs.declared.sig.SigBit.TheVariants.{Fixed}
use Rattle.rtl_sig.specs.Names.{has_name, next_number_of, with_name, AreDistinct}
use Rattle.rtl_sig.proofs.NamesLemmas.{slice_get-known, next_number_of-new}
use Rattle.rtl_ir.specs.declared.value.Value.{Value}
use Rattle.rtl_ir.specs.declared.value.Value.TheVariants as values
use Rattle.rtl_ir.specs.declared.value.Attribute.{Attribute}
use Rattle.rtl_ir.specs.declared.wire.Wire.{Wire}
use Rattle.rtl_read.specs.declared.attributes.Attributes.{Attributes}
use Rattle.rtl_ir.specs.declared.limits.TheConstants.{MAX_BITS, MAX_WIDTH}
use Rattle.rtl_read.specs.declared.read_fault.ReadFault.{ReadFault}
use Rattle.rtl_read.specs.declared.read_fault.ReadFault.TheVariants as faults
use Rattle.rtl_read.specs.Constant.{constant, value, string, integer, low_bits, unsigned, constant_bits, fixed}
use Rattle.rtl_read.specs.Meaning.Attribute.{no_attributes, put_at, with_attribute}
use Rattle.rtl_read.specs.Meaning.Wire.{some_width, within_limit}
use Rattle.rtl_grammar.specs.Uses.{◌>>=◌}
use Rattle.rtl_readable.specs.Readable.{IsName, IsInteger, IsConstant, IsAttribute, AreAttributes, IsBitOf, IsSignal}
use Rattle.rtl_write.proofs.Distinct.{distinct_push, slice_get_lt}
use Rattle.rtl_write.proofs.Items.{IsGood, all_chars}
use Rattle.rtl_write.proofs.Stages.{AreWaiting}

-- ---- constants

-- as many bits as the width says
length_fitted : (width : ℕ) (written : List ℕ) → length (fitted width written) ≡ width
length_fitted width written =
    let front = map bit_of (reverse written) in
    let fill : List Bit = replicate width (fill_of written) in
    omega (arith, length-take width (front ++ fill), length-append front fill, length-replicate width (fill_of written))

pub integer_good : (i : Seen) (n : ℤ) → IsGood i → integer i.number i ≡ Ok n → IsInteger n
integer_good i n good e = by i.number refl e
  where
    by : (o : Option ℤ) → i.number ≡ o → integer o i ≡ Ok n → IsInteger n
    by None f g = absurd cc
    by (Some z) f g =
        let same : z ≡ n = cc in
        subst IsInteger same (good.number z f)

value_good : (i : Seen) (v : Value) → value i ≡ Ok v → IsConstant v
value_good i v e = by (nat_lt MAX_WIDTH (width_of i.text)) refl e
  where
    by : (b : Bool) → nat_lt MAX_WIDTH (width_of i.text) ≡ b → (if b then Err (faults.Limit i.place) else Ok (values.Bits (bits_of i.text) (is_signed i.text))) ≡ Ok v → IsConstant v
    by true f g = absurd cc
    by false f g =
        let same : values.Bits (bits_of i.text) (is_signed i.text) ≡ v = cc in
        subst IsConstant same (omega (arith, ltb-false MAX_WIDTH (width_of i.text) f, length_fitted (width_of i.text) (written_of i.text)))

string_good : (i : Seen) (v : Value) → string i ≡ Ok v → IsConstant v
string_good i v e = by (nat_lt MAX_WIDTH (8 * length (chars_of i.text))) refl e
  where
    by : (b : Bool) → nat_lt MAX_WIDTH (8 * length (chars_of i.text)) ≡ b → (if b then Err (faults.Limit i.place) else Ok (values.Chars (chars_of i.text))) ≡ Ok v → IsConstant v
    by true f g = absurd cc
    by false f g =
        let same : values.Chars (chars_of i.text) ≡ v = cc in
        subst IsConstant same (all_chars i.text, ltb-false MAX_WIDTH (8 * length (chars_of i.text)) f)

int_good : (i : Seen) (v : Value) → IsGood i → (integer i.number i >>= λ n. Ok (values.Int n)) ≡ Ok v → IsConstant v
int_good i v good e = by (integer i.number i) refl e
  where
    by : (r : Result ℤ ReadFault) → integer i.number i ≡ r → (r >>= λ n. Ok (values.Int n)) ≡ Ok v → IsConstant v
    by (Err fault) f g = absurd cc
    by (Ok n) f g =
        let same : values.Int n ≡ v = cc in
        subst IsConstant same (integer_good i n good f)

abbrev pub Constant : Sort → Type 0
Constant sorts.Value = Unit {0}
Constant sorts.Int = Unit {0}
Constant sorts.Chars = Unit {0}
Constant sort = ⊥

pub constant_good : (sort : Sort) (i : Seen) (v : Value) → Constant sort → IsGood i → constant sort i ≡ Ok v → IsConstant v
constant_good sorts.Value i v is good e = value_good i v e
constant_good sorts.Int i v is good e = int_good i v good e
constant_good sorts.Chars i v is good e = string_good i v e
constant_good sort i v is good e = absurd is

-- ---- the signal of a constant

length_low : (n width : ℕ) → length (low_bits n width) ≡ width
unfolding low_bits
length_low n width = bits_of_length n width

length_bytes : (chars : List ℕ) → length (flat_map (λ c. low_bits c 8) chars) ≡ 8 * length chars
length_bytes [] = refl
length_bytes (c ∷ cs) = omega (arith, length-append (low_bits c 8) (flat_map (λ c. low_bits c 8) cs), length_low c 8, length_bytes cs)

narrow : (v : Value) → IsConstant v → length (constant_bits v) ≤ MAX_BITS
narrow (values.Bits b s) is = omega (arith, is)
narrow (values.Int n) is = omega (arith, length_low (unsigned n) 32)
narrow (values.Chars text) is = omega (arith, is.1, length_bytes (reverse text), length-reverse text)

all_fixed : (wires : List Wire) (b : List Bit) → All (IsBitOf wires) (map (λ x. Fixed x) b)
all_fixed wires [] = All-nil (IsBitOf wires)
all_fixed wires (x ∷ xs) = All-cons (IsBitOf wires) (Fixed x) (map (λ x. Fixed x) xs) tt (all_fixed wires xs)

pub fixed_good : (wires : List Wire) (v : Value) → IsConstant v → IsSignal wires (fixed v)
fixed_good wires v is = record {
  bits = all_fixed wires (constant_bits v);
  width = omega (arith, length-map (constant_bits v) (λ b. Fixed b), narrow v is);
}

-- ---- widths

pub some_width_good : (i : Seen) (n : ℕ) → IsGood i → some_width i.number i ≡ Ok n → (0 < n) × (n < 2 ^ 31)
some_width_good i n good e = by i.number refl e
  where
    test : (m : ℕ) (b : Bool) → i.number ≡ Some (pos m) → (m == 0) ≡ b → (if b then Err (faults.Int i.place) else Ok m) ≡ Ok n → (0 < n) × (n < 2 ^ 31)
    test m true f t g = absurd cc
    test m false f t g =
        let same : m ≡ n = cc in
        subst (λ (k : ℕ). (0 < k) × (k < 2 ^ 31)) same (omega (arith, eqb-false m 0 t), ltb-true m (2 ^ 31) (good.number (pos m) f))

    by : (o : Option ℤ) → i.number ≡ o → some_width o i ≡ Ok n → (0 < n) × (n < 2 ^ 31)
    by None f g = absurd cc
    by (Some (negsuc m)) f g = absurd cc
    by (Some (pos m)) f g = test m (m == 0) f refl g

pub within : (i : Seen) (n m : ℕ) → within_limit i n ≡ Ok m → (m ≡ n) × (n ≤ MAX_WIDTH)
within i n m e = by (nat_lt MAX_WIDTH n) refl e
  where
    by : (b : Bool) → nat_lt MAX_WIDTH n ≡ b → (if b then Err (faults.Limit i.place) else Ok n) ≡ Ok m → (m ≡ n) × (n ≤ MAX_WIDTH)
    by true f g = absurd cc
    by false f g = (cc, ltb-false MAX_WIDTH n f)

-- ---- attributes

pub none_waiting : AreWaiting no_attributes
unfolding IsDistinct
none_waiting = record { each = All-nil IsAttribute; names = refl; distinct = tt }

pub are_attributes : (a : Attributes) → AreWaiting a → AreAttributes a.items
are_attributes a w = record { each = w.each; distinct = subst AreDistinct w.names w.distinct }

-- a place of the list that has the name already
kept_names : (items : List Attribute) (k : ℕ) (a : Attribute) → slice_get (map (λ a. a.name) items) k ≡ Some a.name → map (λ a. a.name) (slice_set items k a) ≡ map (λ a. a.name) items
kept_names [] k a e = refl
kept_names (x ∷ xs) zero a e =
    let same : x.name ≡ a.name = cc in
    ap (λ (n : List ℕ). n ∷ map (λ a. a.name) xs) (sym same)
kept_names (x ∷ xs) (suc k) a e = ap (λ (l : List (List ℕ)). x.name ∷ l) (kept_names xs k a e)

module _ (name : List ℕ) (v : Value) (s : Attributes) (w : AreWaiting s) (form : IsName name) (is : IsConstant v) where
  abbrev added : Attribute
  added = record { name = name; value = v }

  good_added : IsAttribute added
  good_added = record { name = form; value = is }

  same_length : length s.names ≡ length s.items
  same_length = ap length w.names ∙ length-map s.items (λ a. a.name)

  pub waiting_put : AreWaiting (with_attribute name v s)
  waiting_put = by (has_name s.names name) refl
    where
      by : (b : Bool) → has_name s.names name ≡ b → AreWaiting (with_attribute name v s)
      by true e =
          let k : ℕ = next_number_of s.names name in
          let at : slice_get s.names k ≡ Some name = slice_get-known name s.names e in
          let lt : nat_lt k (length s.items) ≡ true = lt-ltb k (length s.items) (omega (arith, slice_get_lt s.names k name at, same_length)) in
          let items : put_at k added s.items ≡ slice_set s.items k added = ap (λ (b : Bool). if b then slice_set s.items k added else s.items ++ added ∷ []) lt in
          let names : with_name s.names name ≡ s.names = ap (λ (b : Bool). if b then s.names else s.names ++ name ∷ []) e in
          record {
            each = subst (All IsAttribute) (sym items) (All-set IsAttribute s.items k added good_added w.each);
            names = names ∙ w.names ∙ sym (kept_names s.items k added (ap (λ (l : List (List ℕ)). slice_get l k) (sym w.names) ∙ at)) ∙ ap (map (λ a. a.name)) (sym items);
            distinct = subst AreDistinct (sym names) w.distinct;
          }
      by false e =
          let k : ℕ = next_number_of s.names name in
          let last : k ≡ length s.names = next_number_of-new name s.names e in
          let past : nat_lt k (length s.items) ≡ false = le-ltb k (length s.items) (omega (arith, last, same_length)) in
          let items : put_at k added s.items ≡ s.items ++ added ∷ [] = ap (λ (b : Bool). if b then slice_set s.items k added else s.items ++ added ∷ []) past in
          let names : with_name s.names name ≡ s.names ++ name ∷ [] = ap (λ (b : Bool). if b then s.names else s.names ++ name ∷ []) e in
          record {
            each = subst (All IsAttribute) (sym items) (All-push IsAttribute s.items added w.each good_added);
            names = names ∙ ap (λ (l : List (List ℕ)). l ++ name ∷ []) w.names ∙ sym (map_push (λ a. a.name) s.items added) ∙ ap (map (λ a. a.name)) (sym items);
            distinct = subst AreDistinct (sym names) (distinct_push s.names name w.distinct e);
          }
