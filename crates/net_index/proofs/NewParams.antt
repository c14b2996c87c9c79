-- How new parameters are written.
use Rattle.std.proofs.Common.{◌≡◌, ℕ, ◌+◌, ◌*◌, ◌-◌, ◌/◌, ◌<◌, ◌≤◌, ◌^◌, Bool, true, false, List, [], ◌∷◌, ◌++◌, length, take, drop, get_or, refl, ◌∙◌, ap, arith, length-drop}
use Rattle.std.proofs.lemmas.Bool.{and_parts, le-leb, lt-ltb, leb-true, ltb-true}
use Rattle.std.proofs.lemmas.List.{drop-drop}
use Rattle.std.proofs.Math.Pow.{pow_mono}
use Rattle.std.specs.Prelude.{◌&&◌, nat_lt, nat_le}
use Rattle.rtl_bits.proofs.Lists.{all_known_true, true_all_known}
use Rattle.rtl_bits.proofs.NumberLemmas.{drop_here, number_of_small}
use Rattle.rtl_bits.specs.Knowledge.{all_known}
use Rattle.rtl_bits.specs.Numbers.{HasNumber, digit_of, number_of}
use Rattle.rtl_bits.specs.declared.bit.Bit.{Bit}
use Rattle.net_index.specs.Builder.{chars_of, is_integer}

pub is_integer_yes : (bits : List Bit) → HasNumber bits → number_of bits < 2 ^ 31 → is_integer bits ≡ true
is_integer_yes bits h lt = rw (true_all_known bits h.0, le-leb (length bits) 128 h.1, lt-ltb (number_of bits) (2 ^ 31) lt) refl

pub is_integer_no : (bits : List Bit) → (HasNumber bits → number_of bits < 2 ^ 31 → ⊥) → is_integer bits ≡ false
is_integer_no bits h = by (is_integer bits) refl
  where
    by : (b : Bool) → is_integer bits ≡ b → b ≡ false
    by false e = refl
    by true e =
        let p = and_parts (all_known bits) (nat_le (length bits) 128 && nat_lt (number_of bits) (2 ^ 31)) e in
        let q = and_parts (nat_le (length bits) 128) (nat_lt (number_of bits) (2 ^ 31)) p.1 in
        absurd (h (all_known_true bits p.0, leb-true (length bits) 128 q.0) (ltb-true (number_of bits) (2 ^ 31) q.1))

-- one more bit below
pub char_step : (bits : List Bit) (at : ℕ) (d : Bit) → 0 < at → at ≤ length bits → 2 * number_of (drop at bits) + digit_of (get_or bits (at - 1) d) ≡ number_of (drop (at - 1) bits)
char_step bits at d h le =
    let e = ap number_of (drop_here bits at d h le) in
    omega (arith, e)

-- up to 8 bits are a character
pub char_small : (bits : List Bit) (at : ℕ) → length bits ≤ 8 → number_of (drop at bits) ≤ 255
char_small bits at h = omega (arith, number_of_small (drop at bits), pow_mono {i = length (drop at bits)} {j = 8} (omega (arith, length-drop at bits)))

chars_short : (bits : List Bit) → length bits < 8 → chars_of bits ≡ []
chars_short [] h = refl
chars_short (a ∷ []) h = refl
chars_short (a ∷ b ∷ []) h = refl
chars_short (a ∷ b ∷ c ∷ []) h = refl
chars_short (a ∷ b ∷ c ∷ d ∷ []) h = refl
chars_short (a ∷ b ∷ c ∷ d ∷ e ∷ []) h = refl
chars_short (a ∷ b ∷ c ∷ d ∷ e ∷ f ∷ []) h = refl
chars_short (a ∷ b ∷ c ∷ d ∷ e ∷ f ∷ g ∷ []) h = refl
chars_short (a ∷ b ∷ c ∷ d ∷ e ∷ f ∷ g ∷ i ∷ bits) h = absurd (omega arith)

chars_next : (bits : List Bit) → 8 ≤ length bits → chars_of bits ≡ chars_of (drop 8 bits) ++ number_of (take 8 bits) ∷ []
chars_next [] h = absurd (omega arith)
chars_next (a ∷ []) h = absurd (omega arith)
chars_next (a ∷ b ∷ []) h = absurd (omega arith)
chars_next (a ∷ b ∷ c ∷ []) h = absurd (omega arith)
chars_next (a ∷ b ∷ c ∷ d ∷ []) h = absurd (omega arith)
chars_next (a ∷ b ∷ c ∷ d ∷ e ∷ []) h = absurd (omega arith)
chars_next (a ∷ b ∷ c ∷ d ∷ e ∷ f ∷ []) h = absurd (omega arith)
chars_next (a ∷ b ∷ c ∷ d ∷ e ∷ f ∷ g ∷ []) h = absurd (omega arith)
chars_next (a ∷ b ∷ c ∷ d ∷ e ∷ f ∷ g ∷ i ∷ bits) h = refl

-- behind the whole characters there is none
pub chars_none : (bits : List Bit) → chars_of (drop (8 * (length bits / 8)) bits) ≡ []
chars_none bits = chars_short (drop (8 * (length bits / 8)) bits) (omega (arith, length-drop (8 * (length bits / 8)) bits))

-- a character below those above it
pub chars_step : (bits : List Bit) (at : ℕ) → 0 < at → at ≤ length bits / 8
    → chars_of (drop (8 * (at - 1)) bits) ≡ chars_of (drop (8 * at) bits) ++ number_of (take 8 (drop (8 * (at - 1)) bits)) ∷ []
chars_step bits at h le =
    let back : List Bit = drop (8 * (at - 1)) bits in
    let here : 8 * (at - 1) + 8 ≡ 8 * at = omega arith in
    let e : drop 8 back ≡ drop (8 * at) bits = drop-drop 8 (8 * (at - 1)) bits ∙ ap (λ n. drop n bits) here in
    chars_next back (omega (arith, length-drop (8 * (at - 1)) bits)) ∙ ap (λ rest. chars_of rest ++ number_of (take 8 back) ∷ []) e
