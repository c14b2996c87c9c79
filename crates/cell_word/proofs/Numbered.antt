-- Parts by their numbers: the part that bits choose, half by half, and the bits of a part in which a word is put.
use Rattle.std.proofs.Common.{◌≡◌, refl, sym, ◌∙◌, ap, ℕ, zero, suc, ◌+◌, ◌*◌, ◌/◌, ◌%◌, ◌^◌, ◌<◌, ◌≤◌, Bool, true, false, ◌&&◌, List, [], ◌∷◌, ◌++◌, length, map, Option, Some, None, add-one, arith}
use Rattle.std.specs.Prelude.{if◌then◌else◌, ◌==◌}
use Rattle.std.specs.Option.{unwrap_or}
use Rattle.std.proofs.Math.Nat.{pow-suc}
use Rattle.std.proofs.Math.Pow.{pow_mono}
use Rattle.rtl_bits.specs.declared.bit.Bit.{Bit}
use Rattle.rtl_bits.specs.declared.bit.Bit.TheVariants.{S0, S1, X, Z, M, Dash}
use Rattle.rtl_bits.specs.Knowledge.{all_known, is_known}
use Rattle.rtl_bits.specs.Tables.{seen_of, merge_of, not_of, and_of, mux_of}
use Rattle.cell_word.specs.Parts.{may_be, may_be_digit, merged_with, merge_where, placed_bit, placed_parts}

-- one place more
pub merge_where_more : (test : ℕ → Bool) (f : ℕ → Bit) (n : ℕ) → merge_where test f (n + 1) ≡ (if test n then Some (merged_with (merge_where test f n) (f n)) else merge_where test f n)
merge_where_more test f n = rw add-one refl

pub placed_parts_more : (a s : List Bit) (n : ℕ) → placed_parts a s (n + 1) ≡ placed_parts a s n ++ map (placed_bit s n) a
placed_parts_more a s n = rw add-one refl

same_low : (c : Bit) → merge_of S0 c ≡ merge_of S0 (merge_of S0 c)
same_low S0 = refl
same_low S1 = refl
same_low X = refl
same_low Z = refl
same_low M = refl
same_low Dash = refl

same_high : (c : Bit) → merge_of S1 c ≡ merge_of S1 (merge_of S1 c)
same_high S0 = refl
same_high S1 = refl
same_high X = refl
same_high Z = refl
same_high M = refl
same_high Dash = refl

mixed_low : (c : Bit) → X ≡ merge_of S0 (merge_of S1 c)
mixed_low S0 = refl
mixed_low S1 = refl
mixed_low X = refl
mixed_low Z = refl
mixed_low M = refl
mixed_low Dash = refl

mixed_high : (c : Bit) → X ≡ merge_of S1 (merge_of S0 c)
mixed_high S0 = refl
mixed_high S1 = refl
mixed_high X = refl
mixed_high Z = refl
mixed_high M = refl
mixed_high Dash = refl

merge_assoc : (a b c : Bit) → merge_of (merge_of a b) c ≡ merge_of a (merge_of b c)
merge_assoc S0 S0 c = same_low c
merge_assoc S0 S1 c = mixed_low c
merge_assoc S0 X c = refl
merge_assoc S0 Z c = refl
merge_assoc S0 M c = refl
merge_assoc S0 Dash c = refl
merge_assoc S1 S0 c = mixed_high c
merge_assoc S1 S1 c = same_high c
merge_assoc S1 X c = refl
merge_assoc S1 Z c = refl
merge_assoc S1 M c = refl
merge_assoc S1 Dash c = refl
merge_assoc X b c = refl
merge_assoc Z b c = refl
merge_assoc M b c = refl
merge_assoc Dash b c = refl

low_seen : (b : Bit) → merge_of S0 b ≡ merge_of S0 (seen_of b)
low_seen S0 = refl
low_seen S1 = refl
low_seen X = refl
low_seen Z = refl
low_seen M = refl
low_seen Dash = refl

high_seen : (b : Bit) → merge_of S1 b ≡ merge_of S1 (seen_of b)
high_seen S0 = refl
high_seen S1 = refl
high_seen X = refl
high_seen Z = refl
high_seen M = refl
high_seen Dash = refl

merge_seen : (a b : Bit) → merge_of a b ≡ merge_of a (seen_of b)
merge_seen S0 b = low_seen b
merge_seen S1 b = high_seen b
merge_seen X b = refl
merge_seen Z b = refl
merge_seen M b = refl
merge_seen Dash b = refl

seen_seen : (b : Bit) → seen_of b ≡ seen_of (seen_of b)
seen_seen S0 = refl
seen_seen S1 = refl
seen_seen X = refl
seen_seen Z = refl
seen_seen M = refl
seen_seen Dash = refl

low_plain : (b : Bit) → merge_of S0 (seen_of b) ≡ seen_of (merge_of S0 b)
low_plain S0 = refl
low_plain S1 = refl
low_plain X = refl
low_plain Z = refl
low_plain M = refl
low_plain Dash = refl

high_plain : (b : Bit) → merge_of S1 (seen_of b) ≡ seen_of (merge_of S1 b)
high_plain S0 = refl
high_plain S1 = refl
high_plain X = refl
high_plain Z = refl
high_plain M = refl
high_plain Dash = refl

merge_plain : (a b : Bit) → merge_of (seen_of a) (seen_of b) ≡ seen_of (merge_of a b)
merge_plain S0 b = low_plain b
merge_plain S1 b = high_plain b
merge_plain X b = refl
merge_plain Z b = refl
merge_plain M b = refl
merge_plain Dash b = refl

-- what two bits have in common, of which either may be missing
abbrev join : Option Bit → Option Bit → Option Bit
join None b = b
join (Some a) None = Some a
join (Some a) (Some b) = Some (merge_of a b)

join_none : (a : Option Bit) → a ≡ join a None
join_none None = refl
join_none (Some a) = refl

join_assoc : (a b c : Option Bit) → join (join a b) c ≡ join a (join b c)
join_assoc None b c = refl
join_assoc (Some a) None c = refl
join_assoc (Some a) (Some b) None = refl
join_assoc (Some a) (Some b) (Some c) = ap Some (merge_assoc a b c)

with_joined : (m : Option Bit) (b : Bit) → Some (merged_with m b) ≡ join m (Some (seen_of b))
with_joined None b = refl
with_joined (Some a) b = ap Some (merge_seen a b)

-- what the first of some bits have in common
abbrev gathered : (ℕ → Option Bit) → ℕ → Option Bit
gathered g zero = None
gathered g (suc n) = join (gathered g n) (g n)

-- the bits at whose places a test holds
abbrev kept : (ℕ → Bool) → (ℕ → Bit) → ℕ → Option Bit
kept test f n = if test n then Some (seen_of (f n)) else None

merged_gathered : (test : ℕ → Bool) (f : ℕ → Bit) (n : ℕ) → merge_where test f n ≡ gathered (kept test f) n
merged_gathered test f zero = refl
merged_gathered test f (suc n) = by (test n) (merge_where test f n) (gathered (kept test f) n) (f n) (merged_gathered test f n)
  where
    by : (t : Bool) (m g : Option Bit) (b : Bit) → m ≡ g → (if t then Some (merged_with m b) else m) ≡ join g (if t then Some (seen_of b) else None)
    by true m g b e = with_joined m b ∙ ap (λ z. join z (Some (seen_of b))) e
    by false m g b e = e ∙ join_none g

-- two bits at a time
doubled : (g : ℕ → Option Bit) (n : ℕ) → gathered g (n + n) ≡ gathered (λ p. join (g (p + p)) (g (p + p + 1))) n
doubled g zero = refl
doubled g (suc n) =
    let two : suc n + suc n ≡ suc (suc (n + n)) = omega arith in
    let one : suc (n + n) ≡ n + n + 1 = omega arith in
    ap (gathered g) two
    ∙ join_assoc (gathered g (n + n)) (g (n + n)) (g (suc (n + n)))
    ∙ (λ i. join (doubled g n i) (join (g (n + n)) (g (one i))))

-- the part that a bit chooses of two
pair_chosen : (b : Bit) (t : Bool) (x y : Bit) → join (if may_be_digit b 0 && t then Some (seen_of x) else None) (if may_be_digit b 1 && t then Some (seen_of y) else None) ≡ (if t then Some (seen_of (mux_of x y b)) else None)
pair_chosen S0 true x y = ap Some (seen_seen x)
pair_chosen S0 false x y = refl
pair_chosen S1 true x y = ap Some (seen_seen y)
pair_chosen S1 false x y = refl
pair_chosen X true x y = ap Some (merge_plain x y)
pair_chosen X false x y = refl
pair_chosen Z true x y = ap Some (merge_plain x y)
pair_chosen Z false x y = refl
pair_chosen M true x y = ap Some (merge_plain x y)
pair_chosen M false x y = refl
pair_chosen Dash true x y = ap Some (merge_plain x y)
pair_chosen Dash false x y = refl

-- the part that bits choose, the lowest first: each bit chooses between two neighbours
abbrev pub halved_of : (ℕ → Bit) → List Bit → Bit
halved_of f [] = seen_of (f 0)
halved_of f (b ∷ s) = halved_of (λ p. mux_of (f (p + p)) (f (p + p + 1)) b) s

even_digit : (p : ℕ) → (p + p) % 2 ≡ 0
even_digit p = omega arith

even_half : (p : ℕ) → (p + p) / 2 ≡ p
even_half p = omega arith

odd_digit : (p : ℕ) → (p + p + 1) % 2 ≡ 1
odd_digit p = omega arith

odd_half : (p : ℕ) → (p + p + 1) / 2 ≡ p
odd_half p = omega arith

pairs_kept : (f : ℕ → Bit) (b : Bit) (s : List Bit) (p : ℕ)
    → join (kept (may_be (b ∷ s)) f (p + p)) (kept (may_be (b ∷ s)) f (p + p + 1)) ≡ kept (may_be s) (λ p. mux_of (f (p + p)) (f (p + p + 1)) b) p
pairs_kept f b s p =
    (λ i.
    join (if may_be_digit b (even_digit p i) && may_be s (even_half p i) then Some (seen_of (f (p + p))) else None)
    (if may_be_digit b (odd_digit p i) && may_be s (odd_half p i) then Some (seen_of (f (p + p + 1))) else None))
    ∙ pair_chosen b (may_be s p) (f (p + p)) (f (p + p + 1))

gathered_halved : (s : List Bit) (f : ℕ → Bit) → gathered (kept (may_be s) f) (2 ^ length s) ≡ Some (halved_of f s)
gathered_halved [] f = refl
gathered_halved (b ∷ s) f =
    let two : 2 ^ length (b ∷ s) ≡ 2 ^ length s + 2 ^ length s = omega (arith, pow-suc 2 (length s)) in
    ap (gathered (kept (may_be (b ∷ s)) f)) two
    ∙ doubled (kept (may_be (b ∷ s)) f) (2 ^ length s)
    ∙ (λ i. gathered (λ p. pairs_kept f b s p i) (2 ^ length s))
    ∙ gathered_halved s (λ p. mux_of (f (p + p)) (f (p + p + 1)) b)

-- what those parts have in common whose numbers the bits may be is the part that they choose half by half
pub merged_halved : (s : List Bit) (f : ℕ → Bit) → unwrap_or (merge_where (may_be s) f (2 ^ length s)) X ≡ halved_of f s
merged_halved s f = ap (λ o. unwrap_or o X) (merged_gathered (may_be s) f (2 ^ length s) ∙ gathered_halved s f)

-- 1 where a bit is a digit, 0 where it is the other one, else x
abbrev pub hit_of : Bit → ℕ → Bit
hit_of b digit = if digit == 1 then seen_of b else not_of b

-- 1 where bits are a number, 0 where a known one differs from the number's, else x
abbrev pub hits_of : List Bit → ℕ → Bit
hits_of [] n = S1
hits_of (b ∷ s) n = and_of (hit_of b (n % 2)) (hits_of s (n / 2))

-- so much is known of a number of which bits may be it, and are it where all are known
abbrev sure : Bool → Bool → Bit
sure t u = if t then (if u then S1 else X) else S0

one_hit : (b : Bit) (d : ℕ) (t u : Bool) → d < 2 → and_of (hit_of b d) (sure t u) ≡ sure (may_be_digit b d && t) (is_known b && u)
one_hit S0 zero true true lt = refl
one_hit S0 zero true false lt = refl
one_hit S0 zero false true lt = refl
one_hit S0 zero false false lt = refl
one_hit S0 (suc zero) true true lt = refl
one_hit S0 (suc zero) true false lt = refl
one_hit S0 (suc zero) false true lt = refl
one_hit S0 (suc zero) false false lt = refl
one_hit S0 (suc (suc d)) t u lt = absurd (omega arith)
one_hit S1 zero true true lt = refl
one_hit S1 zero true false lt = refl
one_hit S1 zero false true lt = refl
one_hit S1 zero false false lt = refl
one_hit S1 (suc zero) true true lt = refl
one_hit S1 (suc zero) true false lt = refl
one_hit S1 (suc zero) false true lt = refl
one_hit S1 (suc zero) false false lt = refl
one_hit S1 (suc (suc d)) t u lt = absurd (omega arith)
one_hit X zero true true lt = refl
one_hit X zero true false lt = refl
one_hit X zero false true lt = refl
one_hit X zero false false lt = refl
one_hit X (suc zero) true true lt = refl
one_hit X (suc zero) true false lt = refl
one_hit X (suc zero) false true lt = refl
one_hit X (suc zero) false false lt = refl
one_hit X (suc (suc d)) t u lt = absurd (omega arith)
one_hit Z zero true true lt = refl
one_hit Z zero true false lt = refl
one_hit Z zero false true lt = refl
one_hit Z zero false false lt = refl
one_hit Z (suc zero) true true lt = refl
one_hit Z (suc zero) true false lt = refl
one_hit Z (suc zero) false true lt = refl
one_hit Z (suc zero) false false lt = refl
one_hit Z (suc (suc d)) t u lt = absurd (omega arith)
one_hit M zero true true lt = refl
one_hit M zero true false lt = refl
one_hit M zero false true lt = refl
one_hit M zero false false lt = refl
one_hit M (suc zero) true true lt = refl
one_hit M (suc zero) true false lt = refl
one_hit M (suc zero) false true lt = refl
one_hit M (suc zero) false false lt = refl
one_hit M (suc (suc d)) t u lt = absurd (omega arith)
one_hit Dash zero true true lt = refl
one_hit Dash zero true false lt = refl
one_hit Dash zero false true lt = refl
one_hit Dash zero false false lt = refl
one_hit Dash (suc zero) true true lt = refl
one_hit Dash (suc zero) true false lt = refl
one_hit Dash (suc zero) false true lt = refl
one_hit Dash (suc zero) false false lt = refl
one_hit Dash (suc (suc d)) t u lt = absurd (omega arith)

hits_sure : (s : List Bit) (n : ℕ) → hits_of s n ≡ sure (may_be s n) (all_known s)
hits_sure [] n = refl
hits_sure (b ∷ s) n =
    ap (and_of (hit_of b (n % 2))) (hits_sure s (n / 2)) ∙ one_hit b (n % 2) (may_be s (n / 2)) (all_known s) (omega arith)

pub and_assoc : (a b c : Bit) → and_of a (and_of b c) ≡ and_of (and_of a b) c
and_assoc S0 b c = refl
and_assoc S1 S0 c = refl
and_assoc S1 S1 S0 = refl
and_assoc S1 S1 S1 = refl
and_assoc S1 S1 c = refl
and_assoc S1 b S0 = refl
and_assoc S1 b S1 = refl
and_assoc S1 b c = refl
and_assoc a S0 c = refl
and_assoc a S1 S0 = refl
and_assoc a S1 S1 = refl
and_assoc a S1 c = refl
and_assoc a b S0 = refl
and_assoc a b S1 = refl
and_assoc a b c = refl

one_and : (b : Bit) → seen_of b ≡ and_of S1 b
one_and S0 = refl
one_and S1 = refl
one_and X = refl
one_and Z = refl
one_and M = refl
one_and Dash = refl

-- a bit in a part is the and of that with the bit
pub placed_hits : (s : List Bit) (n : ℕ) (b : Bit) → placed_bit s n b ≡ and_of (hits_of s n) b
placed_hits s n b = by (may_be s n) (all_known s) ∙ ap (λ h. and_of h b) (sym (hits_sure s n))
  where
    by : (t u : Bool) → (if t then (if u then seen_of b else and_of X b) else S0) ≡ and_of (sure t u) b
    by true true = one_and b
    by true false = refl
    by false u = refl

-- few bits have few numbers
pub few_numbers : (n : ℕ) → n ≤ 12 → 1 * 2 ^ n % 2 ^ 64 ≤ 4096
few_numbers n few =
    let all : 2 ^ n ≤ 2 ^ 12 = pow_mono {i = n} {j = 12} few in
    omega arith
