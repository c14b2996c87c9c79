-- The bits of words that are moved, place by place.
use Rattle.std.proofs.Common.{◌≡◌, ◌<◌, ◌≤◌, ℕ, zero, suc, ◌+◌, ◌-◌, ◌*◌, ◌^◌, Bool, true, false, inl, inr, refl, sym, ◌∙◌, ap, arith}
use Rattle.std.specs.Prelude.{if◌then◌else◌, nat_lt}
use Rattle.std.proofs.Math.Nat.{pow-succ'}
use Rattle.std.proofs.lemmas.Bool.{cases_lt}
use Rattle.std.proofs.lemmas.Bool.Decides.{nat_tests}
use Rattle.rtl_bits.specs.Knowledge.{AreKnown, Below, IsKnown}
use Rattle.rtl_bits.specs.Numbers.{digit_of, number_of}
use Rattle.rtl_bits.specs.Tables.{mux_of, seen_of}
use Rattle.rtl_bits.specs.declared.bit.Bit.{Bit}
use Rattle.rtl_bits.specs.declared.bit.Bit.TheVariants.{S0, S1, X, Z, M, Dash}
use Rattle.gate_nets.proofs.Adding.{low_of}
use Rattle.map_shift.specs.declared.moves.Way.{Way}
use Rattle.map_shift.specs.declared.moves.Way.TheVariants.{Left, Right}

-- the bit at a place of a word of a width that is moved by so many places
abbrev pub moved_at : Way → Bit → ℕ → ℕ → (ℕ → Bit) → ℕ → Bit
moved_at Left fill width n v at = if nat_lt at n then fill else v (at - n)
moved_at Right fill width n v at = if nat_lt (at + n) width then v (at + n) else fill

-- the same where the bit of a distance at a place is 1
abbrev pub stepped : Way → Bit → ℕ → ℕ → (ℕ → Bit) → Bit → ℕ → Bit
stepped way fill width place v c at = mux_of (v at) (moved_at way fill width (2 ^ place) v at) c

-- the same by so many bits of a distance, from a place on
abbrev pub worked : Way → Bit → ℕ → ℕ → (ℕ → Bit) → (ℕ → Bit) → ℕ → ℕ → Bit
worked way fill width place v w zero = v
worked way fill width place v w (suc n) = worked way fill width (place + 1) (stepped way fill width place v (w 0)) (λ i. w (suc i)) n

-- two bits are the same as cells read them
abbrev pub Alike : Bit → Bit → Type 0
Alike a b = seen_of a ≡ seen_of b

pub below_alike : (a b y : Bit) → Alike a b → Below a y → Below b y
below_alike S0 S0 y e h = h
below_alike S1 S1 y e h = h
below_alike S0 S1 y e h = absurd (let f : S0 ≡ S1 = e in cc)
below_alike S1 S0 y e h = absurd (let f : S1 ≡ S0 = e in cc)
below_alike X S0 y e h = absurd (let f : X ≡ S0 = e in cc)
below_alike Z S0 y e h = absurd (let f : X ≡ S0 = e in cc)
below_alike M S0 y e h = absurd (let f : X ≡ S0 = e in cc)
below_alike Dash S0 y e h = absurd (let f : X ≡ S0 = e in cc)
below_alike X S1 y e h = absurd (let f : X ≡ S1 = e in cc)
below_alike Z S1 y e h = absurd (let f : X ≡ S1 = e in cc)
below_alike M S1 y e h = absurd (let f : X ≡ S1 = e in cc)
below_alike Dash S1 y e h = absurd (let f : X ≡ S1 = e in cc)
below_alike a X y e h = tt
below_alike a Z y e h = tt
below_alike a M y e h = tt
below_alike a Dash y e h = tt

seen_again : (a : Bit) → seen_of (seen_of a) ≡ seen_of a
seen_again S0 = refl
seen_again S1 = refl
seen_again X = refl
seen_again Z = refl
seen_again M = refl
seen_again Dash = refl

-- what is below a bit is below what a cell reads of it
pub below_seen : (a y : Bit) → Below a y → Below (seen_of a) y
below_seen a y h = below_alike a (seen_of a) y (sym (seen_again a)) h

pub alike_first : (a b : Bit) → Alike (mux_of a b S0) a
alike_first a b = seen_again a

pub alike_second : (a b : Bit) → Alike (mux_of a b S1) b
alike_second a b = seen_again b

test_true : (m n : ℕ) → m < n → nat_lt m n ≡ true
test_true m n h = grind (arith, nat_tests)

test_false : (m n : ℕ) → n ≤ m → nat_lt m n ≡ false
test_false m n h = grind (arith, nat_tests)

-- the bit at a place by whether it is filled
pub left_filled : (fill : Bit) (width n : ℕ) (v : ℕ → Bit) (at : ℕ) → at < n → moved_at Left fill width n v at ≡ fill
left_filled fill width n v at h = ap (λ t. if t then fill else v (at - n)) (test_true at n h)

pub left_kept : (fill : Bit) (width n : ℕ) (v : ℕ → Bit) (at : ℕ) → n ≤ at → moved_at Left fill width n v at ≡ v (at - n)
left_kept fill width n v at h = ap (λ t. if t then fill else v (at - n)) (test_false at n h)

pub right_filled : (fill : Bit) (width n : ℕ) (v : ℕ → Bit) (at : ℕ) → width ≤ at + n → moved_at Right fill width n v at ≡ fill
right_filled fill width n v at h = ap (λ t. if t then v (at + n) else fill) (test_false (at + n) width h)

pub right_kept : (fill : Bit) (width n : ℕ) (v : ℕ → Bit) (at : ℕ) → at + n < width → moved_at Right fill width n v at ≡ v (at + n)
right_kept fill width n v at h = ap (λ t. if t then v (at + n) else fill) (test_true (at + n) width h)

-- no move at all
none_moved : (way : Way) (fill : Bit) (width : ℕ) (v : ℕ → Bit) (at : ℕ) → at < width → moved_at way fill width 0 v at ≡ v at
none_moved Left fill width v at h = left_kept fill width 0 v at (omega arith) ∙ ap v (let e : at - 0 ≡ at = omega arith in e)
none_moved Right fill width v at h = right_kept fill width 0 v at (omega arith) ∙ ap v (let e : at + 0 ≡ at = omega arith in e)

-- one move after another
moved_twice : (way : Way) (fill : Bit) (width m n : ℕ) (v : ℕ → Bit) (at : ℕ) → moved_at way fill width m (moved_at way fill width n v) at ≡ moved_at way fill width (m + n) v at
moved_twice Left fill width m n v at = elim (cases_lt at m) [
  | inl h ↦ left_filled fill width m (moved_at Left fill width n v) at h ∙ sym (left_filled fill width (m + n) v at (omega arith))
  | inr h ↦ left_kept fill width m (moved_at Left fill width n v) at h ∙ elim (cases_lt (at - m) n) [
    | inl k ↦ left_filled fill width n v (at - m) k ∙ sym (left_filled fill width (m + n) v at (omega arith))
    | inr k ↦ left_kept fill width n v (at - m) k ∙ ap v (let e : at - m - n ≡ at - (m + n) = omega arith in e) ∙ sym (left_kept fill width (m + n) v at (omega arith))
  ]
]
moved_twice Right fill width m n v at = elim (cases_lt (at + m) width) [
  | inl h ↦ right_kept fill width m (moved_at Right fill width n v) at h ∙ elim (cases_lt (at + m + n) width) [
    | inl k ↦ right_kept fill width n v (at + m) k ∙ ap v (let e : at + m + n ≡ at + (m + n) = omega arith in e) ∙ sym (right_kept fill width (m + n) v at (omega arith))
    | inr k ↦ right_filled fill width n v (at + m) k ∙ sym (right_filled fill width (m + n) v at (omega arith))
  ]
  | inr h ↦ right_filled fill width m (moved_at Right fill width n v) at h ∙ sym (right_filled fill width (m + n) v at (omega arith))
]

-- bits that are alike stay so where they are moved
moved_alike : (way : Way) (fill : Bit) (width n : ℕ) (u v : ℕ → Bit) (at : ℕ) → ((i : ℕ) → Alike (u i) (v i)) → Alike (moved_at way fill width n u at) (moved_at way fill width n v at)
moved_alike Left fill width n u v at h = by (nat_lt at n)
  where
    by : (t : Bool) → Alike (if t then fill else u (at - n)) (if t then fill else v (at - n))
    by true = refl
    by false = h (at - n)
moved_alike Right fill width n u v at h = by (nat_lt (at + n) width)
  where
    by : (t : Bool) → Alike (if t then u (at + n) else fill) (if t then v (at + n) else fill)
    by true = h (at + n)
    by false = refl

-- a known bit of a distance moves by what it stands for
step_moves : (way : Way) (fill : Bit) (width place m : ℕ) (v : ℕ → Bit) (c : Bit) (at : ℕ) → IsKnown c
    → Alike (moved_at way fill width m (stepped way fill width place v c) at) (moved_at way fill width (m + 2 ^ place * digit_of c) v at)
step_moves way fill width place m v S0 at k =
    let e : m ≡ m + 2 ^ place * 0 = omega arith in
    moved_alike way fill width m (stepped way fill width place v S0) v at (λ i. alike_first (v i) (moved_at way fill width (2 ^ place) v i))
    ∙ ap (λ z. seen_of (moved_at way fill width z v at)) e
step_moves way fill width place m v S1 at k =
    let e : m + 2 ^ place ≡ m + 2 ^ place * 1 = omega arith in
    moved_alike way fill width m (stepped way fill width place v S1) (moved_at way fill width (2 ^ place) v) at (λ i. alike_second (v i) (moved_at way fill width (2 ^ place) v i))
    ∙ ap seen_of (moved_twice way fill width m (2 ^ place) v at)
    ∙ ap (λ z. seen_of (moved_at way fill width z v at)) e
step_moves way fill width place m v X at k = absurd k
step_moves way fill width place m v Z at k = absurd k
step_moves way fill width place m v M at k = absurd k
step_moves way fill width place m v Dash at k = absurd k

doubled : (p q d n : ℕ) → q ≡ 2 * p → q * n + p * d ≡ p * (d + 2 * n)
doubled p q d n e = ap (λ z. z * n + p * d) e ∙ grind arith

-- a word moved by the bits of a known distance is moved by its number
pub worked_moves : (way : Way) (fill : Bit) (width place : ℕ) (v w : ℕ → Bit) (n at : ℕ) → at < width → AreKnown (low_of w n)
    → Alike (worked way fill width place v w n at) (moved_at way fill width (2 ^ place * number_of (low_of w n)) v at)
worked_moves way fill width place v w zero at h k =
    let e : 0 ≡ 2 ^ place * 0 = omega arith in
    ap seen_of (sym (none_moved way fill width v at h)) ∙ ap (λ z. seen_of (moved_at way fill width z v at)) e
worked_moves way fill width place v w (suc n) at h k =
    let rest : ℕ = number_of (low_of (λ i. w (suc i)) n) in
    let p : 2 ^ (place + 1) ≡ 2 * 2 ^ place = ap (λ z. 2 ^ z) (let e : place + 1 ≡ suc place = omega arith in e) ∙ pow-succ' 2 place in
    worked_moves way fill width (place + 1) (stepped way fill width place v (w 0)) (λ i. w (suc i)) n at h k.1
    ∙ step_moves way fill width place (2 ^ (place + 1) * rest) v (w 0) at k.0
    ∙ ap (λ z. seen_of (moved_at way fill width z v at)) (doubled (2 ^ place) (2 ^ (place + 1)) (digit_of (w 0)) rest p)
