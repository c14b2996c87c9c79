-- States in their order: rising as numbers, each of those that were given and no others.
use Rattle.std.proofs.Common.{◌≡◌, ◌<◌, ℕ, zero, suc, Bool, true, false, cond, List, [], ◌∷◌, Some, None, ◌⊎◌, inl, inr, ⊎_elim, refl, sym, ap, subst, arith}
use Rattle.std.specs.Prelude.{◌==◌, nat_lt, slice_get}
use Rattle.std.proofs.lemmas.Bool.{eqb-true}
use Rattle.std.proofs.lemmas.Bool.Decides.{nat_tests}
use Rattle.rtl_bits.specs.Numbers.{number_of}
use Rattle.rtl_bits.specs.declared.bit.Bit.{Bit}
use Rattle.net_model.specs.Fsm.Find.{in_state_order, place_state}
use Rattle.net_model.specs.Lists.{In}

-- a number is below those of all states
abbrev IsBelowAll : ℕ → List (List Bit) → Type 0
IsBelowAll n [] = Unit {0}
IsBelowAll n (s ∷ states) = (n < number_of s) × IsBelowAll n states

abbrev AreRising : List (List Bit) → Type 0
AreRising [] = Unit {0}
AreRising (s ∷ states) = IsBelowAll (number_of s) states × AreRising states

below_more : (n m : ℕ) (states : List (List Bit)) → n < m → IsBelowAll m states → IsBelowAll n states
below_more n m [] lt h = tt
below_more n m (s ∷ states) lt h = (omega (arith, lt, h.0), below_more n m states lt h.1)

below_placed : (n : ℕ) (s : List Bit) (states : List (List Bit)) → n < number_of s → IsBelowAll n states → IsBelowAll n (place_state s states)
below_placed n s [] lt h = (lt, tt)
below_placed n s (t ∷ states) lt h = by (below_placed n s states lt h.1) (number_of s == number_of t) (nat_lt (number_of s) (number_of t))
  where
    by : IsBelowAll n (place_state s states) → (a b : Bool) → IsBelowAll n (cond a (t ∷ states) (cond b (s ∷ t ∷ states) (t ∷ place_state s states)))
    by later true b = h
    by later false true = (lt, h)
    by later false false = (h.0, later)

less : (a b : ℕ) → nat_lt a b ≡ true → a < b
less a b e = grind (arith, nat_tests, e)

more : (a b : ℕ) → (a == b) ≡ false → nat_lt a b ≡ false → b < a
more a b e f = grind (arith, nat_tests, e, f)

placed_rising : (s : List Bit) (states : List (List Bit)) → AreRising states → AreRising (place_state s states)
placed_rising s [] h = (tt, tt)
placed_rising s (t ∷ states) h = by (placed_rising s states h.1) (number_of s == number_of t) refl (nat_lt (number_of s) (number_of t)) refl
  where
    by : AreRising (place_state s states) → (a : Bool) → (number_of s == number_of t) ≡ a → (b : Bool) → nat_lt (number_of s) (number_of t) ≡ b → AreRising (cond a (t ∷ states) (cond b (s ∷ t ∷ states) (t ∷ place_state s states)))
    by later true e b f = h
    by later false e true f =
        let lt : number_of s < number_of t = less (number_of s) (number_of t) f in
        ((lt, below_more (number_of s) (number_of t) states lt h.0), h)
    by later false e false f =
        let lt : number_of t < number_of s = more (number_of s) (number_of t) e f in
        (below_placed (number_of t) s states lt h.0, later)

order_rising : (states : List (List Bit)) → AreRising (in_state_order states)
order_rising [] = tt
order_rising (s ∷ states) = placed_rising s (in_state_order states) (order_rising states)

above_first : (n : ℕ) (states : List (List Bit)) → IsBelowAll n states → (i : ℕ) (r : List Bit) → slice_get states i ≡ Some r → n < number_of r
above_first n [] h i r e = absurd (cc)
above_first n (s ∷ states) h zero r e = let same : s ≡ r = cc in subst (λ z. n < number_of z) same h.0
above_first n (s ∷ states) h (suc i) r e = above_first n states h.1 i r e

rising_apart : (states : List (List Bit)) → AreRising states → (i j : ℕ) (s r : List Bit) → slice_get states i ≡ Some s → slice_get states j ≡ Some r → number_of s ≡ number_of r → i ≡ j
rising_apart [] h i j s r e f n = absurd (cc)
rising_apart (t ∷ states) h zero zero s r e f n = refl
rising_apart (t ∷ states) h zero (suc j) s r e f n =
    let same : t ≡ s = cc in
    let lt : number_of t < number_of r = above_first (number_of t) states h.0 j r f in
    let equal : number_of t ≡ number_of s = ap number_of same in
    absurd (omega (arith, lt, equal, n))
rising_apart (t ∷ states) h (suc i) zero s r e f n =
    let same : t ≡ r = cc in
    let lt : number_of t < number_of s = above_first (number_of t) states h.0 i s e in
    let equal : number_of t ≡ number_of r = ap number_of same in
    absurd (omega (arith, lt, equal, n))
rising_apart (t ∷ states) h (suc i) (suc j) s r e f n = ap suc (rising_apart states h.1 i j s r e f n)

-- two states of one number are one
pub order_apart : (states : List (List Bit)) (i j : ℕ) (s r : List Bit) → slice_get (in_state_order states) i ≡ Some s → slice_get (in_state_order states) j ≡ Some r → number_of s ≡ number_of r → i ≡ j
order_apart states = rising_apart (in_state_order states) (order_rising states)

placed_from : (s : List Bit) (states : List (List Bit)) (i : ℕ) (r : List Bit) → slice_get (place_state s states) i ≡ Some r → (r ≡ s) ⊎ ((j : ℕ) × (slice_get states j ≡ Some r))
placed_from s [] zero r e = let same : s ≡ r = cc in inl (sym same)
placed_from s [] (suc i) r e = absurd (cc)
placed_from s (t ∷ states) i r e = by (placed_from s states) (number_of s == number_of t) (nat_lt (number_of s) (number_of t)) i e
  where
    by : ((k : ℕ) (q : List Bit) → slice_get (place_state s states) k ≡ Some q → (q ≡ s) ⊎ ((j : ℕ) × (slice_get states j ≡ Some q))) → (a b : Bool) (k : ℕ) → slice_get (cond a (t ∷ states) (cond b (s ∷ t ∷ states) (t ∷ place_state s states))) k ≡ Some r → (r ≡ s) ⊎ ((j : ℕ) × (slice_get (t ∷ states) j ≡ Some r))
    by later true b k f = inr (k, f)
    by later false true zero f = let same : s ≡ r = cc in inl (sym same)
    by later false true (suc k) f = inr (k, f)
    by later false false zero f = inr (0, f)
    by later false false (suc k) f = ⊎_elim (λ l. inl l) (λ q. inr (suc q.0, q.1)) (later k r f)

-- each state is one of those that were given
pub order_from : (states : List (List Bit)) (i : ℕ) (r : List Bit) → slice_get (in_state_order states) i ≡ Some r → In r states
order_from [] i r e = absurd (cc)
order_from (s ∷ states) i r e =
    by (order_from states) (placed_from s (in_state_order states) i r e)
  where
    by : ((j : ℕ) (q : List Bit) → slice_get (in_state_order states) j ≡ Some q → In q states) → (r ≡ s) ⊎ ((j : ℕ) × (slice_get (in_state_order states) j ≡ Some r)) → In r (s ∷ states)
    by later (inl f) = inl f
    by later (inr f) = inr (later f.0 r f.1)

-- a state of the number of each that was given
pub record HasNumber (states : List (List Bit)) (n : ℕ) : Type 0 where
  pub place : ℕ
  pub state : List Bit
  pub there : slice_get states place ≡ Some state
  pub number : number_of state ≡ n

placed_has : (s : List Bit) (states : List (List Bit)) → HasNumber (place_state s states) (number_of s)
placed_has s [] = record { place = 0; state = s; there = refl; number = refl }
placed_has s (t ∷ states) = by (placed_has s states) (number_of s == number_of t) refl (nat_lt (number_of s) (number_of t))
  where
    by : HasNumber (place_state s states) (number_of s) → (a : Bool) → (number_of s == number_of t) ≡ a → (b : Bool) → HasNumber (cond a (t ∷ states) (cond b (s ∷ t ∷ states) (t ∷ place_state s states))) (number_of s)
    by later true e b = record { place = 0; state = t; there = refl; number = sym (eqb-true (number_of s) (number_of t) e) }
    by later false e true = record { place = 0; state = s; there = refl; number = refl }
    by later false e false = record { place = suc later.place; state = later.state; there = later.there; number = later.number }

placed_keeps : (s : List Bit) (states : List (List Bit)) (n : ℕ) → HasNumber states n → HasNumber (place_state s states) n
placed_keeps s [] n h = absurd (none h.there)
  where
    none : (e : None ≡ Some h.state) → ⊥
    none e = cc
placed_keeps s (t ∷ states) n h =
    by (λ k there. placed_keeps s states n (record { place = k; state = h.state; there = there; number = h.number })) (number_of s == number_of t) (nat_lt (number_of s) (number_of t)) h.place h.there
  where
    by : ((k : ℕ) → slice_get states k ≡ Some h.state → HasNumber (place_state s states) n) → (a b : Bool) (k : ℕ) → slice_get (t ∷ states) k ≡ Some h.state → HasNumber (cond a (t ∷ states) (cond b (s ∷ t ∷ states) (t ∷ place_state s states))) n
    by later true b k e = record { place = k; state = h.state; there = e; number = h.number }
    by later false true k e = record { place = suc k; state = h.state; there = e; number = h.number }
    by later false false zero e = record { place = 0; state = h.state; there = e; number = h.number }
    by later false false (suc k) e =
        let found = later k e in
        record { place = suc found.place; state = found.state; there = found.there; number = found.number }

pub order_has : (states : List (List Bit)) (s : List Bit) → In s states → HasNumber (in_state_order states) (number_of s)
order_has [] s i = absurd i
order_has (t ∷ states) s (inl e) = subst (λ z. HasNumber (place_state t (in_state_order states)) (number_of z)) (sym e) (placed_has t (in_state_order states))
order_has (t ∷ states) s (inr i) = placed_keeps t (in_state_order states) (number_of s) (order_has states s i)
