-- Tests over lists of bits, and what stands in them.
use Rattle.std.proofs.Common.{◌≡◌, ℕ, zero, suc, Bool, true, false, ◌||◌, if◌then◌else◌, List, [], ◌∷◌, length, inl, inr, ⊎_elim, refl, sym, ap, subst, arith}
use Rattle.std.specs.Prelude.{◌⊎◌, filter}
use Rattle.std.specs.List.{list_any}
use Rattle.rtl_ir.specs.Rules.{without_bit}
use Rattle.rtl_ir.specs.Signals.{has_bit, same_bit, wire_bits}
use Rattle.rtl_sig.specs.declared.sig.SigBit.{SigBit}
use Rattle.rtl_sig.specs.declared.sig.SigBit.TheVariants.{Fixed, Wire as OnWire}
use Rattle.rtl_sig.specs.declared.sig.WireBit.{WireBit}
use Rattle.pass_laws.proofs.Once.{same_bit-refl, same_bit-true}
use Rattle.net_model.specs.Lists.{In}

-- either of two
pub either : (x y : Bool) → (x || y) ≡ true → (x ≡ true) ⊎ (y ≡ true)
either true y e = inl refl
either false y e = inr e

pub left_or : (x y : Bool) → x ≡ true → (x || y) ≡ true
left_or x y e = λ i. e i || y

pub right_or : (x y : Bool) → y ≡ true → (x || y) ≡ true
right_or true y e = refl
right_or false y e = e

-- a test that an item passes is passed by one
pub any_in : {A : Type 0} (test : A → Bool) (x : A) (xs : List A) → In x xs → test x ≡ true → list_any test xs ≡ true
any_in test x [] i e = absurd i
any_in test x (y ∷ xs) (inl same) e = left_or (test y) (list_any test xs) (subst (λ z. test z ≡ true) same e)
any_in test x (y ∷ xs) (inr i) e = right_or (test y) (list_any test xs) (any_in test x xs i e)

-- where one item passes a test, and what passes it passes another, one passes the other
pub any_keeps : {A : Type 0} (test other : A → Bool) → ((x : A) → test x ≡ true → other x ≡ true) → (xs : List A) → list_any test xs ≡ true → list_any other xs ≡ true
any_keeps test other f [] e = absurd (cc)
any_keeps test other f (x ∷ xs) e =
    ⊎_elim
    (λ l. left_or (other x) (list_any other xs) (f x l))
    (λ r. right_or (other x) (list_any other xs) (any_keeps test other f xs r))
    (either (test x) (list_any test xs) e)

-- a bit that is found stands there
pub has_in : (bits : List WireBit) (b : WireBit) → has_bit bits b ≡ true → In b bits
has_in [] b e = absurd (cc)
has_in (c ∷ bits) b e =
    ⊎_elim (λ l. inl (same_bit-true b c l)) (λ r. inr (has_in bits b r)) (either (same_bit b c) (has_bit bits b) e)

pub in_has : (bits : List WireBit) (b : WireBit) → In b bits → has_bit bits b ≡ true
in_has bits b i = any_in (same_bit b) b bits i (same_bit-refl b)

-- a wire's bit of a signal
pub wire_in : (signal : List SigBit) (b : WireBit) → In (OnWire b) signal → In b (wire_bits signal)
wire_in [] b i = absurd i
wire_in (Fixed c ∷ signal) b (inl e) = absurd (cc)
wire_in (Fixed c ∷ signal) b (inr i) = wire_in signal b i
wire_in (OnWire c ∷ signal) b (inl e) = inl (let same : b ≡ c = cc in same)
wire_in (OnWire c ∷ signal) b (inr i) = inr (wire_in signal b i)

-- the bits without one of them
pub without_long : (b : WireBit) (bits : List WireBit) (n : ℕ) → In b bits → length bits ≡ suc n → length (without_bit b bits) ≡ n
without_long b [] n i e = absurd i
without_long b (c ∷ bits) n i e = by (same_bit b c) refl (without_long b bits) n i e
  where
    none : (xs : List WireBit) → In b xs → length xs ≡ 0 → ⊥
    none [] k l = k
    none (x ∷ xs) k l = absurd (omega (arith, l))

    by : (t : Bool) → same_bit b c ≡ t → ((k : ℕ) → In b bits → length bits ≡ suc k → length (without_bit b bits) ≡ k) → (k : ℕ) → In b (c ∷ bits) → length (c ∷ bits) ≡ suc k → length (if t then bits else c ∷ without_bit b bits) ≡ k
    by true f later k j long = omega (arith, long)
    by false f later k (inl same) long =
        absurd (let g : same_bit b c ≡ true = subst (λ z. same_bit b z ≡ true) same (same_bit-refl b) in cc)
    by false f later zero (inr j) long = absurd (none bits j (omega (arith, long)))
    by false f later (suc k) (inr j) long = ap suc (later k j (omega (arith, long)))

pub without_in : (b d : WireBit) (bits : List WireBit) → same_bit b d ≡ false → In d bits → In d (without_bit b bits)
without_in b d [] other i = absurd i
without_in b d (c ∷ bits) other i = by (same_bit b c) refl (without_in b d bits other) i
  where
    by : (t : Bool) → same_bit b c ≡ t → (In d bits → In d (without_bit b bits)) → In d (c ∷ bits) → In d (if t then bits else c ∷ without_bit b bits)
    by true f later (inl same) = absurd (let g : same_bit b d ≡ true = subst (λ z. same_bit b z ≡ true) (sym same) f in cc)
    by true f later (inr j) = j
    by false f later (inl same) = inl same
    by false f later (inr j) = inr (later j)

-- what passes a test stands among what passes it
pub filter_in : {A : Type 0} (test : A → Bool) (x : A) (xs : List A) → In x xs → test x ≡ true → In x (filter test xs)
filter_in test x [] i e = absurd i
filter_in test x (y ∷ xs) i e = by (test y) refl (filter_in test x xs) i
  where
    by : (t : Bool) → test y ≡ t → (In x xs → test x ≡ true → In x (filter test xs)) → In x (y ∷ xs) → In x (if t then y ∷ filter test xs else filter test xs)
    by true f later (inl same) = inl same
    by true f later (inr j) = inr (later j e)
    by false f later (inl same) = absurd (let g : test y ≡ true = subst (λ z. test z ≡ true) same e in cc)
    by false f later (inr j) = later j e
