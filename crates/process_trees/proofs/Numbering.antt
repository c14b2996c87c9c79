-- Bits by their numbers.
use Rattle.std.proofs.Common.{◌≡◌, ℕ, suc, ◌+◌, ◌<◌, Bool, true, false, List, [], ◌∷◌, length, Some, None, if◌then◌else◌, refl, sym, ap, ◌∙◌, arith, rules}
use Rattle.std.specs.Prelude.{◌||◌, slice_index_or}
use Rattle.rtl_sig.specs.declared.sig.WireBit.{WireBit}
use Rattle.rtl_ir.specs.Signals.{has_bit, same_bit}
use Rattle.process_trees.specs.Numbers.{number_from, number_in}

pub same_equal : (a b : WireBit) → same_bit a b ≡ true → a ≡ b
same_equal a b e = search (rules, e)

pub same_itself : (a : WireBit) → same_bit a a ≡ true
same_itself a = search rules

same_turned : (a b : WireBit) → same_bit b a ≡ same_bit a b
same_turned a b = by (same_bit b a) (same_bit a b) refl refl
  where
    by : (s t : Bool) → same_bit b a ≡ s → same_bit a b ≡ t → s ≡ t
    by true true e f = refl
    by false false e f = refl
    by true false e f = sym (same_itself a) ∙ ap (same_bit a) (sym (same_equal b a e)) ∙ f
    by false true e f = sym (e) ∙ ap (same_bit b) (same_equal a b f) ∙ same_itself b

-- of two tests one is met
either_left : (s t : Bool) → s ≡ true → (s || t) ≡ true
either_left true t e = refl
either_left false t e = absurd cc

either_right : (s t : Bool) → t ≡ true → (s || t) ≡ true
either_right true t e = refl
either_right false t e = e

neither : (s t : Bool) → s ≡ false → t ≡ false → (s || t) ≡ false
neither true t e f = absurd cc
neither false t e f = f

-- a bit that has a number stands at that place
pub record StandsAt (first : ℕ) (cs : List WireBit) (b : WireBit) (k : ℕ) : Type 0 where
  pub at : ℕ
  pub is : k ≡ first + at
  pub below : at < length cs
  pub value : (other : WireBit) → slice_index_or cs at other ≡ b
  pub among : has_bit cs b ≡ true

pub stands : (first : ℕ) (cs : List WireBit) (b : WireBit) (k : ℕ) → number_from first cs b ≡ Some k → StandsAt first cs b k
stands first [] b k e = absurd cc
stands first (c ∷ cs) b k e = by (same_bit c b) refl (stands (first + 1) cs b k) e
  where
    by : (t : Bool) → same_bit c b ≡ t → (number_from (first + 1) cs b ≡ Some k → StandsAt (first + 1) cs b k) → (if t then Some first else number_from (first + 1) cs b) ≡ Some k → StandsAt first (c ∷ cs) b k
    by true same rest g =
        let equal : c ≡ b = same_equal c b same in
        record { at = 0; is = let h : first ≡ k = cc in omega (arith, h); below = omega arith; value = λ other. equal; among = either_left (same_bit b c) (has_bit cs b) (same_turned c b ∙ same) }
    by false same rest g =
        let r = rest g in
        record { at = suc r.at; is = let h = r.is in omega (arith, h); below = let h = r.below in omega (arith, h); value = r.value; among = either_right (same_bit b c) (has_bit cs b) r.among }

-- of these bits one with a number stands at that place
pub stands_at : (bits : List WireBit) (b : WireBit) (k : ℕ) → number_in bits b ≡ Some k → (k < length bits) × ((other : WireBit) → slice_index_or bits k other ≡ b) × (has_bit bits b ≡ true)
stands_at bits b k e =
    let at = stands 0 bits b k e in
    let same : at.at ≡ k = let h = at.is in omega (arith, h) in
    (let h = at.below in omega (arith, same, h), λ other. ap (λ n. slice_index_or bits n other) (sym same) ∙ at.value other, at.among)

-- a bit that has none is none of them
pub unnumbered : (first : ℕ) (cs : List WireBit) (b : WireBit) → number_from first cs b ≡ None → has_bit cs b ≡ false
unnumbered first [] b e = refl
unnumbered first (c ∷ cs) b e = by (same_bit c b) refl (unnumbered (first + 1) cs b) e
  where
    by : (t : Bool) → same_bit c b ≡ t → (number_from (first + 1) cs b ≡ None → has_bit cs b ≡ false) → (if t then Some first else number_from (first + 1) cs b) ≡ None → has_bit (c ∷ cs) b ≡ false
    by true same rest g = absurd cc
    by false same rest g = neither (same_bit b c) (has_bit cs b) (same_turned c b ∙ same) (rest g)

-- one of them has a number
pub numbered : (first : ℕ) (cs : List WireBit) (b : WireBit) → has_bit cs b ≡ true → (k : ℕ) × (number_from first cs b ≡ Some k)
numbered first [] b e = absurd cc
numbered first (c ∷ cs) b e = by (same_bit c b) refl (numbered (first + 1) cs b)
  where
    rest : (s t : Bool) → s ≡ false → (s || t) ≡ true → t ≡ true
    rest true t f e = absurd cc
    rest false t f e = e

    by : (t : Bool) → same_bit c b ≡ t → (has_bit cs b ≡ true → (k : ℕ) × (number_from (first + 1) cs b ≡ Some k)) → (k : ℕ) × ((if t then Some first else number_from (first + 1) cs b) ≡ Some k)
    by true same more = (first, refl)
    by false same more = more (rest (same_bit b c) (has_bit cs b) (same_turned c b ∙ same) e)
