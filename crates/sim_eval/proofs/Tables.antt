-- Tables by number and tables by bit.
use Rattle.std.proofs.Common.{◌≡◌, ℕ, zero, suc, ◌<◌, Bool, true, false, cond, List, [], ◌∷◌, length, get_or, set, replicate, refl, sym, ◌∙◌, ap, subst, arith}
use Rattle.rtl_bits.specs.declared.bit.Bit.TheVariants.{X}
use Rattle.rtl_ir.specs.Flat.Place.{Place, place_same}
use Rattle.flat_net.specs.Points.{place_at, AreApart}
use Rattle.net_model.proofs.Places.{place_same-same}
use Rattle.sim_eval.specs.Shown.{found, shown}

-- a bit is the same as itself
pub same_itself : (p : Place) → place_same p p ≡ true
same_itself p = (place_same-same p p).1 refl

pub apart_rest : (p : Place) (ps : List Place) → AreApart (p ∷ ps) → AreApart ps
apart_rest p ps h i j l k e = omega (arith, h (suc i) (suc j) (omega arith) (omega arith) e)

-- the first bit is none of the others
pub apart_first : (p : Place) (ps : List Place) → AreApart (p ∷ ps) → (n : ℕ) → n < length ps → place_same p (place_at ps n) ≡ true → ⊥
apart_first p ps h n l e =
    let same : 0 ≡ suc n = h 0 (suc n) (omega arith) (omega arith) ((place_same-same p (place_at ps n)).0 e) in
    omega arith

module _ {A : Type 0} (d : A) where
  -- a table says of the bit of a number what stands at the number
  pub found_at : (ps : List Place) (table : List A) (n : ℕ) → AreApart ps → length ps ≡ length table → n < length ps → found d ps table (place_at ps n) ≡ get_or table n d
  found_at [] table n h e l = absurd (omega arith)
  found_at (p ∷ ps) [] n h e l = absurd (omega arith)
  found_at (p ∷ ps) (a ∷ table) zero h e l = ap (λ t. cond t a (found d ps table p)) (same_itself p)
  found_at (p ∷ ps) (a ∷ table) (suc n) h e l =
      elim (place_same p (place_at ps n)) as (λ t. place_same p (place_at ps n) ≡ t → cond t a (found d ps table (place_at ps n)) ≡ get_or table n d) [
        | true ↦ λ t. absurd (apart_first p ps h n (omega arith) t)
        | false ↦ λ t. found_at ps table n (apart_rest p ps h) (omega arith) (omega arith)
      ] refl

  -- a table in which something else stands at a number
  pub found_set : (ps : List Place) (table : List A) (n : ℕ) (a : A) (q : Place) → AreApart ps → length ps ≡ length table → n < length ps → found d ps (set table n a) q ≡ cond (place_same (place_at ps n) q) a (found d ps table q)
  found_set [] table n a q h e l = absurd (omega arith)
  found_set (p ∷ ps) [] n a q h e l = absurd (omega arith)
  found_set (p ∷ ps) (b ∷ table) zero a q h e l =
      elim (place_same p q) as (λ t. cond t a (found d ps table q) ≡ cond t a (cond t b (found d ps table q))) [ true ↦ refl | false ↦ refl ]
  found_set (p ∷ ps) (b ∷ table) (suc n) a q h e l =
      by (found_set ps table n a q (apart_rest p ps h) (omega arith) (omega arith)) (place_same p q) refl (place_same (place_at ps n) q) refl
    where
      by : found d ps (set table n a) q ≡ cond (place_same (place_at ps n) q) a (found d ps table q) → (s : Bool) → place_same p q ≡ s → (t : Bool) → place_same (place_at ps n) q ≡ t → cond (place_same p q) b (found d ps (set table n a) q) ≡ cond (place_same (place_at ps n) q) a (cond (place_same p q) b (found d ps table q))
      by rest true f true g =
          absurd (apart_first p ps h n (omega arith) (subst (λ z. place_same p z ≡ true) (sym ((place_same-same (place_at ps n) q).0 g)) f))
      by rest true f false g =
          ap (λ s. cond s b (found d ps (set table n a) q)) f ∙ sym (ap (λ t. cond t a (cond (place_same p q) b (found d ps table q))) g ∙ ap (λ s. cond s b (found d ps table q)) f)
      by rest false f t g =
          ap (λ s. cond s b (found d ps (set table n a) q)) f ∙ (rest ∙ sym (ap (λ s. cond (place_same (place_at ps n) q) a (cond s b (found d ps table q))) f))

-- where all numbered bits are x, all bits are
pub shown_unknown : (ps : List Place) (n : ℕ) (q : Place) → shown ps (replicate n X) q ≡ X
shown_unknown [] n q = refl
shown_unknown (p ∷ ps) zero q = refl
shown_unknown (p ∷ ps) (suc n) q =
    elim (place_same p q) as (λ t. cond t X (shown ps (replicate n X) q) ≡ X) [ true ↦ refl | false ↦ shown_unknown ps n q ]
