-- Counters of builds.
use Rattle.std.proofs.Common.{◌≡◌, ℕ, ◌+◌, ◌-◌, ◌^◌, ◌≤◌, List, [], min, max, ap, subst, sym, ◌∙◌, arith}
use Rattle.rtl_bits.specs.Counts.{risen}
use Rattle.result_cache.specs.Seats.{Seated}
use Rattle.build_crew.specs.Kept.{given_back}
use Rattle.build_crew.specs.Rises.{RisesUpTo}
use Rattle.desk_core.specs.Builds.{BuildsOrReturns, HasClaims}

held : (m a b last : ℕ) → min (min (m + a) (max m last) + b) (max (min (m + a) (max m last)) last) ≡ min (m + (a + b)) (max m last)
held m a b last = omega arith

risen_twice : (m a b : ℕ) → risen (risen m a) b ≡ risen m (a + b)
risen_twice m a b = held m a b (2 ^ 64 - 1)

pub risen_none : (m : ℕ) → m ≡ risen m 0
risen_none m = omega arith

-- a counter that stayed
pub rises_none : (most m n : ℕ) → n ≡ m → RisesUpTo most m n
rises_none most m n same = record { steps = 0; few = omega arith; risen = same ∙ risen_none m }

-- one step
pub rises_once : (m n : ℕ) → n ≡ risen m 1 → RisesUpTo 1 m n
rises_once m n is = record { steps = 1; few = omega arith; risen = is }

-- one rise after another
pub rises_more : (a b c m n o : ℕ) → RisesUpTo a m n → RisesUpTo b n o → a + b ≤ c → RisesUpTo c m o
rises_more a b c m n o f g le = record {
  steps = f.steps + g.steps;
  few = omega (arith, f.few, g.few, le);
  risen = g.risen ∙ ap (λ (k : ℕ). risen k g.steps) f.risen ∙ risen_twice m f.steps g.steps;
}

pub rises_within : (a b m n : ℕ) → RisesUpTo a m n → a ≤ b → RisesUpTo b m n
rises_within a b m n f le = record { steps = f.steps; few = omega (arith, f.few, le); risen = f.risen }

-- seats that made no call
pub claims_none : (olds news : List Seated) → news ≡ olds → HasClaims [] olds news
claims_none olds news same = subst (HasClaims [] olds) (sym same) (λ key. omega arith)

pub returns_none : (most : ℕ) (olds news : List Seated) (m n : ℕ) → news ≡ olds → n ≡ m → BuildsOrReturns most olds news m n
returns_none most olds news m n seats same = record {
  gave = 0;
  given = let e = ap given_back seats in omega (arith, e);
  ticks = rises_none (most + 0) m n same;
}

-- no ticket was given back
pub returns_built : (most : ℕ) (olds news : List Seated) (m n : ℕ) → given_back news ≡ given_back olds → RisesUpTo most m n → BuildsOrReturns most olds news m n
returns_built most olds news m n same f = record { gave = 0; given = omega (arith, same); ticks = rises_within most (most + 0) m n f (omega arith) }
