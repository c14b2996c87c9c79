-- How much of an input was taken: up to its limit, and one byte past it.
use Rattle.std.proofs.Common.{◌≡◌, ℕ, ◌+◌, ◌≤◌, List, [], ◌++◌, Option, Some, None, length, sym, refl, subst, append-nil, arith, length-append}
use Rattle.std.specs.Io.KnownBytes.{Consumes, Keeps}
use Rattle.std.proofs.KnownBytes.{Consumes-trans}
use Rattle.synth_io.specs.declared.input.TheConstants.{LIMIT}
use Rattle.synth_io.specs.Taking.{TakesAtMost, TakesJust}

pub consumes_none : (left : Option (List ℕ)) → Consumes left left []
consumes_none None = tt
consumes_none (Some bytes) = refl

pub consumes_kept : (left rest : Option (List ℕ)) → Keeps left rest → Consumes left rest []
consumes_kept None rest h = tt
consumes_kept (Some bytes) None h = absurd h
consumes_kept (Some bytes) (Some more) h = sym h

-- so many bytes were taken
module _ (bytes : List ℕ) (left rest behind : Option (List ℕ)) (count : ℕ) (taken : Consumes left rest bytes) (size : length bytes ≡ count) where
  -- and no more
  pub took_kept : count ≤ LIMIT → Keeps rest behind → TakesAtMost (LIMIT + 1) left behind
  took_kept within kept = (
    bytes,
    subst (Consumes left behind) (append-nil bytes) (Consumes-trans left rest behind bytes [] taken (consumes_kept rest behind kept)),
    omega (arith, size, within),
  )

  -- bytes within the limit more
  pub took_more : (piece : List ℕ) (more : ℕ) → Consumes rest behind piece → length piece ≡ more → count + more ≤ LIMIT → TakesAtMost (LIMIT + 1) left behind
  took_more piece more read long within =
      (bytes ++ piece, Consumes-trans left rest behind bytes piece taken read, omega (arith, length-append bytes piece, size, long, within))

  -- one byte past it
  pub took_past : count ≡ LIMIT → TakesJust 1 rest behind → TakesAtMost (LIMIT + 1) left behind
  took_past full past =
      (bytes ++ past.0, Consumes-trans left rest behind bytes past.0 taken past.1, omega (arith, length-append bytes past.0, size, full, past.2))
