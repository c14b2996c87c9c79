-- How much was taken of what a source has left.
use Rattle.std.specs.Prelude.{◌≡◌, ℕ, ◌<◌, ◌≤◌, ◌+◌, List, ◌++◌, length, take}
use Rattle.std.specs.declared.option.Option.{Option}
use Rattle.std.specs.Io.KnownBytes.{Consumes}
use Rattle.synth_io.specs.declared.input.TheConstants.{LIMIT}

-- what was taken is what the list grew by
abbrev pub Moves : Option (List ℕ) → Option (List ℕ) → List ℕ → List ℕ → Type 0
Moves before after old new = (bytes : List ℕ) × Consumes before after bytes × (new ≡ old ++ bytes)

-- at most this many bytes were taken
abbrev pub TakesAtMost : ℕ → Option (List ℕ) → Option (List ℕ) → Type 0
TakesAtMost limit before after = (bytes : List ℕ) × Consumes before after bytes × (length bytes ≤ limit)

-- just this many bytes were taken
abbrev pub TakesJust : ℕ → Option (List ℕ) → Option (List ℕ) → Type 0
TakesJust count before after = (bytes : List ℕ) × Consumes before after bytes × (length bytes ≡ count)

-- the first bytes of a piece were taken, at least one, and with those before them no more than an input may have
pub record IsTaken (before after : Option (List ℕ)) (taken : ℕ) (piece : List ℕ) (count : ℕ) : Type 0 where
  pub some : 0 < count
  pub held : count ≤ length piece
  pub within : taken + count ≤ LIMIT
  pub bytes : Consumes before after (take count piece)
