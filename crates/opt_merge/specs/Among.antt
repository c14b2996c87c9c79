-- Places among others.
use Rattle.std.specs.Prelude.{ℕ, List}
use Rattle.net_model.specs.Lists.{In}

-- each of these places is one of those
abbrev pub AreAmong : List ℕ → List ℕ → Type 0
AreAmong places others = (at : ℕ) → In at places → In at others
