-- An object of std, as contracts see it.
use Rattle.std.specs.Prelude.{ℕ, List}
use Rattle.std.specs.declared.option.Option.{Option}

-- the bytes that a reader has left or a writer holds, where it tells them, and how often it has failed
pub record Told : Type 0 where
  pub content : Option (List ℕ)
  pub faults : ℕ
