-- How many states a machine may have.
use Rattle.std.proofs.Common.{◌≡◌, ℕ, ◌<◌, false}
use Rattle.std.specs.Prelude.{nat_le}
use Rattle.std.proofs.lemmas.Bool.{and_right, lt-leb}
use Rattle.fsm_find.specs.Starts.{is_count}

pub many_states : (n : ℕ) → 64 < n → is_count n ≡ false
many_states n h = and_right (nat_le 2 n) (nat_le n 64) (lt-leb n 64 h)
