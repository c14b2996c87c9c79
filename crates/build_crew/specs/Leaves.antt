-- What a crew leaves: the keys that are kept, how many were built, and how often each was claimed.
use Rattle.std.specs.Prelude.{◌≡◌, ℕ, ◌+◌, ◌<◌, ◌≤◌, List, [], ◌∷◌, Bool, length, map}
use Rattle.std.specs.List.{All, range_with_len}
use Rattle.std.specs.Str.{bytes_eq}
use Rattle.atomic_table.specs.Seated.{TableId}
use Rattle.result_cache.specs.declared.call.Call.{Call}
use Rattle.result_cache.specs.Filled.{new_count, with_keys}
use Rattle.result_cache.specs.Counts.{claims}
use Rattle.result_cache.specs.Meet.{HasMet, Share}
use Rattle.result_cache.specs.Seats.{Seated, IsIdle}
use Rattle.work_crew.specs.Outcome.{Finished, Stopped}
use Rattle.build_crew.specs.Calls.{Does, Fails, one_if}
use Rattle.build_crew.specs.Kept.{AreAllSeats, HasStill, kept_by, times_by, given_back}
use Rattle.build_crew.specs.Rises.{RisesUpTo}

-- how often the key stands among these
abbrev pub times_among : List ℕ → List (List ℕ) → ℕ
times_among key [] = 0
times_among key (k ∷ keys) = one_if (bytes_eq k key) + times_among key keys

-- how many of the items are new
abbrev pub new_among : {O : Type 0} → (O → Bool) → List O → ℕ
new_among is_new [] = 0
new_among is_new (x ∷ items) = one_if (is_new x) + new_among is_new items

module _ (keys : List (List ℕ)) where
  -- seats found the values of these keys: those that were not kept were built, each once, and are kept; a key was
  -- claimed at least as often as it stands among them, and no ticket was given back
  pub record HasRun (built : ℕ) (olds news : List Seated) (old now : ℕ) : Type 0 where
    pub built_is : built ≡ new_count (kept_by olds) keys
    pub kept : kept_by news ≡ with_keys (kept_by olds) keys
    pub given : given_back news ≡ given_back olds
    pub ticks : RisesUpTo built old now
    pub claimed : (key : List ℕ) → times_by claims key olds + times_among key keys ≤ times_by claims key news

  -- seats stopped for want of memory: what was kept is kept still, and there were no more builds than keys that were not
  -- kept and tickets that were given back
  pub record HasStopped (olds news : List Seated) (old now : ℕ) : Type 0 where
    pub kept : HasStill (kept_by olds) (kept_by news)
    pub gave : ℕ
    pub given : given_back news ≡ given_back olds + gave
    pub ticks : RisesUpTo (new_count (kept_by olds) keys + gave) old now

-- all seats of a cache of so many shards, which shared one history of each, before a crew's jobs, after them, and once they
-- have met
pub record AreCrew (cache : TableId) (shards : ℕ) (olds mids news : List Seated) : Type 0 where
  pub some : 0 < shards
  pub any : 0 < length olds
  pub all : AreAllSeats cache (length olds) shards 0 olds
  pub shared : Share shards olds
  pub idle : All (IsIdle cache) mids
  pub met : (i : ℕ) → i < shards → (log : List Call) × HasMet i log mids news

module _ {O : Type 0} (key_of : ℕ → List ℕ) (new_of : O → Bool) (count : ℕ) (olds mids news : List Seated)
    (old now : ℕ) where
  -- jobs that find the values of keys were all done: they leave what HasRun says
  abbrev pub RunLeaves : List O → List (List ℕ) → Type 0
  RunLeaves items taken =
      Finished (λ number output. Unit {0}) (Does key_of new_of) count items taken olds mids old now →
      HasRun (map key_of (range_with_len 0 count)) (new_among new_of items) olds news old now

  -- they ended early: they leave what HasStopped says
  abbrev pub StoppedLeaves : Type 0
  StoppedLeaves =
      Stopped (Does key_of new_of) (Fails key_of new_of) count olds mids old now →
      HasStopped (map key_of (range_with_len 0 count)) olds news old now
