-- What a cache does with its keys, one call after another.
use Rattle.std.specs.Prelude.{◌≡◌, ◌≢◌, ℕ, ◌+◌, List, [], ◌∷◌, if◌then◌else◌}
use Rattle.std.specs.Str.{bytes_eq}
use Rattle.result_cache.specs.declared.call.Act.{Act}
use Rattle.result_cache.specs.declared.call.Act.TheVariants.{Hit, Busy, Yours, Fill, GiveBack, Forget}
use Rattle.result_cache.specs.declared.call.Call.{Call}

-- a key is free, or held by a seat, or filled with a value; a history tells a value by its number
pub data Mode (V : Type 0) : Type 0 where
  free : Mode V
  held : ℕ → Mode V
  filled : V → Mode V

-- a key of this mode is filled
abbrev pub IsFilled : {V : Type 0} → Mode V → Type 0
IsFilled free = ⊥
IsFilled (held seat) = ⊥
IsFilled (filled value) = Unit {0}

-- a filled key counts as one, and no other counts
abbrev pub one_if_filled : {V : Type 0} → Mode V → ℕ
one_if_filled free = 0
one_if_filled (held seat) = 0
one_if_filled (filled value) = 1

-- a state gives each key its mode
abbrev pub State : Type 0
State = List ℕ → Mode ℕ

-- at the start each key is free
abbrev pub all_free : State
all_free key = free

-- a call on a key, with its reply
abbrev pub call : ℕ → List ℕ → Act → Call
call seat key act = record { seat = seat; key = key; act = act }

-- a call behind n others may be made by the seat on a key of this mode, and has that reply there: a seat claims what it does not hold, fills or gives back what it holds, and gives up the value of what is filled; a value's number is that of the calls before its filling
abbrev pub IsAllowed : ℕ → ℕ → Act → Mode ℕ → Type 0
IsAllowed n seat (Hit number) mode = mode ≡ filled number
IsAllowed n seat (Busy by) mode = (mode ≡ held by) × (by ≢ seat)
IsAllowed n seat Yours mode = mode ≡ free
IsAllowed n seat (Fill number) mode = (mode ≡ held seat) × (number ≡ n)
IsAllowed n seat GiveBack mode = mode ≡ held seat
IsAllowed n seat (Forget number) mode = mode ≡ filled number

-- the mode of a key after a call on it
abbrev pub mode_after : ℕ → Act → Mode ℕ → Mode ℕ
mode_after seat (Hit number) mode = mode
mode_after seat (Busy by) mode = mode
mode_after seat Yours mode = held seat
mode_after seat (Fill number) mode = filled number
mode_after seat GiveBack mode = free
mode_after seat (Forget number) mode = free

-- the state after a call: all other keys stay as they are
abbrev pub cache_step : State → Call → State
cache_step state c key = if bytes_eq c.key key then mode_after c.seat c.act (state key) else state key

-- the state after calls, from another state
abbrev pub state_from : State → List Call → State
state_from state [] = state
state_from state (c ∷ calls) = state_from (cache_step state c) calls

-- the state after a history
abbrev pub state_after : List Call → State
state_after calls = state_from all_free calls

-- behind n calls, which led to this state, each of these calls is allowed and has its reply
abbrev pub IsLegalFrom : ℕ → State → List Call → Type 0
IsLegalFrom n state [] = Unit {0}
IsLegalFrom n state (c ∷ calls) = IsAllowed n c.seat c.act (state c.key) × IsLegalFrom (n + 1) (cache_step state c) calls

-- a history is legal: from the start, each call is allowed and has its reply
abbrev pub IsLegal : List Call → Type 0
IsLegal calls = IsLegalFrom 0 all_free calls
