-- How many calls of each kind there are.
use Rattle.std.specs.Prelude.{ℕ, ◌+◌, List, [], ◌∷◌, if◌then◌else◌}
use Rattle.std.specs.Str.{bytes_eq}
use Rattle.result_cache.specs.declared.call.Act.{Act}
use Rattle.result_cache.specs.declared.call.Act.TheVariants.{Hit, Busy, Yours, Fill, GiveBack, Forget}
use Rattle.result_cache.specs.declared.call.Call.{Call}

-- a claim counts as one, and no other call counts
abbrev pub claims : Act → ℕ
claims (Hit number) = 1
claims (Busy by) = 1
claims Yours = 1
claims (Fill number) = 0
claims GiveBack = 0
claims (Forget number) = 0

-- a filling counts as one, and no other call counts
abbrev pub fills : Act → ℕ
fills (Hit number) = 0
fills (Busy by) = 0
fills Yours = 0
fills (Fill number) = 1
fills GiveBack = 0
fills (Forget number) = 0

-- a giving back counts as one, and no other call counts
abbrev pub give_backs : Act → ℕ
give_backs (Hit number) = 0
give_backs (Busy by) = 0
give_backs Yours = 0
give_backs (Fill number) = 0
give_backs GiveBack = 1
give_backs (Forget number) = 0

-- a value that is given up counts as one, and no other call counts
abbrev pub drops : Act → ℕ
drops (Hit number) = 0
drops (Busy by) = 0
drops Yours = 0
drops (Fill number) = 0
drops GiveBack = 0
drops (Forget number) = 1

-- how many of the calls count
abbrev pub count_of : (Act → ℕ) → List Call → ℕ
count_of counts [] = 0
count_of counts (c ∷ calls) = counts c.act + count_of counts calls

-- how many of the calls on a key count
abbrev pub times_of : (Act → ℕ) → List ℕ → List Call → ℕ
times_of counts key [] = 0
times_of counts key (c ∷ calls) = (if bytes_eq c.key key then counts c.act else 0) + times_of counts key calls
