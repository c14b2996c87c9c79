-- Tickets, as a history has them.
use Rattle.std.specs.Prelude.{◌≡◌, ℕ, ◌+◌, List, [], ◌∷◌, Bool, true, false, if◌then◌else◌, ◌==◌}
use Rattle.std.specs.Str.{bytes_eq}
use Rattle.result_cache.specs.declared.call.Act.{Act}
use Rattle.result_cache.specs.declared.call.Act.TheVariants.{Hit, Busy, Yours, Fill, GiveBack, Forget}
use Rattle.result_cache.specs.declared.call.Call.{Call}

-- a claim that is answered Yours gives one ticket, and no other call gives any
abbrev pub gives : Act → ℕ
gives Yours = 1
gives (Hit number) = 0
gives (Busy by) = 0
gives (Fill number) = 0
gives GiveBack = 0
gives (Forget number) = 0

-- filling and giving back take one ticket each, and no other call takes any
abbrev pub takes : Act → ℕ
takes Yours = 0
takes (Hit number) = 0
takes (Busy by) = 0
takes (Fill number) = 1
takes GiveBack = 1
takes (Forget number) = 0

-- how many tickets were given out
abbrev pub given : List Call → ℕ
given [] = 0
given (c ∷ calls) = gives c.act + given calls

-- how many tickets came back
abbrev pub returned : List Call → ℕ
returned [] = 0
returned (c ∷ calls) = takes c.act + returned calls

-- the calls of a seat
abbrev pub calls_by : ℕ → List Call → List Call
calls_by seat [] = []
calls_by seat (c ∷ calls) = if c.seat == seat then c ∷ calls_by seat calls else calls_by seat calls

-- whether a seat has the ticket of a key after a call of its own on it, by whether it had it before
abbrev pub ticket_after : Act → Bool → Bool
ticket_after (Hit number) had = had
ticket_after (Busy by) had = had
ticket_after Yours had = true
ticket_after (Fill number) had = false
ticket_after GiveBack had = false
ticket_after (Forget number) had = had

-- whether a seat has the ticket of a key after these calls of its own, by whether it had it before
abbrev pub ticket_from : Bool → List ℕ → List Call → Bool
ticket_from had key [] = had
ticket_from had key (c ∷ calls) = ticket_from (if bytes_eq c.key key then ticket_after c.act had else had) key calls

-- whether a seat that made these calls has the ticket of a key
abbrev pub has_ticket : List Call → List ℕ → Bool
has_ticket calls key = ticket_from false key calls

-- a seat that made these calls has no ticket
abbrev pub HoldsNoTicket : List Call → Type 0
HoldsNoTicket calls = (key : List ℕ) → has_ticket calls key ≡ false

-- a seat that made these calls has the ticket of this key, and no other
abbrev pub HoldsOnly : List ℕ → List Call → Type 0
HoldsOnly key calls = (q : List ℕ) → has_ticket calls q ≡ bytes_eq key q
