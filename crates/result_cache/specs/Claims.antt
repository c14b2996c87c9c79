-- Replies of a shard.
use Rattle.std.specs.Prelude.{◌≡◌, ℕ, List, Option, Some, None}
use Rattle.result_cache.specs.declared.call.Act.TheVariants.{Hit, Busy, Yours, Forget}
use Rattle.result_cache.specs.declared.shard.Claim as claim
use Rattle.result_cache.specs.declared.shard.Claim.TheVariants as reply
use Rattle.result_cache.specs.declared.shard.Forget as forget
use Rattle.result_cache.specs.declared.shard.Forget.TheVariants as answer
use Rattle.result_cache.specs.History.{Mode, free, held, filled}
use Rattle.result_cache.specs.Stored.{Contents, value_at, mode_at, AddsCall}

-- the seat that holds a key of this mode, where one does
abbrev pub holder_of : Mode ℕ → Option ℕ
holder_of free = None
holder_of (held seat) = Some seat
holder_of (filled number) = None

-- the reply to a claim, with the call that it is: the kept value where the key is filled, the holder's number where it is held, and the seat's ticket where it is free
abbrev pub Claimed : {V : Type 0} → Contents V → Contents V → ℕ → List ℕ → claim.Claim V → Type 0
Claimed old new seat key (reply.Hit value) = (number : ℕ) × (mode_at old key ≡ filled number) × (value_at old key ≡ Some value) × AddsCall old new seat key (Hit number)
Claimed old new seat key (reply.Busy by) = (mode_at old key ≡ held by) × AddsCall old new seat key (Busy by)
Claimed old new seat key (reply.Yours ticket) = (mode_at old key ≡ free) × (ticket.seat ≡ seat) × (ticket.key ≡ key) × AddsCall old new seat key Yours

-- so is the value of a reply that hands one out
abbrev pub IfHit : {V : Type 0} → claim.Claim V → (V → Type 0) → Type 0
IfHit (reply.Hit value) P = P value
IfHit (reply.Busy by) P = Unit {0}
IfHit (reply.Yours ticket) P = Unit {0}

-- the answer to giving up the value of a key: the kept value where the key is filled, with the call that this is; where the key is free, or held by the seat that the answer names, nothing changes
abbrev pub Forgot : {V : Type 0} → Contents V → Contents V → ℕ → List ℕ → forget.Forget V → Type 0
Forgot old new seat key (answer.Dropped value) = (number : ℕ) × (mode_at old key ≡ filled number) × (value_at old key ≡ Some value) × AddsCall old new seat key (Forget number)
Forgot old new seat key answer.Free = (mode_at old key ≡ free) × (new ≡ old)
Forgot old new seat key (answer.Busy by) = (mode_at old key ≡ held by) × (new ≡ old)

-- P holds of the value that an answer hands out
abbrev pub IfDropped : {V : Type 0} → forget.Forget V → (V → Type 0) → Type 0
IfDropped (answer.Dropped value) P = P value
IfDropped answer.Free P = Unit {0}
IfDropped (answer.Busy by) P = Unit {0}
