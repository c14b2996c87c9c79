-- What the jobs of a crew do to the seats of their workers, by the calls that the seats make.
use Rattle.std.specs.Prelude.{◌≡◌, ℕ, ◌≤◌, List, ◌++◌, Bool, false, if◌then◌else◌}
use Rattle.std.specs.Str.{bytes_eq}
use Rattle.result_cache.specs.declared.call.Act.{Act}
use Rattle.result_cache.specs.declared.call.Act.TheVariants.{Hit}
use Rattle.result_cache.specs.declared.call.Call.{Call}
use Rattle.result_cache.specs.declared.shard.Ticket.{Ticket}
use Rattle.result_cache.specs.Counts.{claims, fills, give_backs, drops, count_of, times_of}
use Rattle.result_cache.specs.Seats.{Seated, seen_of}
use Rattle.result_cache.specs.Shared.{StartsWith}
use Rattle.result_cache.specs.Tickets.{HoldsNoTicket, HoldsOnly}
use Rattle.build_crew.specs.declared.ask.Asked.{Asked}
use Rattle.build_crew.specs.declared.ask.Asked.TheVariants as asked

-- 1 where it is so
abbrev pub one_if : Bool → ℕ
one_if b = if b then 1 else 0

-- a claim that is answered with a value counts as one, and no other call counts
abbrev pub hits : Act → ℕ
hits (Hit number) = 1
hits other = 0

-- a seat made these calls more, and is the same seat; it forgot nothing of what it had seen
pub record MadeMore (old new : Seated) (more : List Call) : Type 0 where
  pub cache : new.cache ≡ old.cache
  pub number : new.number ≡ old.number
  pub callers : new.callers ≡ old.callers
  pub shards : new.shards ≡ old.shards
  pub calls : new.calls ≡ old.calls ++ more
  pub grows : (i : ℕ) → StartsWith (seen_of new i) (seen_of old i)

-- no key was filled, none given back, and no value given up
pub record SpendsNone (calls : List Call) : Type 0 where
  pub filled : (key : List ℕ) → times_of fills key calls ≡ 0
  pub dropped : (key : List ℕ) → times_of drops key calls ≡ 0
  pub gave : count_of give_backs calls ≡ 0

-- no other key than this one was claimed
abbrev pub ClaimsOnly : List ℕ → List Call → Type 0
ClaimsOnly key calls = (q : List ℕ) → bytes_eq key q ≡ false → times_of claims q calls ≡ 0

-- a seat asks for a key, and has no ticket so far
pub record IsAsking (key : List ℕ) (old new : Seated) : Type 0 where
  pub more : List Call
  pub made : MadeMore old new more
  pub none : SpendsNone more
  pub only : ClaimsOnly key more
  pub idle : HoldsNoTicket new.calls

-- a seat asked for a key and has its ticket
pub record HasAsked (key : List ℕ) (old new : Seated) (ticket : Ticket) : Type 0 where
  pub more : List Call
  pub made : MadeMore old new more
  pub none : SpendsNone more
  pub claimed : 1 ≤ times_of claims key more
  pub only : ClaimsOnly key more
  pub own : ticket.seat ≡ new.number
  pub key_is : ticket.key ≡ key
  pub one : HoldsOnly key new.calls

-- a seat found the value of a key: it filled the key, with one tick, where the value is new, or else a claim of it was
-- answered with the value, with no tick; it claimed and filled no other key, gave no ticket back, and gave up no value
pub record HasFound (key : List ℕ) (is_new : Bool) (old new : Seated) (n : ℕ) : Type 0 where
  pub more : List Call
  pub made : MadeMore old new more
  pub claimed : 1 ≤ times_of claims key more
  pub only : ClaimsOnly key more
  pub filled : (q : List ℕ) → times_of fills q more ≡ (if is_new then one_if (bytes_eq key q) else 0)
  pub dropped : (q : List ℕ) → times_of drops q more ≡ 0
  pub hit : is_new ≡ false → 1 ≤ times_of hits key more
  pub gave : count_of give_backs more ≡ 0
  pub ticks : n ≡ one_if is_new

-- the answer to a seat that asked for a key: its value, or its ticket
abbrev pub IsAnswered : {V : Type 0} → (V → List ℕ → Type 0) → Seated → Seated → List ℕ → Asked V → Type 0
IsAnswered stands_for old new key (asked.Hit value) =
    stands_for value key × HoldsNoTicket new.calls × HasFound key false old new 0
IsAnswered stands_for old new key (asked.Yours ticket) = HasAsked key old new ticket

-- a seat did not find a value, for want of memory: it filled no key and gave up no value, and made at most one tick for a
-- ticket that it gave back
pub record HasFailed (old new : Seated) (n : ℕ) : Type 0 where
  pub more : List Call
  pub made : MadeMore old new more
  pub filled : (key : List ℕ) → times_of fills key more ≡ 0
  pub dropped : (key : List ℕ) → times_of drops key more ≡ 0
  pub ticks : n ≤ count_of give_backs more

module _ {O : Type 0} (key_of : ℕ → List ℕ) (new_of : O → Bool) where
  -- a job with this output found the value of the key of its number
  abbrev pub Does : ℕ → O → Seated → Seated → ℕ → Type 0
  Does number output old new n = HasFound (key_of number) (new_of output) old new n

  -- a job found no value
  abbrev pub Fails : ℕ → Seated → Seated → ℕ → Type 0
  Fails number old new n = HasFailed old new n
