-- A seat that has the ticket of a key, and spends it.
use Rattle.std.proofs.Common.{◌≡◌, ℕ, List, Bool, true, Result, Ok, Err, refl, sym, subst, ◌∙◌, arith}
use Rattle.std.specs.Result.{IfOk, OnOk, OnErr}
use Rattle.atomic_table.specs.Seated.{TableId}
use Rattle.rtl_bits.specs.Counts.{risen}
use Rattle.result_cache.specs.declared.call.Act.TheVariants.{GiveBack}
use Rattle.result_cache.specs.declared.shard.Ticket.{Ticket}
use Rattle.result_cache.specs.Seats.{Seated, Made, HasFilled, IsIdle}
use Rattle.result_cache.specs.Tickets.{HoldsNoTicket}
use Rattle.result_cache.proofs.Spending.{none_after_fill, none_after_return}
use Rattle.build_crew.specs.declared.finding.Found.{Found}
use Rattle.build_crew.specs.Calls.{HasAsked, HasFound, HasFailed}
use Rattle.build_crew.specs.Rises.{RisesUpTo}
use Rattle.build_crew.proofs.Asking.{asked_filled, asked_given, failed_none}

module _ {X E : Type 0} (cache : TableId) (old mid new : Seated) (key : List ℕ) (ticket : Ticket) where
  -- it has no ticket then
  pub spent_idle : (r : Result X E) → IsIdle cache old → HasAsked key old mid ticket → OnOk r (HasFilled mid new key) → OnErr r (Made mid new key GiveBack) → IsIdle cache new
  spent_idle (Ok x) idle h (number, m) given = (m.cache ∙ h.made.cache ∙ idle.0, subst HoldsNoTicket (sym m.calls) (none_after_fill mid.calls mid.number number key h.one))
  spent_idle (Err e) idle h filled m = (m.cache ∙ h.made.cache ∙ idle.0, subst HoldsNoTicket (sym m.calls) (none_after_return mid.calls mid.number key h.one))

  -- without memory it found no value
  pub spent_failed : (r : Result X E) (before after : ℕ) → HasAsked key old mid ticket → OnErr r (Made mid new key GiveBack) → after ≡ risen before 1
      → OnErr r ((n : ℕ) × (after ≡ risen before n) × HasFailed old new n)
  spent_failed (Ok x) before after h m t = tt
  spent_failed (Err e) before after h m t = (1, t, asked_given old mid new key ticket 1 h m (omega arith))

-- else it found one that is new
pub spent_found : {V E : Type 0} (old mid new : Seated) (key : List ℕ) (ticket : Ticket) (r : Result (Found V) E) (before after : ℕ)
    → HasAsked key old mid ticket → IfOk r (λ found. found.is_new ≡ true) → OnOk r (HasFilled mid new key) → after ≡ risen before 1
    → IfOk r (λ found. (n : ℕ) × (after ≡ risen before n) × HasFound key found.is_new old new n)
spent_found old mid new key ticket (Ok found) before after h is filled t =
    (1, t, subst (λ (b : Bool). HasFound key b old new 1) (sym is) (asked_filled old mid new key ticket 1 h filled refl))
spent_found old mid new key ticket (Err e) before after h is filled t = tt

-- without memory at the start it asked for nothing
pub failed_first : {X E : Type 0} (cache : TableId) (s : Seated) (r : Result X E) (m : ℕ) → IsIdle cache s → OnErr r ((n : ℕ) × (m ≡ risen m n) × HasFailed s s n)
failed_first cache s (Ok x) m idle = tt
failed_first cache s (Err e) m idle = (0, (let same : m ≡ risen m 0 = omega arith in same), failed_none s)

-- a counter that made one step, or none
pub rises_once : (before after : ℕ) → after ≡ risen before 1 → RisesUpTo 1 before after
rises_once before after is = record { steps = 1; few = omega arith; risen = is }

pub rises_none : (before after : ℕ) → after ≡ before → RisesUpTo 1 before after
rises_none before after same = record { steps = 0; few = omega arith; risen = (let e : after ≡ risen before 0 = omega (arith, same) in e) }
