-- What the calls of a caller leave.
use Rattle.std.proofs.Common.{◌≡◌, ◌≢◌, ℕ, List, sym, ◌∙◌, subst}
use Rattle.atomic_table.specs.Seated.{TableId}
use Rattle.result_cache.specs.declared.call.Act.TheVariants.{Hit, Busy, Yours}
use Rattle.result_cache.specs.declared.shard.Ticket.{Ticket}
use Rattle.result_cache.specs.Seats.{Seated, HasWaited, IsIdle, KeepsTickets, Made}
use Rattle.result_cache.specs.Tickets.{HoldsNoTicket, HoldsOnly}
use Rattle.result_cache.proofs.Idle.{idle_after_hit, idle_after_busy, idle_kept, one_after_claim}

-- a claim was answered with a ticket
abbrev GotTicket : Seated → Seated → List ℕ → Ticket → Type 0
GotTicket old new key ticket = (ticket.seat ≡ old.number) × (ticket.key ≡ key) × Made old new key Yours

pub yours_own : (old new : Seated) (key : List ℕ) (ticket : Ticket) → GotTicket old new key ticket → ticket.seat ≡ new.number
yours_own old new key ticket c = c.0 ∙ sym c.2.number

pub yours_key : (old new : Seated) (key own : List ℕ) (ticket : Ticket) → own ≡ key → GotTicket old new key ticket → own ≡ ticket.key
yours_key old new key own ticket is c = is ∙ sym c.1

module _ (cache : TableId) where
  pub idle_hit : {P : Type 0} (old new : Seated) (key : List ℕ) → IsIdle cache old → P × ((number : ℕ) × Made old new key (Hit number)) → IsIdle cache new
  idle_hit old new key h c = idle_after_hit cache old new key c.1.0 h c.1.1

  pub idle_busy : (old new : Seated) (key : List ℕ) (by : ℕ) → IsIdle cache old → (by ≢ old.number) × Made old new key (Busy by) → IsIdle cache new
  idle_busy old new key by h c = idle_after_busy cache old new key by h c.1

  pub yours_cache : (old new : Seated) (key : List ℕ) (ticket : Ticket) → IsIdle cache old → GotTicket old new key ticket → new.cache ≡ cache
  yours_cache old new key ticket h c = c.2.cache ∙ h.0

  pub yours_one : (old new : Seated) (key : List ℕ) (ticket : Ticket) → IsIdle cache old → GotTicket old new key ticket → HoldsOnly ticket.key new.calls
  yours_one old new key ticket h c = one_after_claim old new key ticket.key h.1 c.1 c.2

  pub holding_yours : (old new : Seated) (key own : List ℕ) (ticket : Ticket) → IsIdle cache old → own ≡ key → GotTicket old new key ticket
      → (new.cache ≡ cache) × (ticket.seat ≡ new.number) × (own ≡ ticket.key) × HoldsOnly ticket.key new.calls
  holding_yours old new key own ticket h is c = (yours_cache old new key ticket h c, yours_own old new key ticket c, yours_key old new key own ticket is c, yours_one old new key ticket h c)

  pub idle_waited : (old new : Seated) (key : List ℕ) → IsIdle cache old → HasWaited old new key → IsIdle cache new
  idle_waited old new key h w = (w.kept.cache ∙ h.0, subst HoldsNoTicket (sym w.kept.calls) h.1)

  pub still_idle : (old new : Seated) → IsIdle cache old → KeepsTickets old new → IsIdle cache new
  still_idle old new h k = idle_kept cache old new h k

  pub still_holding : (old new : Seated) (own : List ℕ) (ticket : Ticket) → (old.cache ≡ cache) × (ticket.seat ≡ old.number) × (own ≡ ticket.key) × HoldsOnly ticket.key old.calls → KeepsTickets old new
      → (new.cache ≡ cache) × (ticket.seat ≡ new.number) × (own ≡ ticket.key) × HoldsOnly ticket.key new.calls
  still_holding old new own ticket h k = (k.cache ∙ h.0, h.1 ∙ sym k.number, h.2, λ q. k.tickets q ∙ h.3 q)
