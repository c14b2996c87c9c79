-- Callers of a cache.
use Rattle.std.specs.Prelude.{◌≡◌}
use Rattle.atomic_table.specs.Seated.{TableId}
use Rattle.result_cache.specs.Seats.{IsIdle}
use Rattle.result_cache.specs.Tickets.{HoldsOnly}
use Rattle.run_table.specs.declared.shared.callers.Caller.{Caller}
use Rattle.run_table.specs.declared.shared.callers.Caller.TheVariants.{Idle, Holding}

-- the seat is of this cache, and has the ticket that stands beside it, or none
abbrev pub IsCaller : TableId → Caller → Type 0
IsCaller cache (Idle seat) = IsIdle cache seat
IsCaller cache (Holding seat ticket key) =
    (seat.cache ≡ cache) × (ticket.seat ≡ seat.number) × (key ≡ ticket.key) × HoldsOnly ticket.key seat.calls
