-- Seats that have no ticket.
use Rattle.std.proofs.Common.{◌≡◌, ℕ, zero, suc, ◌+◌, ◌<◌, List, [], ◌∷◌, ◌++◌, length, take, get_or, refl, sym, ap, ◌∙◌, subst, arith}
use Rattle.atomic_table.specs.Seated.{TableId}
use Rattle.result_cache.specs.declared.call.Call.{Call}
use Rattle.result_cache.specs.declared.call.Act.TheVariants.{Hit, Busy, Yours, GiveBack}
use Rattle.result_cache.specs.Tickets.{has_ticket, HoldsNoTicket, HoldsOnly}
use Rattle.result_cache.specs.declared.shard.Forget as forget
use Rattle.result_cache.specs.declared.shard.Forget.TheVariants as answer
use Rattle.result_cache.specs.History.{Mode, free, held}
use Rattle.result_cache.specs.Seats.{Seated, new_seats_from, AreSeatsOf, Made, HasFilled, HasForgot, HasLooked, KeepsTickets, IsIdle, AreIdle}
use Rattle.result_cache.specs.Meet.{HasMet}
use Rattle.result_cache.proofs.Spending.{none_after_hit, none_after_busy, same_after_forget, one_after_yours, none_after_fill, none_after_return}

pub idle_at : (cache : TableId) (seats : List Seated) (i : ℕ) (d : Seated) → AreIdle cache seats → i < length seats → IsIdle cache (get_or seats i d)
idle_at cache [] i d h l = absurd (omega arith)
idle_at cache (s ∷ seats) zero d h l = h.0
idle_at cache (s ∷ seats) (suc i) d h l = idle_at cache seats i d h.1 (omega arith)

pub idle_all : (cache : TableId) (seats : List Seated) → ((i : ℕ) (d : Seated) → i < length seats → IsIdle cache (get_or seats i d)) → AreIdle cache seats
idle_all cache [] h = tt
idle_all cache (s ∷ seats) h = (h 0 s (omega arith), idle_all cache seats (λ i d l. h (suc i) d (omega arith)))

pub idle_new : (cache : TableId) (callers shards n more : ℕ) → AreIdle cache (new_seats_from cache callers shards n more)
idle_new cache callers shards n zero = tt
idle_new cache callers shards n (suc more) = ((refl, λ key. refl), idle_new cache callers shards (n + 1) more)

pub idle_of : (cache : TableId) (seats : List Seated) → AreIdle cache seats → AreSeatsOf cache seats
idle_of cache [] h = tt
idle_of cache (s ∷ seats) h = (h.0.0, idle_of cache seats h.1)

pub idle_met : (cache : TableId) (i : ℕ) (log : List Call) (olds news : List Seated) → HasMet i log olds news → AreIdle cache olds → AreIdle cache news
idle_met cache i log [] [] m h = tt
idle_met cache i log [] (t ∷ news) m h = absurd m
idle_met cache i log (s ∷ olds) [] m h = absurd m
idle_met cache i log (s ∷ olds) (t ∷ news) m h = ((m.0.cache ∙ h.0.0, subst HoldsNoTicket (sym m.0.calls) h.0.1), idle_met cache i log olds news m.3 h.1)

pub idle_last : (cache : TableId) (seats : List Seated) (s : Seated) → AreIdle cache (seats ++ s ∷ []) → IsIdle cache s
idle_last cache [] s h = h.0
idle_last cache (x ∷ seats) s h = idle_last cache seats s h.1

pub idle_but_last : (cache : TableId) (seats : List Seated) (s : Seated) → AreIdle cache (seats ++ s ∷ []) → AreIdle cache seats
idle_but_last cache [] s h = tt
idle_but_last cache (x ∷ seats) s h = (h.0, idle_but_last cache seats s h.1)

-- seats that were lent as a slice
pub idle_front : (cache : TableId) (n : ℕ) (seats more : List Seated) → n ≡ length seats → AreIdle cache seats → AreIdle cache (take n (seats ++ more))
idle_front cache zero [] more e h = tt
idle_front cache (suc n) [] more e h = absurd (omega arith)
idle_front cache zero (s ∷ seats) more e h = absurd (omega arith)
idle_front cache (suc n) (s ∷ seats) more e h = (h.0, idle_front cache n seats more (omega arith) h.1)

-- claims that give no ticket
pub idle_after_hit : (cache : TableId) (old new : Seated) (key : List ℕ) (number : ℕ) → IsIdle cache old → Made old new key (Hit number) → IsIdle cache new
idle_after_hit cache old new key number h m = (m.cache ∙ h.0, subst HoldsNoTicket (sym m.calls) (none_after_hit old.calls old.number number key h.1))

pub idle_after_busy : (cache : TableId) (old new : Seated) (key : List ℕ) (by : ℕ) → IsIdle cache old → Made old new key (Busy by) → IsIdle cache new
idle_after_busy cache old new key by h m = (m.cache ∙ h.0, subst HoldsNoTicket (sym m.calls) (none_after_busy old.calls old.number by key h.1))

looked_keeps : (old new : Seated) (key : List ℕ) (P : Mode ℕ → Type 0) → HasLooked old new key P → KeepsTickets old new
looked_keeps old new key P l = record { cache = l.kept.cache; number = l.kept.number; tickets = λ q. ap (λ cs. has_ticket cs q) l.kept.calls }

-- giving up a value leaves a seat its tickets
pub forgot_keeps : {V : Type 0} (stands_for : V → List ℕ → Type 0) (old new : Seated) (key : List ℕ) (r : forget.Forget V) → HasForgot stands_for old new key r → KeepsTickets old new
forgot_keeps stands_for old new key (answer.Dropped value) (st, (number, m)) = record {
  cache = m.cache;
  number = m.number;
  tickets = λ q. ap (λ cs. has_ticket cs q) m.calls ∙ same_after_forget old.calls old.number number key q;
}
forgot_keeps stands_for old new key answer.Free l = looked_keeps old new key (λ mode. mode ≡ free) l
forgot_keeps stands_for old new key (answer.Busy by) l = looked_keeps old new key (λ mode. mode ≡ held by) l

pub idle_kept : (cache : TableId) (old new : Seated) → IsIdle cache old → KeepsTickets old new → IsIdle cache new
idle_kept cache old new h k = (k.cache ∙ h.0, λ q. k.tickets q ∙ h.1 q)

-- a seat that has one ticket
pub one_after_claim : (old new : Seated) (key own : List ℕ) → HoldsNoTicket old.calls → own ≡ key → Made old new key Yours → HoldsOnly own new.calls
one_after_claim old new key own h is m = subst (λ (x : List ℕ × List Call). HoldsOnly x.0 x.1) (λ j. (sym is j, sym m.calls j)) (one_after_yours old.calls old.number key h)

pub none_after_filling : (old new : Seated) (key : List ℕ) → HoldsOnly key old.calls → HasFilled old new key → HoldsNoTicket new.calls
none_after_filling old new key h f = subst HoldsNoTicket (sym f.1.calls) (none_after_fill old.calls old.number f.0 key h)

pub none_after_giving : (old new : Seated) (key : List ℕ) → HoldsOnly key old.calls → Made old new key GiveBack → HoldsNoTicket new.calls
none_after_giving old new key h m = subst HoldsNoTicket (sym m.calls) (none_after_return old.calls old.number key h)
