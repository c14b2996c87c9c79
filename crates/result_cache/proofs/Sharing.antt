-- Seats that share one history of each shard.
use Rattle.std.proofs.Common.{◌≡◌, ℕ, zero, suc, ◌+◌, ◌<◌, List, [], ◌∷◌, refl, sym, ap, ◌∙◌, subst}
use Rattle.atomic_table.specs.Seated.{TableId}
use Rattle.result_cache.specs.declared.call.Call.{Call}
use Rattle.result_cache.specs.Meet.{HasMet, AllSaw, Share}
use Rattle.result_cache.specs.Seats.{Seated, new_seats_from, new_seats}
use Rattle.result_cache.specs.Shared.{AreBelow, on_shard}
use Rattle.result_cache.specs.Tickets.{calls_by}
use Rattle.result_cache.proofs.Histories.{none_seen}

saw_met : (i : ℕ) (log : List Call) (olds news : List Seated) → HasMet i log olds news → AllSaw i log news
saw_met i log [] [] m = tt
saw_met i log [] (t ∷ news) m = absurd m
saw_met i log (s ∷ olds) [] m = absurd m
saw_met i log (s ∷ olds) (t ∷ news) m = (
  record {
    seen = m.2;
    legal = m.1.legal;
    numbers = subst (λ n. AreBelow n log) (sym m.0.callers) m.1.numbers;
    own = ap (λ n. calls_by n log) m.0.number ∙ m.1.own ∙ (λ j. on_shard (sym m.0.shards j) i (sym m.0.calls j));
  },
  saw_met i log olds news m.3,
)

pub share_met : (shards : ℕ) (olds news : List Seated) → ((i : ℕ) → i < shards → (log : List Call) × HasMet i log olds news) → Share shards news
share_met shards olds news met i l = let m = met i l in (m.0, saw_met i m.0 olds news m.1)

saw_new : (cache : TableId) (callers shards i n more : ℕ) → AllSaw i [] (new_seats_from cache callers shards n more)
saw_new cache callers shards i n zero = tt
saw_new cache callers shards i n (suc more) = (
  record { seen = none_seen [] shards i; legal = tt; numbers = tt; own = refl },
  saw_new cache callers shards i (n + 1) more,
)

pub share_new : (cache : TableId) (callers shards : ℕ) → Share shards (new_seats cache callers shards)
share_new cache callers shards i l = ([], saw_new cache callers shards i 0 callers)
