-- All seats of a cache, before and after a crew.
use Rattle.std.proofs.Common.{◌≡◌, ℕ, ◌+◌, List, [], ◌∷◌, Bool, refl, sym, subst, ◌∙◌}
use Rattle.std.specs.List.{All}
use Rattle.std.proofs.lemmas.List.Elements.{All-nil, All-cons, All-head, All-tail}
use Rattle.atomic_table.specs.Seated.{TableId}
use Rattle.result_cache.specs.declared.call.Call.{Call}
use Rattle.result_cache.specs.Meet.{HasMet}
use Rattle.result_cache.specs.Seats.{Seated, IsIdle, AreSeatsOf}
use Rattle.result_cache.specs.Tickets.{HoldsNoTicket}
use Rattle.work_crew.specs.Along.{Along, Last}
use Rattle.work_crew.specs.Outcome.{Way, AllGone, Went, AllWent}
use Rattle.build_crew.specs.Calls.{Does, Fails, MadeMore}
use Rattle.build_crew.specs.Kept.{AreAllSeats}

-- it is the same seat
pub record SameSeat (s t : Seated) : Type 0 where
  pub number : t.number ≡ s.number
  pub callers : t.callers ≡ s.callers
  pub shards : t.shards ≡ s.shards

abbrev pub AllSame : List Seated → List Seated → Type 0
AllSame [] [] = Unit {0}
AllSame (s ∷ ss) (t ∷ ts) = SameSeat s t × AllSame ss ts
AllSame [] (t ∷ ts) = ⊥
AllSame (s ∷ ss) [] = ⊥

same_itself : (s : Seated) → SameSeat s s
same_itself s = record { number = refl; callers = refl; shards = refl }

same_then : (s t u : Seated) → SameSeat s t → SameSeat t u → SameSeat s u
same_then s t u a b = record { number = b.number ∙ a.number; callers = b.callers ∙ a.callers; shards = b.shards ∙ a.shards }

same_more : (s t : Seated) (more : List Call) → MadeMore s t more → SameSeat s t
same_more s t more m = record { number = m.number; callers = m.callers; shards = m.shards }

module _ {O : Type 0} (key_of : ℕ → List ℕ) (new_of : O → Bool) where
  same_along : (xs : List (ℕ × O)) (s t : Seated) (n : ℕ) → Along (Does key_of new_of) xs s t n → SameSeat s t
  same_along [] s t n (e, none) = subst (SameSeat s) e (same_itself s)
  same_along (x ∷ xs) s t n (mid, a, b, one, more, is) = same_then s mid t (same_more s mid one.more one.made) (same_along xs mid t b more)

  same_last : (failed : List ℕ) (s t : Seated) (n : ℕ) → Last (Fails key_of new_of) failed s t n → SameSeat s t
  same_last [] s t n (e, none) = subst (SameSeat s) e (same_itself s)
  same_last (k ∷ []) s t n h = same_more s t h.more h.made
  same_last (k ∷ l ∷ ks) s t n h = absurd h

  pub same_gone : (ways : List (Way O)) (ss ts : List Seated) → AllGone (Does key_of new_of) (Fails key_of new_of) ways ss ts → AllSame ss ts
  same_gone [] [] [] h = tt
  same_gone (g ∷ gs) (s ∷ ss) (t ∷ ts) ((mid, a, b, along, last, is), rest) =
      (same_then s mid t (same_along g.done s mid a along) (same_last g.failed mid t b last), same_gone gs ss ts rest)
  same_gone [] [] (t ∷ ts) h = absurd h
  same_gone [] (s ∷ ss) ts h = absurd h
  same_gone (g ∷ gs) [] ts h = absurd h
  same_gone (g ∷ gs) (s ∷ ss) [] h = absurd h

  same_went : (items : List O) (ks : List ℕ) (s t : Seated) (n : ℕ) → Went (Does key_of new_of) items ks s t n → SameSeat s t
  same_went items [] s t n (e, none) = subst (SameSeat s) e (same_itself s)
  same_went items (k ∷ ks) s t n (o, mid, a, b, is, one, more, sum) = same_then s mid t (same_more s mid one.more one.made) (same_went items ks mid t b more)

  pub same_all_went : (items : List O) (taken : List (List ℕ)) (ss ts : List Seated) (n : ℕ) → AllWent (Does key_of new_of) items taken ss ts n → AllSame ss ts
  same_all_went items [] [] [] n h = tt
  same_all_went items (l ∷ ls) (s ∷ ss) (t ∷ ts) n (a, b, one, more, is) = (same_went items l s t a one, same_all_went items ls ss ts b more)
  same_all_went items [] [] (t ∷ ts) n h = absurd h
  same_all_went items [] (s ∷ ss) ts n h = absurd h
  same_all_went items (l ∷ ls) [] ts n h = absurd h
  same_all_went items (l ∷ ls) (s ∷ ss) [] n h = absurd h

pub idle_of : (cache : TableId) (seats : List Seated) → All (IsIdle cache) seats → AreSeatsOf cache seats
idle_of cache [] h = tt
idle_of cache (s ∷ seats) h = ((All-head (IsIdle cache) s seats h).0, idle_of cache seats (All-tail (IsIdle cache) s seats h))

module _ (cache : TableId) (callers shards : ℕ) where
  pub seats_idle : (k : ℕ) (seats : List Seated) → AreAllSeats cache callers shards k seats → All (IsIdle cache) seats
  seats_idle k [] h = All-nil (IsIdle cache)
  seats_idle k (s ∷ seats) h = All-cons (IsIdle cache) s seats h.0 (seats_idle (k + 1) seats h.4)

  -- they are all seats still
  pub seats_same : (k : ℕ) (ss ts : List Seated) → AreAllSeats cache callers shards k ss → AllSame ss ts → All (IsIdle cache) ts → AreAllSeats cache callers shards k ts
  seats_same k [] [] h same idle = h
  seats_same k [] (t ∷ ts) h same idle = absurd same
  seats_same k (s ∷ ss) [] h same idle = absurd same
  seats_same k (s ∷ ss) (t ∷ ts) h same idle =
      (All-head (IsIdle cache) t ts idle, same.0.number ∙ h.1, same.0.callers ∙ h.2, same.0.shards ∙ h.3, seats_same (k + 1) ss ts h.4 same.1 (All-tail (IsIdle cache) t ts idle))

  pub seats_met : (i k : ℕ) (log : List Call) (ss ts : List Seated) → AreAllSeats cache callers shards k ss → HasMet i log ss ts → AreAllSeats cache callers shards k ts
  seats_met i k log [] [] h m = h
  seats_met i k log [] (t ∷ ts) h m = absurd m
  seats_met i k log (s ∷ ss) [] h m = absurd m
  seats_met i k log (s ∷ ss) (t ∷ ts) h m =
      ((m.0.cache ∙ h.0.0, subst HoldsNoTicket (sym m.0.calls) h.0.1), m.0.number ∙ h.1, m.0.callers ∙ h.2, m.0.shards ∙ h.3, seats_met i (k + 1) log ss ts h.4 m.3)
