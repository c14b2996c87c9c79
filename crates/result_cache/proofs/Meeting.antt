-- Seats that look at each shard together have met.
use Rattle.std.proofs.Common.{◌≡◌, ◌≢◌, ℕ, ◌+◌, ◌<◌, List, [], ◌∷◌, map, set, get_or, true, false, eqb, refl, sym, ap, ◌∙◌, subst, ⊎_elim, arith}
use Rattle.std.proofs.lemmas.Bool.Decides.{eqb_tells}
use Rattle.std.proofs.Math.ListN.{length-set}
use Rattle.atomic_table.specs.Seated.{TableId}
use Rattle.result_cache.specs.declared.call.Call.{Call}
use Rattle.result_cache.specs.declared.view.Known.{Known}
use Rattle.result_cache.specs.declared.view.View.{View}
use Rattle.result_cache.specs.Tickets.{calls_by}
use Rattle.result_cache.specs.Shared.{StartsWith, AreBelow, on_shard, view_of, first_of, rest_of, seat_of, with_seen, EachSeat, Agrees}
use Rattle.result_cache.specs.Counts.{count_of, claims, fills, give_backs, drops}
use Rattle.result_cache.specs.Seats.{Seated, seat_at, first_view, capped, IsSeat}
use Rattle.result_cache.specs.Meet.{SeesTo, AllSeeTo, LookedTo, SeatsSeeTo, SeatsAgree, Gathered, HasMet}
use Rattle.result_cache.proofs.Histories.{list_here, list_else}
use Rattle.result_cache.proofs.Steps.{upd, upd_same, upd_other}

sees_none : (logs : ℕ → List Call) (ks : List Known) → AllSeeTo 0 logs ks ks
sees_none logs [] = tt
sees_none logs (k ∷ ks) = (
  record {
    number = refl;
    callers = refl;
    shards = refl;
    calls = refl;
    wide = refl;
    seen = λ i l. absurd (omega arith);
    later = λ i l. refl;
  },
  sees_none logs ks,
)

-- before the first look
pub looked_none : (ks : List Known) → LookedTo 0 ks ks
looked_none ks = record { logs = λ _. []; see = sees_none (λ _. []) ks; agree = λ i l. absurd (omega arith) }

sees_more : (n : ℕ) (logs : ℕ → List Call) (log : List Call) (k k' : Known) → SeesTo n logs k k' → Agrees log n k' → SeesTo (n + 1) (upd logs n log) k (with_seen n log k')
sees_more n logs log k k' h a = record {
  number = h.number;
  callers = h.callers;
  shards = h.shards;
  calls = h.calls;
  wide = length-set k'.seen n log ∙ h.wide;
  seen = λ i l. ⊎_elim
      (λ (t : (eqb i n ≡ true) × (i ≡ n)). ap (λ m. get_or (set k'.seen n log) m []) t.1 ∙ list_here k'.seen n log (let w = a.wide in let b = a.within in omega arith) ∙ sym (upd_same logs n log i t.1))
      (λ (t : (eqb i n ≡ false) × (i ≢ n)). list_else k'.seen n i log t.1 ∙ h.seen i (let ne = t.1 in omega arith) ∙ sym (upd_other logs n log i t.1))
      (eqb_tells i n);
  later = λ i l. list_else k'.seen n i log (λ e. omega arith) ∙ h.later i (omega arith);
}

agrees_back : (n : ℕ) (logs : ℕ → List Call) (log : List Call) (k k' : Known) → SeesTo n logs k k' → Agrees log n k' → Agrees log n k
agrees_back n logs log k k' h a = record {
  legal = a.legal;
  numbers = subst (λ m. AreBelow m log) h.callers a.numbers;
  begins = subst (λ s. StartsWith log s) (h.later n (omega arith)) a.begins;
  own = (λ j. calls_by (sym h.number j) log) ∙ a.own ∙ (λ j. on_shard (h.shards j) n (h.calls j));
  wide = sym h.wide ∙ a.wide ∙ h.shards;
  within = subst (λ m. n < m) h.shards a.within;
}

all_see_more : (n : ℕ) (logs : ℕ → List Call) (log : List Call) (ks ks' : List Known) → AllSeeTo n logs ks ks' → EachSeat (Agrees log n) ks' → AllSeeTo (n + 1) (upd logs n log) ks (map (with_seen n log) ks')
all_see_more n logs log [] [] h a = tt
all_see_more n logs log [] (k' ∷ ks') h a = absurd h
all_see_more n logs log (k ∷ ks) [] h a = absurd h
all_see_more n logs log (k ∷ ks) (k' ∷ ks') h a = (sees_more n logs log k k' h.0 a.0, all_see_more n logs log ks ks' h.1 a.1)

all_agree_back : (n : ℕ) (logs : ℕ → List Call) (log : List Call) (ks ks' : List Known) → AllSeeTo n logs ks ks' → EachSeat (Agrees log n) ks' → EachSeat (Agrees log n) ks
all_agree_back n logs log [] ks' h a = tt
all_agree_back n logs log (k ∷ ks) [] h a = absurd h
all_agree_back n logs log (k ∷ ks) (k' ∷ ks') h a = (agrees_back n logs log k k' h.0 a.0, all_agree_back n logs log ks ks' h.1 a.1)

-- one look more
pub looked_more : (n : ℕ) (log : List Call) (ks ks' : List Known) → LookedTo n ks ks' → EachSeat (Agrees log n) ks' → LookedTo (n + 1) ks (map (with_seen n log) ks')
looked_more n log ks ks' h a = record {
  logs = upd h.logs n log;
  see = all_see_more n h.logs log ks ks' h.see a;
  agree = λ i l. ⊎_elim
      (λ (t : (eqb i n ≡ true) × (i ≡ n)). subst (λ (x : ℕ × List Call). EachSeat (Agrees x.1 x.0) ks) (λ j. (sym t.1 j, sym (upd_same h.logs n log i t.1) j)) (all_agree_back n h.logs log ks ks' h.see a))
      (λ (t : (eqb i n ≡ false) × (i ≢ n)). subst (λ l'. EachSeat (Agrees l' i) ks) (sym (upd_other h.logs n log i t.1)) (h.agree i (let ne = t.1 in omega arith)))
      (eqb_tells i n);
}

-- with no other seats
pub gathered_none : (n : ℕ) (ks ks' : List Known) → LookedTo n ks ks' → Gathered n ks ks' [] []
gathered_none n ks ks' h = record { logs = h.logs; see = h.see; others_see = tt; agree = h.agree; others_agree = λ i l. tt }

-- a seat that was lent comes back
pub gathered_more : (n : ℕ) (cache cache' : TableId) (k : Known) (ks news : List Known) (ss ss' : List Seated) → cache' ≡ cache → Gathered n (k ∷ ks) news ss ss' → Gathered n ks (rest_of news) (seat_at cache k ∷ ss) (seat_at cache' (first_of news) ∷ ss')
gathered_more n cache cache' k ks [] ss ss' same h = absurd h.see
gathered_more n cache cache' k ks (k' ∷ news) ss ss' same h = record {
  logs = h.logs;
  see = h.see.1;
  others_see = (same, h.see.0, h.others_see);
  agree = λ i l. (h.agree i l).1;
  others_agree = λ i l. ((h.agree i l).0, h.others_agree i l);
}

-- there is a first seat
pub first_is : (n : ℕ) (k : Known) (ks news : List Known) (ss ss' : List Seated) → Gathered n (k ∷ ks) news ss ss' → news ≡ first_of news ∷ rest_of news
first_is n k ks [] ss ss' h = absurd h.see
first_is n k ks (k' ∷ news) ss ss' h = refl

-- and what it has seen
pub first_sees : (n : ℕ) (k : Known) (ks news : List Known) (ss ss' : List Seated) → (h : Gathered n (k ∷ ks) news ss ss') → SeesTo n h.logs k (first_of news)
first_sees n k ks [] ss ss' h = absurd h.see
first_sees n k ks (k' ∷ news) ss ss' h = h.see.0

-- where there was one, there is one
pub only_first : (n : ℕ) (k : Known) (news : List Known) (ss ss' : List Seated) → Gathered n (k ∷ []) news ss ss' → news ≡ first_of news ∷ []
only_first n k [] ss ss' h = absurd h.see
only_first n k (k' ∷ []) ss ss' h = refl
only_first n k (k' ∷ k'' ∷ news) ss ss' h = absurd h.see.1

seats_meet : (n i : ℕ) (logs : ℕ → List Call) (olds news : List Seated) → i < n → SeatsSeeTo n logs olds news → SeatsAgree (logs i) i olds → HasMet i (logs i) olds news
seats_meet n i logs [] [] l h a = tt
seats_meet n i logs [] (t ∷ news) l h a = absurd h
seats_meet n i logs (s ∷ olds) [] l h a = absurd h
seats_meet n i logs (s ∷ olds) (t ∷ news) l h a = (
  record { cache = h.0; number = h.1.number; callers = h.1.callers; shards = h.1.shards; calls = h.1.calls },
  a.0,
  h.1.seen i l,
  seats_meet n i logs olds news l h.2 a.1,
)

-- all seats have met
pub all_meet : (n : ℕ) (cache cache' : TableId) (k : Known) (news : List Known) (ss ss' : List Seated) → cache' ≡ cache → Gathered n (k ∷ []) news ss ss'
    → (i : ℕ) → i < n → (log : List Call) × HasMet i log (seat_at cache k ∷ ss) (seat_at cache' (first_of news) ∷ ss')
all_meet n cache cache' k news ss ss' same h i l =
    let g = gathered_more n cache cache' k [] news ss ss' same h in
    (g.logs i, seats_meet n i g.logs (seat_at cache k ∷ ss) (seat_at cache' (first_of news) ∷ ss') l g.others_see (g.others_agree i l))

-- a seat that looked is a seat
pub seat_seen : (n : ℕ) (logs : ℕ → List Call) (cache cache' : TableId) (k k' : Known) (number cl fi gi dr : ℕ) (old new : List View)
    → IsSeat cache number cl fi gi dr old → k ≡ seat_of (first_view old) → cache' ≡ cache → SeesTo n logs k k' → new ≡ view_of (k' ∷ []) ∷ [] → IsSeat cache' number cl fi gi dr new
seat_seen n logs cache cache' k k' number cl fi gi dr old new h is same s new_is =
    subst (λ us. IsSeat cache' number cl fi gi dr us) (sym new_is) (record {
      view_is = refl;
      number_is = s.number ∙ ap (λ (x : Known). x.number) is ∙ h.number_is;
      below = subst (λ m. number < m) (sym (s.callers ∙ ap (λ (x : Known). x.callers) is)) h.below;
      shards_are = s.shards ∙ ap (λ (x : Known). x.shards) is ∙ h.shards_are ∙ ap (λ (i : TableId). i.slots) (sym same);
      claims_are = h.claims_are ∙ ap (λ cs. capped (count_of claims cs)) (sym (s.calls ∙ ap (λ (x : Known). x.calls) is));
      fills_are = h.fills_are ∙ ap (λ cs. capped (count_of fills cs)) (sym (s.calls ∙ ap (λ (x : Known). x.calls) is));
      give_backs_are = h.give_backs_are ∙ ap (λ cs. capped (count_of give_backs cs)) (sym (s.calls ∙ ap (λ (x : Known). x.calls) is));
      drops_are = h.drops_are ∙ ap (λ cs. capped (count_of drops cs)) (sym (s.calls ∙ ap (λ (x : Known). x.calls) is));
    })
