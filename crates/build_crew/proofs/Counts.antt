-- The calls of all seats of a cache, as the history of each shard has them.
use Rattle.std.proofs.Common.{◌≡◌, ◌≢◌, ◌⊎◌, inl, inr, ℕ, ◌+◌, ◌<◌, ◌≤◌, List, [], ◌∷◌, ◌++◌, Bool, true, false, true≢false, cond, ◌||◌, ◌&&◌, eqb, nat_lt, filter, length, refl, sym, ap, subst, ◌∙◌, arith}
use Rattle.std.specs.Prelude.{sum}
use Rattle.std.specs.Str.{bytes_eq}
use Rattle.std.proofs.Math.Nat.{mod-lt}
use Rattle.std.proofs.lemmas.Bool.Decides.{eqb_tells, nat_tests}
use Rattle.std.proofs.lemmas.List.Folds.{list_any-append}
use Rattle.atomic_table.specs.Seated.{TableId}
use Rattle.rtl_sig.specs.Names.{has_name}
use Rattle.result_cache.specs.declared.call.Act.{Act}
use Rattle.result_cache.specs.declared.call.Act.TheVariants.{Hit, Busy, Yours, Fill, GiveBack, Forget}
use Rattle.result_cache.specs.declared.call.Call.{Call}
use Rattle.result_cache.specs.Counts.{drops, fills, times_of}
use Rattle.result_cache.specs.History.{Mode, free, held, filled, one_if_filled, IsAllowed, State, all_free, mode_after, cache_step, state_from, state_after, IsLegalFrom, IsLegal}
use Rattle.result_cache.specs.Meet.{AllSaw, HasMet, Share}
use Rattle.result_cache.specs.Seats.{Seated, seen_of}
use Rattle.result_cache.specs.Shared.{AreBelow, StartsWith, on_shard, shard_of}
use Rattle.result_cache.specs.Tickets.{calls_by}
use Rattle.result_cache.proofs.Filled.{filled_in_turn, legal_after, state_both, stays_filled}
use Rattle.result_cache.proofs.Keys.{bytes_same, bytes_true, bytes_other}
use Rattle.result_cache.proofs.Rising.{among_order, among_filtered}
use Rattle.work_crew.proofs.Counting.{same_or, below_or}
use Rattle.build_crew.specs.Calls.{one_if, hits}
use Rattle.build_crew.specs.Kept.{with_filled, filled_in, filled_by, times_by, AreAllSeats, is_kept_by, kept_by}
use Rattle.build_crew.proofs.Asking.{starts_then, times_append}
use Rattle.build_crew.proofs.Going.{AllGrew}

lt_is : (a b : ℕ) → a < b → nat_lt a b ≡ true
lt_is a b h = grind (arith, nat_tests)

lt_not : (a b : ℕ) → b ≤ a → nat_lt a b ≡ false
lt_not a b h = grind (arith, nat_tests)

eqb_not : (a b : ℕ) → a ≢ b → eqb a b ≡ false
eqb_not a b ne = by (eqb_tells a b)
  where
    by : ((eqb a b ≡ true) × (a ≡ b)) ⊎ ((eqb a b ≡ false) × (a ≢ b)) → eqb a b ≡ false
    by (inl h) = absurd (ne h.1)
    by (inr h) = h.0

eqb_is : (a b : ℕ) → a ≡ b → eqb a b ≡ true
eqb_is a b e = by (eqb_tells a b)
  where
    by : ((eqb a b ≡ true) × (a ≡ b)) ⊎ ((eqb a b ≡ false) × (a ≢ b)) → eqb a b ≡ true
    by (inl h) = h.0
    by (inr h) = absurd (h.1 e)

-- the calls of the seats from number k on
abbrev pub from : ℕ → List Call → List Call
from k [] = []
from k (c ∷ calls) = cond (nat_lt c.seat k) (from k calls) (c ∷ from k calls)

pub from_zero : (calls : List Call) → from 0 calls ≡ calls
from_zero [] = refl
from_zero (c ∷ calls) = ap (λ (b : Bool). cond b (from 0 calls) (c ∷ from 0 calls)) (lt_not c.seat 0 (omega arith)) ∙ ap (λ (l : List Call). c ∷ l) (from_zero calls)

from_all : (n : ℕ) (calls : List Call) → AreBelow n calls → from n calls ≡ []
from_all n [] h = refl
from_all n (c ∷ calls) h = ap (λ (b : Bool). cond b (from n calls) (c ∷ from n calls)) (lt_is c.seat n h.0) ∙ from_all n calls h.1

module _ (counts : Act → ℕ) (q : List ℕ) where
  -- the calls from a number on are those of this number, and those from the next one on
  from_next : (k : ℕ) (calls : List Call) → times_of counts q (from k calls) ≡ times_of counts q (calls_by k calls) + times_of counts q (from (k + 1) calls)
  from_next k [] = refl
  from_next k (c ∷ calls) = by (below_or c.seat k) (same_or c.seat k) (from_next k calls)
    where
      here : ℕ
      here = cond (bytes_eq c.key q) (counts c.act) 0

      by : (c.seat < k) ⊎ (k ≤ c.seat) → (c.seat ≡ k) ⊎ (c.seat ≢ k)
          → times_of counts q (from k calls) ≡ times_of counts q (calls_by k calls) + times_of counts q (from (k + 1) calls)
          → times_of counts q (cond (nat_lt c.seat k) (from k calls) (c ∷ from k calls))
          ≡ times_of counts q (cond (eqb c.seat k) (c ∷ calls_by k calls) (calls_by k calls)) + times_of counts q (cond (nat_lt c.seat (k + 1)) (from (k + 1) calls) (c ∷ from (k + 1) calls))
      by (inl lt) same rest =
          let a = ap (λ (b : Bool). times_of counts q (cond b (from k calls) (c ∷ from k calls))) (lt_is c.seat k lt) in
          let b = ap (λ (b : Bool). times_of counts q (cond b (c ∷ calls_by k calls) (calls_by k calls))) (eqb_not c.seat k (λ e. omega (arith, lt, e))) in
          let d = ap (λ (b : Bool). times_of counts q (cond b (from (k + 1) calls) (c ∷ from (k + 1) calls))) (lt_is c.seat (k + 1) (omega (arith, lt))) in
          omega (arith, a, b, d, rest)
      by (inr le) (inl e) rest =
          let a : times_of counts q (cond (nat_lt c.seat k) (from k calls) (c ∷ from k calls)) ≡ here + times_of counts q (from k calls) =
          ap (λ (b : Bool). times_of counts q (cond b (from k calls) (c ∷ from k calls))) (lt_not c.seat k le) in
          let b : times_of counts q (cond (eqb c.seat k) (c ∷ calls_by k calls) (calls_by k calls)) ≡ here + times_of counts q (calls_by k calls) =
          ap (λ (b : Bool). times_of counts q (cond b (c ∷ calls_by k calls) (calls_by k calls))) (eqb_is c.seat k e) in
          let d = ap (λ (b : Bool). times_of counts q (cond b (from (k + 1) calls) (c ∷ from (k + 1) calls))) (lt_is c.seat (k + 1) (omega (arith, e))) in
          omega (arith, a, b, d, rest)
      by (inr le) (inr ne) rest =
          let a : times_of counts q (cond (nat_lt c.seat k) (from k calls) (c ∷ from k calls)) ≡ here + times_of counts q (from k calls) =
          ap (λ (b : Bool). times_of counts q (cond b (from k calls) (c ∷ from k calls))) (lt_not c.seat k le) in
          let b = ap (λ (b : Bool). times_of counts q (cond b (c ∷ calls_by k calls) (calls_by k calls))) (eqb_not c.seat k ne) in
          let d : times_of counts q (cond (nat_lt c.seat (k + 1)) (from (k + 1) calls) (c ∷ from (k + 1) calls)) ≡ here + times_of counts q (from (k + 1) calls) =
          ap (λ (b : Bool). times_of counts q (cond b (from (k + 1) calls) (c ∷ from (k + 1) calls))) (lt_not c.seat (k + 1) (omega (arith, le, ne))) in
          omega (arith, a, b, d, rest)

  -- the calls on a key are on its shard
  on_own : (shards i : ℕ) (calls : List Call) → shard_of shards q ≡ i → times_of counts q (on_shard shards i calls) ≡ times_of counts q calls
  on_own shards i [] is = refl
  on_own shards i (c ∷ calls) is = by (eqb (shard_of shards c.key) i) refl (bytes_eq c.key q) refl (on_own shards i calls is)
    where
      by : (s : Bool) → eqb (shard_of shards c.key) i ≡ s → (b : Bool) → bytes_eq c.key q ≡ b → times_of counts q (on_shard shards i calls) ≡ times_of counts q calls
          → times_of counts q (cond (eqb (shard_of shards c.key) i) (c ∷ on_shard shards i calls) (on_shard shards i calls)) ≡ cond (bytes_eq c.key q) (counts c.act) 0 + times_of counts q calls
      by true there b e rest =
          ap (λ (t : Bool). times_of counts q (cond t (c ∷ on_shard shards i calls) (on_shard shards i calls))) there
          ∙ ap (λ (n : ℕ). cond (bytes_eq c.key q) (counts c.act) 0 + n) rest
      by false there true e rest =
          absurd (true≢false (sym (eqb_is (shard_of shards c.key) i (ap (shard_of shards) (bytes_true c.key q e) ∙ is)) ∙ there))
      by false there false e rest =
          let a = ap (λ (t : Bool). times_of counts q (cond t (c ∷ on_shard shards i calls) (on_shard shards i calls))) there in
          let d = ap (λ (t : Bool). cond t (counts c.act) 0) e in
          omega (arith, a, d, rest)

  -- a history of a key's shard that all seats have seen has the calls of all of them on it
  pub saw_has : (cache : TableId) (callers shards i k : ℕ) (log : List Call) (seats : List Seated) → AreAllSeats cache callers shards k seats → AllSaw i log seats → AreBelow callers log → shard_of shards q ≡ i
      → times_of counts q (from k log) ≡ times_by counts q seats
  saw_has cache callers shards i k log [] all saw below is = ap (λ (n : ℕ). times_of counts q (from n log)) all ∙ ap (times_of counts q) (from_all callers log below)
  saw_has cache callers shards i k log (s ∷ seats) all saw below is =
      let rest = saw_has cache callers shards i (k + 1) log seats all.4 saw.1 below is in
      let next = from_next k log in
      let own : times_of counts q (calls_by k log) ≡ times_of counts q s.calls =
      ap (λ (n : ℕ). times_of counts q (calls_by n log)) (sym all.1)
      ∙ ap (times_of counts q) saw.0.own
      ∙ on_own s.shards i s.calls (ap (λ (n : ℕ). shard_of n q) all.3 ∙ is) in
      omega (arith, rest, next, own)

  -- the history of a key's shard has the calls of all seats on it
  pub log_has : (cache : TableId) (callers shards i k : ℕ) (log : List Call) (olds seats : List Seated) → AreAllSeats cache callers shards k seats → HasMet i log olds seats → AreBelow callers log → shard_of shards q ≡ i
      → times_of counts q (from k log) ≡ times_by counts q seats
  log_has cache callers shards i k log [] [] all met below is = ap (λ (n : ℕ). times_of counts q (from n log)) all ∙ ap (times_of counts q) (from_all callers log below)
  log_has cache callers shards i k log (o ∷ olds) [] all met below is = absurd met
  log_has cache callers shards i k log [] (s ∷ seats) all met below is = absurd met
  log_has cache callers shards i k log (o ∷ olds) (s ∷ seats) all met below is =
      let rest = log_has cache callers shards i (k + 1) log olds seats all.4 met.3 below is in
      let next = from_next k log in
      let number : o.number ≡ k = sym met.0.number ∙ all.1 in
      let own : times_of counts q (calls_by k log) ≡ times_of counts q s.calls =
      ap (λ (n : ℕ). times_of counts q (calls_by n log)) (sym number)
      ∙ ap (times_of counts q) met.1.own
      ∙ on_own o.shards i o.calls (ap (λ (n : ℕ). shard_of n q) (sym met.0.shards ∙ all.3) ∙ is)
      ∙ ap (times_of counts q) (sym met.0.calls) in
      omega (arith, rest, next, own)

-- a history in which a key is hit, and its value is not given up, leaves it filled
hit_stays : (n : ℕ) (state : State) (q : List ℕ) (calls : List Call) → IsLegalFrom n state calls → 1 ≤ times_of hits q calls → times_of drops q calls ≡ 0 → one_if_filled (state_from state calls q) ≡ 1
hit_stays n state q [] legal some none = absurd (omega (arith, some))
hit_stays n state q (c ∷ calls) legal some none = by (bytes_eq c.key q) refl c.act refl (hit_stays (n + 1) (cache_step state c) q calls legal.1)
  where
    Later : Type 0
    Later = 1 ≤ times_of hits q calls → times_of drops q calls ≡ 0 → one_if_filled (state_from (cache_step state c) calls q) ≡ 1

    -- one that is no hit of it leaves the hit to later calls
    later_on : Later → cond (bytes_eq c.key q) (hits c.act) 0 ≡ 0 → one_if_filled (state_from (cache_step state c) calls q) ≡ 1
    later_on later here = later (omega (arith, some, here)) (omega (arith, none))

    no_hit : (act : Act) → hits act ≡ 0 → c.act ≡ act → cond (bytes_eq c.key q) (hits c.act) 0 ≡ 0
    no_hit act zero is = cases (bytes_eq c.key q)
      where
        cases : (b : Bool) → cond b (hits c.act) 0 ≡ 0
        cases true = ap hits is ∙ zero
        cases false = refl

    hit : (number : ℕ) → bytes_eq c.key q ≡ true → c.act ≡ Hit number → one_if_filled (state_from (cache_step state c) calls q) ≡ 1
    hit number e is =
        let found : state q ≡ filled number = ap state (sym (bytes_true c.key q e)) ∙ subst (λ (a : Act). IsAllowed n c.seat a (state c.key)) is legal.0 in
        let same : cache_step state c q ≡ filled number = ap (λ (b : Bool). cond b (mode_after c.seat c.act (state q)) (state q)) e ∙ ap (λ (a : Act). mode_after c.seat a (state q)) is ∙ found in
        ap one_if_filled (stays_filled (n + 1) (cache_step state c) q number calls legal.1 same (omega (arith, none)))

    by : (b : Bool) → bytes_eq c.key q ≡ b → (act : Act) → c.act ≡ act → Later → one_if_filled (state_from (cache_step state c) calls q) ≡ 1
    by true e (Hit number) is later = hit number e is
    by true e (Busy who) is later = later_on later (no_hit (Busy who) refl is)
    by true e Yours is later = later_on later (no_hit Yours refl is)
    by true e (Fill number) is later = later_on later (no_hit (Fill number) refl is)
    by true e GiveBack is later = later_on later (no_hit GiveBack refl is)
    by true e (Forget number) is later = later_on later (no_hit (Forget number) refl is)
    by false e act is later = later_on later (ap (λ (b : Bool). cond b (hits c.act) 0) e)

-- how often a key was filled, and its value given up, by seats that met before and after: it was filled at most once more
-- than its value was given up, which was no more often than it was filled; where it was hit since, and not given up, it is
-- filled once more
pub record Tallies (q : List ℕ) (olds news : List Seated) : Type 0 where
  pub once : times_by fills q news ≤ times_by drops q news + 1
  pub first : times_by drops q olds ≤ times_by fills q olds
  pub hit : times_by drops q news ≡ times_by drops q olds → times_by hits q olds + 1 ≤ times_by hits q news → times_by drops q news + 1 ≤ times_by fills q news

-- what a legal history tells of a key
in_log : (q : List ℕ) (log : List Call) → IsLegal log → (times_of drops q log ≤ times_of fills q log) × (times_of fills q log ≤ times_of drops q log + 1)
in_log q log legal = by (state_after log q) (filled_in_turn log q legal)
  where
    by : (mode : Mode ℕ) → times_of fills q log ≡ times_of drops q log + one_if_filled mode → (times_of drops q log ≤ times_of fills q log) × (times_of fills q log ≤ times_of drops q log + 1)
    by free e = (omega (arith, e), omega (arith, e))
    by (held seat) e = (omega (arith, e), omega (arith, e))
    by (filled number) e = (omega (arith, e), omega (arith, e))

-- of seats that shared a history of each shard, made calls, and met
pub met_seats : (cache : TableId) (callers shards : ℕ) (olds mids news : List Seated) → 0 < shards → 0 < length olds → AreAllSeats cache callers shards 0 olds → Share shards olds → AllGrew olds mids
    → AreAllSeats cache callers shards 0 news → ((i : ℕ) → i < shards → (log : List Call) × HasMet i log mids news) → (q : List ℕ) → Tallies q olds news
met_seats cache callers shards [] mids news some any all shared grew all' met q = absurd (omega (arith, any))
met_seats cache callers shards (o ∷ olds) [] news some any all shared grew all' met q = absurd grew
met_seats cache callers shards (o ∷ olds) (m ∷ mids) [] some any all shared grew all' met q = absurd (met 0 some).1
met_seats cache callers shards (o ∷ olds) (m ∷ mids) (s ∷ news) some any all shared grew all' met q =
    let i = shard_of shards q in
    let i_in = mod-lt (sum q) some in
    let saw = shared i i_in in
    let meets = met i i_in in
    let old_log = saw.0 in
    let log = meets.0 in
    let seen = saw.1.0 in
    let agrees = meets.1.1 in
    let old_total = λ (counts : Act → ℕ). ap (times_of counts q) (sym (from_zero old_log))
    ∙ saw_has counts q cache callers shards i 0 old_log (o ∷ olds) all saw.1 (subst (λ (n : ℕ). AreBelow n old_log) all.2 seen.numbers) refl in
    let total = λ (counts : Act → ℕ). ap (times_of counts q) (sym (from_zero log))
    ∙ log_has counts q cache callers shards i 0 log (m ∷ mids) (s ∷ news) all' meets.1 (subst (λ (n : ℕ). AreBelow n log) (sym meets.1.0.callers ∙ all'.2) agrees.numbers) refl in
    let more = (starts_then old_log (seen_of m i) log (subst (λ l. StartsWith (seen_of m i) l) seen.seen (grew.0 i)) agrees.begins) in
    tallies old_log log (old_total fills) (old_total drops) (old_total hits) (total fills) (total drops) (total hits) seen.legal agrees.legal more
  where
    tallies : (old_log log : List Call) → times_of fills q old_log ≡ times_by fills q (o ∷ olds) → times_of drops q old_log ≡ times_by drops q (o ∷ olds) → times_of hits q old_log ≡ times_by hits q (o ∷ olds)
        → times_of fills q log ≡ times_by fills q (s ∷ news) → times_of drops q log ≡ times_by drops q (s ∷ news) → times_of hits q log ≡ times_by hits q (s ∷ news)
        → IsLegal old_log → IsLegal log → StartsWith log old_log → Tallies q (o ∷ olds) (s ∷ news)
    tallies old_log log f_old d_old h_old f_new d_new h_new old_legal legal (more, is) = record {
      once = let a = (in_log q log legal).1 in omega (arith, f_new, d_new, a);
      first = let a = (in_log q old_log old_legal).0 in omega (arith, f_old, d_old, a);
      hit = λ same some.
          let drops_are = ap (times_of drops q) is ∙ times_append drops q old_log more in
          let hits_are = ap (times_of hits q) is ∙ times_append hits q old_log more in
          let legal' : IsLegal (old_log ++ more) = subst IsLegal is legal in
          let full : one_if_filled (state_after log q) ≡ 1 =
          ap one_if_filled (ap (λ l. state_after l q) is ∙ state_both all_free old_log more q)
          ∙ hit_stays (0 + length old_log) (state_after old_log) q more (legal_after 0 all_free old_log more legal') (omega (arith, hits_are, h_old, h_new, some)) (omega (arith, drops_are, d_old, d_new, same)) in
          let turn = filled_in_turn log q legal in
          omega (arith, turn, full, f_new, d_new);
    }

-- a key is among those that calls filled where it was filled at least once
among_calls : (q : List ℕ) (calls : List Call) (b : Bool) → has_name (filled_in calls) q ≡ b → (times_of fills q calls ≡ 0) × (b ≡ false) ⊎ ((1 ≤ times_of fills q calls) × (b ≡ true))
among_calls q [] b is = inl (refl, sym is)
among_calls q (c ∷ calls) b is = by c.act (among_calls q calls (has_name (filled_in calls) q) refl) b is
  where
    Tells : Act → Bool → Type 0
    Tells act b = ((cond (bytes_eq c.key q) (fills act) 0 + times_of fills q calls ≡ 0) × (b ≡ false)) ⊎ ((1 ≤ cond (bytes_eq c.key q) (fills act) 0 + times_of fills q calls) × (b ≡ true))

    Rest : Type 0
    Rest = ((times_of fills q calls ≡ 0) × (has_name (filled_in calls) q ≡ false)) ⊎ ((1 ≤ times_of fills q calls) × (has_name (filled_in calls) q ≡ true))

    none : (act : Act) → fills act ≡ 0 → cond (bytes_eq c.key q) (fills act) 0 ≡ 0
    none act f = cases (bytes_eq c.key q)
      where
        cases : (t : Bool) → cond t (fills act) 0 ≡ 0
        cases true = f
        cases false = refl

    plain : (act : Act) → fills act ≡ 0 → Rest → (b : Bool) → has_name (filled_in calls) q ≡ b → Tells act b
    plain act f (inl r) b is = let z = none act f in let a = r.0 in inl (omega (arith, z, a), sym is ∙ r.1)
    plain act f (inr r) b is = let z = none act f in let a = r.0 in inr (omega (arith, z, a), sym is ∙ r.1)

    filling : (number : ℕ) → Rest → (t : Bool) → bytes_eq q c.key ≡ t → (b : Bool) → (bytes_eq q c.key || has_name (filled_in calls) q) ≡ b → Tells (Fill number) b
    filling number rest true e b is =
        let here : one_if (bytes_eq c.key q) ≡ 1 = ap one_if (bytes_same c.key q (sym (bytes_true q c.key e))) in
        inr (omega (arith, here), sym is ∙ ap (λ (t : Bool). t || has_name (filled_in calls) q) e)
    filling number (inl r) false e b is =
        let here : one_if (bytes_eq c.key q) ≡ 0 = ap one_if (bytes_other q c.key e) in
        let a = r.0 in
        inl (omega (arith, here, a), sym is ∙ ap (λ (t : Bool). t || has_name (filled_in calls) q) e ∙ r.1)
    filling number (inr r) false e b is =
        let a = r.0 in
        inr (omega (arith, a), sym is ∙ ap (λ (t : Bool). t || has_name (filled_in calls) q) e ∙ r.1)

    by : (act : Act) → Rest → (b : Bool) → has_name (with_filled c.key act (filled_in calls)) q ≡ b → Tells act b
    by (Hit number) rest b is = plain (Hit number) refl rest b is
    by (Busy who) rest b is = plain (Busy who) refl rest b is
    by Yours rest b is = plain Yours refl rest b is
    by (Fill number) rest b is = filling number rest (bytes_eq q c.key) refl b is
    by GiveBack rest b is = plain GiveBack refl rest b is
    by (Forget number) rest b is = plain (Forget number) refl rest b is

among_seats : (q : List ℕ) (seats : List Seated) (b : Bool) → has_name (filled_by seats) q ≡ b → ((times_by fills q seats ≡ 0) × (b ≡ false)) ⊎ ((1 ≤ times_by fills q seats) × (b ≡ true))
among_seats q [] b is = inl (refl, sym is)
among_seats q (s ∷ seats) b is =
    by (among_calls q s.calls (has_name (filled_in s.calls) q) refl) (among_seats q seats (has_name (filled_by seats) q) refl) (sym (list_any-append (bytes_eq q) (filled_in s.calls) (filled_by seats)) ∙ is)
  where
    by : ((times_of fills q s.calls ≡ 0) × (has_name (filled_in s.calls) q ≡ false)) ⊎ ((1 ≤ times_of fills q s.calls) × (has_name (filled_in s.calls) q ≡ true))
        → ((times_by fills q seats ≡ 0) × (has_name (filled_by seats) q ≡ false)) ⊎ ((1 ≤ times_by fills q seats) × (has_name (filled_by seats) q ≡ true))
        → (has_name (filled_in s.calls) q || has_name (filled_by seats) q) ≡ b
        → ((times_of fills q s.calls + times_by fills q seats ≡ 0) × (b ≡ false)) ⊎ ((1 ≤ times_of fills q s.calls + times_by fills q seats) × (b ≡ true))
    by (inr f) rest is = let a = f.0 in inr (omega (arith, a), sym is ∙ ap (λ (t : Bool). t || has_name (filled_by seats) q) f.1)
    by (inl f) (inl g) is = let a = f.0 in let c = g.0 in inl (omega (arith, a, c), sym is ∙ ap (λ (t : Bool). t || has_name (filled_by seats) q) f.1 ∙ g.1)
    by (inl f) (inr g) is = let c = g.0 in inr (omega (arith, c), sym is ∙ ap (λ (t : Bool). t || has_name (filled_by seats) q) f.1 ∙ g.1)

-- a key is kept where the seats filled it more often than they gave its value up
pub kept_tells : (q : List ℕ) (seats : List Seated) → ((times_by fills q seats ≤ times_by drops q seats) × (has_name (kept_by seats) q ≡ false)) ⊎ ((times_by drops q seats + 1 ≤ times_by fills q seats) × (has_name (kept_by seats) q ≡ true))
kept_tells q seats = by (below_or (times_by drops q seats) (times_by fills q seats)) (among_seats q seats (has_name (filled_by seats) q) refl)
  where
    all : has_name (kept_by seats) q ≡ (has_name (filled_by seats) q && is_kept_by seats q)
    all = among_order q (filter (is_kept_by seats) (filled_by seats)) ∙ among_filtered (is_kept_by seats) q (filled_by seats)

    none : (a : Bool) → (a && false) ≡ false
    none true = refl
    none false = refl

    by : (times_by drops q seats < times_by fills q seats) ⊎ (times_by fills q seats ≤ times_by drops q seats)
        → ((times_by fills q seats ≡ 0) × (has_name (filled_by seats) q ≡ false)) ⊎ ((1 ≤ times_by fills q seats) × (has_name (filled_by seats) q ≡ true))
        → ((times_by fills q seats ≤ times_by drops q seats) × (has_name (kept_by seats) q ≡ false)) ⊎ ((times_by drops q seats + 1 ≤ times_by fills q seats) × (has_name (kept_by seats) q ≡ true))
    by (inr le) f = inl (le, all ∙ ap (λ (b : Bool). has_name (filled_by seats) q && b) (lt_not (times_by drops q seats) (times_by fills q seats) le) ∙ none (has_name (filled_by seats) q))
    by (inl lt) (inl f) = let a = f.0 in absurd (omega (arith, lt, a))
    by (inl lt) (inr f) =
        inr (omega (arith, lt), all ∙ ap (λ (b : Bool). b && is_kept_by seats q) f.1 ∙ lt_is (times_by drops q seats) (times_by fills q seats) lt)
