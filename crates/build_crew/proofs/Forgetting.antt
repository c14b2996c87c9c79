-- What a seat leaves that gives up values, once all seats have met.
use Rattle.std.proofs.Common.{◌≡◌, ◌⊎◌, inl, inr, ℕ, suc, ◌+◌, ◌≤◌, List, [], ◌∷◌, ◌++◌, Bool, true, false, true≢false, cond, not, ◌&&◌, ◌||◌, filter, length, refl, sym, ap, subst, ◌∙◌, arith, append_assoc}
use Rattle.std.proofs.lemmas.List.{append-nil}
use Rattle.std.specs.Prelude.{sum}
use Rattle.std.specs.Str.{bytes_eq}
use Rattle.std.proofs.Math.Nat.{mod-lt}
use Rattle.atomic_table.specs.Seated.{TableId}
use Rattle.rtl_sig.specs.Names.{has_name}
use Rattle.result_cache.specs.declared.call.Act.{Act}
use Rattle.result_cache.specs.declared.call.Act.TheVariants.{Forget}
use Rattle.result_cache.specs.declared.call.Call.{Call}
use Rattle.result_cache.specs.declared.shard.Forget as forget
use Rattle.result_cache.specs.declared.shard.Forget.TheVariants as answer
use Rattle.result_cache.specs.Counts.{claims, drops, fills, give_backs, count_of, times_of}
use Rattle.result_cache.specs.History.{Mode, free, held, one_if_filled, mode_after, all_free, state_after, IsLegal, call}
use Rattle.result_cache.specs.Meet.{AllSaw, HasMet}
use Rattle.result_cache.specs.Seats.{Seated, HasForgot, HasLooked, Made, KeepsTickets, seen_of, shard_at}
use Rattle.result_cache.specs.Shared.{AreBelow, StartsWith, shard_of}
use Rattle.result_cache.proofs.Filled.{filled_in_turn}
use Rattle.result_cache.proofs.Idle.{forgot_keeps, idle_kept}
use Rattle.result_cache.proofs.Keys.{bytes_same, bytes_true, bytes_other}
use Rattle.result_cache.proofs.Rising.{AreAbove, AreRising, among_filtered, rising_order, same_rising}
use Rattle.result_cache.proofs.Sounds.{state_snoc}
use Rattle.build_crew.specs.Calls.{MadeMore}
use Rattle.build_crew.specs.Forgetting.{AreForgetting, GaveUp, HasForgotten, without}
use Rattle.build_crew.specs.Kept.{AreAllSeats, filled_by, is_kept_by, kept_by, times_by}
use Rattle.build_crew.proofs.Asking.{grown, made_both, made_one, made_none, times_append, count_append, times_none, starts_itself, starts_then}
use Rattle.build_crew.proofs.Counts.{from_zero, kept_tells, log_has, saw_has}
use Rattle.build_crew.proofs.Ending.{met_given, met_times}
use Rattle.build_crew.proofs.Seats.{seats_met}

-- keys in rising order stay so without some
above_without : (f : List ℕ → Bool) (k : List ℕ) (keys : List (List ℕ)) → AreAbove k keys → AreAbove k (filter f keys)
above_without f k [] h = tt
above_without f k (x ∷ keys) h = by (f x) (above_without f k keys h.1)
  where
    by : (b : Bool) → AreAbove k (filter f keys) → AreAbove k (cond b (x ∷ filter f keys) (filter f keys))
    by true rest = (h.0, rest)
    by false rest = rest

pub rising_without : (f : List ℕ → Bool) (keys : List (List ℕ)) → AreRising keys → AreRising (filter f keys)
rising_without f [] h = tt
rising_without f (x ∷ keys) h = by (f x) (rising_without f keys h.1)
  where
    by : (b : Bool) → AreRising (filter f keys) → AreRising (cond b (x ∷ filter f keys) (filter f keys))
    by true rest = (above_without f x keys h.0, rest)
    by false rest = rest

-- the key was not filled at a moment between two, as a seat has seen
pub record Emptied (q : List ℕ) (old new : Seated) : Type 0 where
  pub log : List Call
  pub after : StartsWith log (seen_of old (shard_at old q))
  pub before : StartsWith (seen_of new (shard_at old q)) log
  pub legal : IsLegal log
  pub empty : one_if_filled (state_after log q) ≡ 0

-- a seat that was to give up the values of these keys
pub record Gone (gone : List (List ℕ)) (old new : Seated) : Type 0 where
  pub more : List Call
  pub made : MadeMore old new more
  pub tickets : KeepsTickets old new
  pub filled : (q : List ℕ) → times_of fills q more ≡ 0
  pub claimed : (q : List ℕ) → times_of claims q more ≡ 0
  pub gave : count_of give_backs more ≡ 0
  pub dropped : (q : List ℕ) → has_name gone q ≡ false → times_of drops q more ≡ 0
  pub empty : (q : List ℕ) → has_name gone q ≡ true → Emptied q old new

gone_none : (s : Seated) → Gone [] s s
gone_none s = record {
  more = [];
  made = made_none s;
  tickets = record { cache = refl; number = refl; tickets = λ q. refl };
  filled = λ q. refl;
  claimed = λ q. refl;
  gave = refl;
  dropped = λ q e. refl;
  empty = λ q e. absurd (true≢false (sym e));
}

-- a look leaves the calls
looked_more : (old new : Seated) (key : List ℕ) (P : Mode ℕ → Type 0) → HasLooked old new key P → MadeMore old new []
looked_more old new key P l = record {
  cache = l.kept.cache;
  number = l.kept.number;
  callers = l.kept.callers;
  shards = l.kept.shards;
  calls = l.kept.calls ∙ sym (append-nil old.calls);
  grows = grown old new (shard_at old key) l.grows l.others;
}

looked_empty : (old new : Seated) (key : List ℕ) (mode : Mode ℕ) → one_if_filled mode ≡ 0 → HasLooked old new key (λ m. m ≡ mode) → Emptied key old new
looked_empty old new key mode none l = record {
  log = seen_of new (shard_at old key);
  after = l.grows;
  before = starts_itself (seen_of new (shard_at old key));
  legal = l.legal;
  empty = ap one_if_filled l.mode_is ∙ none;
}

dropped_empty : (old new : Seated) (key : List ℕ) (number : ℕ) → Made old new key (Forget number) → Emptied key old new
dropped_empty old new key number m =
    let before = seen_of old (shard_at old key) ++ m.between in
    let c = call old.number key (Forget number) in
    let is_free : state_after (before ++ c ∷ []) key ≡ free =
    ap (λ (s : List ℕ → Mode ℕ). s key) (state_snoc all_free before c)
    ∙ ap (λ (b : Bool). cond b (mode_after old.number (Forget number) (state_after before key)) (state_after before key)) (bytes_same key key refl) in
    record {
      log = seen_of new (shard_at old key);
      after = (m.between ++ c ∷ [], m.grows ∙ append_assoc (seen_of old (shard_at old key)) m.between (c ∷ []));
      before = starts_itself (seen_of new (shard_at old key));
      legal = m.legal;
      empty = ap one_if_filled (ap (λ l. state_after l key) m.grows ∙ is_free);
    }

-- what one answer tells
pub record One (key : List ℕ) (old new : Seated) : Type 0 where
  pub more : List Call
  pub made : MadeMore old new more
  pub filled : (q : List ℕ) → times_of fills q more ≡ 0
  pub claimed : (q : List ℕ) → times_of claims q more ≡ 0
  pub gave : count_of give_backs more ≡ 0
  pub dropped : (q : List ℕ) → bytes_eq key q ≡ false → times_of drops q more ≡ 0
  pub empty : Emptied key old new

one_looked : (old new : Seated) (key : List ℕ) (mode : Mode ℕ) → one_if_filled mode ≡ 0 → HasLooked old new key (λ m. m ≡ mode) → One key old new
one_looked old new key mode none l = record {
  more = [];
  made = looked_more old new key (λ m. m ≡ mode) l;
  filled = λ q. refl;
  claimed = λ q. refl;
  gave = refl;
  dropped = λ q e. refl;
  empty = looked_empty old new key mode none l;
}

one_gone : {V : Type 0} (stands_for : V → List ℕ → Type 0) (old new : Seated) (key : List ℕ) (r : forget.Forget V) → HasForgot stands_for old new key r → One key old new
one_gone stands_for old new key (answer.Dropped value) (st, (number, m)) = record {
  more = [] ++ call old.number key (Forget number) ∷ [];
  made = made_one old old new [] key (Forget number) (made_none old) m;
  filled = λ q. times_none fills q key [] old.number (Forget number) refl;
  claimed = λ q. times_none claims q key [] old.number (Forget number) refl;
  gave = refl;
  dropped = λ q e. ap (λ (b : Bool). cond b 1 0 + 0) e;
  empty = dropped_empty old new key number m;
}
one_gone stands_for old new key answer.Free l = one_looked old new key free refl l
one_gone stands_for old new key (answer.Busy by) l = one_looked old new key (held by) refl l

-- what was empty between two moments was so between others around them
emptied_wide : (q : List ℕ) (a b c d : Seated) → a.shards ≡ b.shards → ((i : ℕ) → StartsWith (seen_of b i) (seen_of a i)) → ((i : ℕ) → StartsWith (seen_of d i) (seen_of c i)) → Emptied q b c → Emptied q a d
emptied_wide q a b c d same ab cd e =
    let i_is : shard_at b q ≡ shard_at a q = ap (λ n. shard_of n q) (sym same) in
    let after : StartsWith e.log (seen_of b (shard_at a q)) = subst (λ i. StartsWith e.log (seen_of b i)) i_is e.after in
    let before : StartsWith (seen_of c (shard_at a q)) e.log = subst (λ i. StartsWith (seen_of c i) e.log) i_is e.before in
    record {
      log = e.log;
      after = starts_then (seen_of a (shard_at a q)) (seen_of b (shard_at a q)) e.log (ab (shard_at a q)) after;
      before = starts_then e.log (seen_of c (shard_at a q)) (seen_of d (shard_at a q)) before (cd (shard_at a q));
      legal = e.legal;
      empty = e.empty;
    }

gone_more : (key : List ℕ) (gone : List (List ℕ)) (old mid new : Seated) → One key old mid → KeepsTickets old mid → Gone gone mid new → Gone (key ∷ gone) old new
gone_more key gone old mid new one keeps rest = record {
  more = one.more ++ rest.more;
  made = made_both old mid new one.more rest.more one.made rest.made;
  tickets = record {
    cache = rest.tickets.cache ∙ keeps.cache;
    number = rest.tickets.number ∙ keeps.number;
    tickets = λ q. rest.tickets.tickets q ∙ keeps.tickets q;
  };
  filled = λ q. both fills q (one.filled q) (rest.filled q);
  claimed = λ q. both claims q (one.claimed q) (rest.claimed q);
  gave = let a = count_append give_backs one.more rest.more in let b = one.gave in let d = rest.gave in omega (arith, a, b, d);
  dropped = λ q e. let s = neither (bytes_eq q key) (has_name gone q) e in both drops q (one.dropped q (bytes_other q key s.0)) (rest.dropped q s.1);
  empty = λ q e. by q (bytes_eq q key) refl e;
}
  where
    both : (counts : Act → ℕ) (q : List ℕ) → times_of counts q one.more ≡ 0 → times_of counts q rest.more ≡ 0 → times_of counts q (one.more ++ rest.more) ≡ 0
    both counts q a b = let e = times_append counts q one.more rest.more in omega (arith, e, a, b)

    neither : (a b : Bool) → (a || b) ≡ false → (a ≡ false) × (b ≡ false)
    neither true b e = absurd (true≢false e)
    neither false b e = (refl, e)

    by : (q : List ℕ) (b : Bool) → bytes_eq q key ≡ b → (bytes_eq q key || has_name gone q) ≡ true → Emptied q old new
    by q true is e =
        subst (λ k. Emptied k old new) (sym (bytes_true q key is)) (emptied_wide key old old mid new refl (λ i. starts_itself (seen_of old i)) rest.made.grows one.empty)
    by q false is e =
        emptied_wide q old mid new new (sym one.made.shards) one.made.grows (λ i. starts_itself (seen_of new i)) (rest.empty q (sym (ap (λ (b : Bool). b || has_name gone q) is) ∙ e))

pub all_gone_up : {V : Type 0} (stands_for : V → List ℕ → Type 0) (gone : List (List ℕ)) (old new : Seated) → GaveUp stands_for gone old new → Gone gone old new
all_gone_up stands_for [] old new same = subst (Gone [] old) (sym same) (gone_none old)
all_gone_up stands_for (key ∷ gone) old new (mid, r, one, rest) =
    gone_more key gone old mid new (one_gone stands_for old mid key r one) (forgot_keeps stands_for old mid key r one) (all_gone_up stands_for gone mid new rest)

module _ (V : Type 0) (stands_for : V → List ℕ → Type 0) (cache : TableId) (shards : ℕ) (gone : List (List ℕ)) (first mid : Seated) (others news : List Seated)
    (f : AreForgetting V stands_for cache shards gone first mid others news) where
  g : Gone gone first mid
  g = all_gone_up stands_for gone first mid f.gave_up

  all_mid : AreAllSeats cache (suc (length others)) shards 0 (mid ∷ others)
  all_mid = (idle_kept cache first mid f.all.0 g.tickets, g.made.number ∙ f.all.1, g.made.callers ∙ f.all.2, g.made.shards ∙ f.all.3, f.all.4)

  all_news : AreAllSeats cache (suc (length others)) shards 0 news
  all_news = let m = f.met 0 f.some in seats_met cache (suc (length others)) shards 0 0 m.0 (mid ∷ others) news all_mid m.1

  -- so many calls on a key count
  counted : (counts : Act → ℕ) (q : List ℕ) → times_by counts q news ≡ times_by counts q (first ∷ others) + times_of counts q g.more
  counted counts q =
      let m = f.met 0 f.some in
      let a = met_times counts q 0 m.0 (mid ∷ others) news m.1 in
      let b = ap (times_of counts q) g.made.calls ∙ times_append counts q first.calls g.more in
      omega (arith, a, b)

  none_more : (counts : Act → ℕ) (q : List ℕ) → times_of counts q g.more ≡ 0 → times_by counts q news ≡ times_by counts q (first ∷ others)
  none_more counts q none = let a = counted counts q in omega (arith, a, none)

  -- a key whose value was to be given up is filled no more often than that was
  gone_is : (q : List ℕ) → has_name gone q ≡ true → times_by fills q news ≤ times_by drops q news
  gone_is q is = by news all_news (f.met (shard_of shards q) (mod-lt (sum q) f.some)) (f.shared (shard_of shards q) (mod-lt (sum q) f.some)) (none_more fills q (g.filled q))
    where
      i_is : shard_at first q ≡ shard_of shards q
      i_is = ap (λ n. shard_of n q) f.all.3

      by : (ts : List Seated) → AreAllSeats cache (suc (length others)) shards 0 ts → ((log : List Call) × HasMet (shard_of shards q) log (mid ∷ others) ts) → ((log : List Call) × AllSaw (shard_of shards q) log (first ∷ others))
          → times_by fills q ts ≡ times_by fills q (first ∷ others) → times_by fills q ts ≤ times_by drops q ts
      by [] all m saw same = absurd m.1
      by (t ∷ ts) all m saw same = tell e.log e.legal e.empty starts ends
        where
          e : Emptied q first mid
          e = g.empty q is

          starts : StartsWith e.log saw.0
          starts = subst (λ l. StartsWith e.log l) (ap (seen_of first) i_is ∙ saw.1.0.seen) e.after

          ends : StartsWith m.0 e.log
          ends = starts_then e.log (seen_of mid (shard_of shards q)) m.0 (subst (λ i. StartsWith (seen_of mid i) e.log) i_is e.before) m.1.1.begins

          total : (counts : Act → ℕ) → times_of counts q m.0 ≡ times_by counts q (t ∷ ts)
          total counts =
              ap (times_of counts q) (sym (from_zero m.0))
              ∙ log_has counts q cache (suc (length others)) shards (shard_of shards q) 0 m.0 (mid ∷ others) (t ∷ ts) all m.1
              (subst (λ (n : ℕ). AreBelow n m.0) (g.made.callers ∙ f.all.2) m.1.1.numbers) refl

          old_total : times_of fills q saw.0 ≡ times_by fills q (first ∷ others)
          old_total =
              ap (times_of fills q) (sym (from_zero saw.0))
              ∙ saw_has fills q cache (suc (length others)) shards (shard_of shards q) 0 saw.0 (first ∷ others) f.all saw.1
              (subst (λ (n : ℕ). AreBelow n saw.0) f.all.2 saw.1.0.numbers) refl

          tell : (log : List Call) → IsLegal log → one_if_filled (state_after log q) ≡ 0 → StartsWith log saw.0 → StartsWith m.0 log → times_by fills q (t ∷ ts) ≤ times_by drops q (t ∷ ts)
          tell log legal empty (xs, at_first) (ys, at_last) =
              let turn = filled_in_turn log q legal in
              let a = ap (times_of fills q) at_first ∙ times_append fills q saw.0 xs in
              let b = ap (times_of fills q) at_last ∙ times_append fills q log ys in
              let c = ap (times_of drops q) at_last ∙ times_append drops q log ys in
              let d = total fills in
              let h = total drops in
              omega (arith, turn, empty, a, b, c, d, h, old_total, same)

  same_key : (q : List ℕ) → has_name (kept_by news) q ≡ has_name (without gone (kept_by (first ∷ others))) q
  same_key q = by (has_name gone q) refl (kept_tells q news) (kept_tells q (first ∷ others)) ∙ sym (among_filtered (λ key. not (has_name gone key)) q (kept_by (first ∷ others)))
    where
      KeptOrNot : List Seated → Type 0
      KeptOrNot seats = ((times_by fills q seats ≤ times_by drops q seats) × (has_name (kept_by seats) q ≡ false)) ⊎ ((times_by drops q seats + 1 ≤ times_by fills q seats) × (has_name (kept_by seats) q ≡ true))

      with_true : (a : Bool) → (a && true) ≡ a
      with_true true = refl
      with_true false = refl

      with_false : (a : Bool) → (a && false) ≡ false
      with_false true = refl
      with_false false = refl

      by : (b : Bool) → has_name gone q ≡ b → KeptOrNot news → KeptOrNot (first ∷ others) → has_name (kept_by news) q ≡ (has_name (kept_by (first ∷ others)) q && not (has_name gone q))
      by true e (inl n) o = n.1 ∙ sym (ap (λ (b : Bool). has_name (kept_by (first ∷ others)) q && not b) e ∙ with_false (has_name (kept_by (first ∷ others)) q))
      by true e (inr n) o = let a = gone_is q e in let b = n.0 in absurd (omega (arith, a, b))
      by false e n o = stays n o ∙ sym (ap (λ (b : Bool). has_name (kept_by (first ∷ others)) q && not b) e ∙ with_true (has_name (kept_by (first ∷ others)) q))
        where
          filled : times_by fills q news ≡ times_by fills q (first ∷ others)
          filled = none_more fills q (g.filled q)

          dropped : times_by drops q news ≡ times_by drops q (first ∷ others)
          dropped = none_more drops q (g.dropped q e)

          stays : KeptOrNot news → KeptOrNot (first ∷ others) → has_name (kept_by news) q ≡ has_name (kept_by (first ∷ others)) q
          stays (inl n) (inl o) = n.1 ∙ sym o.1
          stays (inr n) (inr o) = n.1 ∙ sym o.1
          stays (inl n) (inr o) = let a = n.0 in let b = o.0 in let c = filled in let d = dropped in absurd (omega (arith, a, b, c, d))
          stays (inr n) (inl o) = let a = n.0 in let b = o.0 in let c = filled in let d = dropped in absurd (omega (arith, a, b, c, d))

  pub forgotten : HasForgotten cache shards gone (first ∷ others) news
  forgotten = record {
    kept = same_rising (kept_by news) (without gone (kept_by (first ∷ others))) (rising_order (filter (is_kept_by news) (filled_by news)))
        (rising_without (λ key. not (has_name gone key)) (kept_by (first ∷ others)) (rising_order (filter (is_kept_by (first ∷ others)) (filled_by (first ∷ others))))) same_key;
    all = all_news;
    claimed = λ q. none_more claims q (g.claimed q);
    given =
        let m = f.met 0 f.some in
        let a = met_given 0 m.0 (mid ∷ others) news m.1 in
        let b = ap (count_of give_backs) g.made.calls ∙ count_append give_backs first.calls g.more in
        let d = g.gave in
        omega (arith, a, b, d);
  }
