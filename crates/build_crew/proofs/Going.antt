-- What the jobs of a crew add to the calls of its seats.
use Rattle.std.proofs.Common.{◌≡◌, ℕ, ◌+◌, ◌-◌, ◌≤◌, List, [], ◌∷◌, ◌++◌, Bool, true, false, cond, slice_get, Option, Some, None, refl, sym, ap, subst, ◌∙◌, arith, append_assoc}
use Rattle.std.specs.List.{concat}
use Rattle.std.specs.Str.{bytes_eq}
use Rattle.std.proofs.lemmas.List.{append-nil}
use Rattle.result_cache.specs.declared.call.Act.{Act}
use Rattle.result_cache.specs.declared.call.Call.{Call}
use Rattle.result_cache.specs.Counts.{claims, fills, give_backs, drops, count_of, times_of}
use Rattle.result_cache.specs.Seats.{Seated, seen_of}
use Rattle.result_cache.specs.Shared.{StartsWith}
use Rattle.result_cache.proofs.Keys.{bytes_true}
use Rattle.work_crew.specs.Along.{Along, Last}
use Rattle.work_crew.specs.Outcome.{Way, AllGone, Went, AllWent, all_done, all_ticks}
use Rattle.build_crew.specs.Calls.{Does, Fails, one_if, hits, MadeMore, HasFound, HasFailed}
use Rattle.build_crew.specs.Kept.{times_by, given_back}
use Rattle.build_crew.proofs.Asking.{times_append, count_append, starts_itself, starts_then}

-- what a job found: its key, and whether its value is new
abbrev pub Find : Type 0
Find = List ℕ × Bool

-- how often they built the key
abbrev pub built_of : List ℕ → List Find → ℕ
built_of q [] = 0
built_of q (x ∷ xs) = cond x.1 (one_if (bytes_eq x.0 q)) 0 + built_of q xs

-- how often the key is one of theirs
abbrev pub asked_of : List ℕ → List Find → ℕ
asked_of q [] = 0
asked_of q (x ∷ xs) = one_if (bytes_eq x.0 q) + asked_of q xs

-- how many values are new
abbrev pub all_built : List Find → ℕ
all_built [] = 0
all_built (x ∷ xs) = one_if x.1 + all_built xs

-- each key that was not built was hit by one of these calls
abbrev pub AllHit : List Find → (List ℕ → ℕ) → Type 0
AllHit [] hit = Unit {0}
AllHit (x ∷ xs) hit = (x.1 ≡ false → 1 ≤ hit x.0) × AllHit xs hit

pub all_hit_more : (xs : List Find) (f g : List ℕ → ℕ) → ((q : List ℕ) → f q ≤ g q) → AllHit xs f → AllHit xs g
all_hit_more [] f g le h = tt
all_hit_more (x ∷ xs) f g le h = (λ e. let a = h.0 e in let b = le x.0 in omega (arith, a, b), all_hit_more xs f g le h.1)

all_hit_append : (xs ys : List Find) (f : List ℕ → ℕ) → AllHit xs f → AllHit ys f → AllHit (xs ++ ys) f
all_hit_append [] ys f h g = g
all_hit_append (x ∷ xs) ys f h g = (h.0, all_hit_append xs ys f h.1 g)

built_append : (q : List ℕ) (xs ys : List Find) → built_of q (xs ++ ys) ≡ built_of q xs + built_of q ys
built_append q [] ys = omega arith
built_append q (x ∷ xs) ys = let e = built_append q xs ys in omega (arith, e)

asked_append : (q : List ℕ) (xs ys : List Find) → asked_of q (xs ++ ys) ≡ asked_of q xs + asked_of q ys
asked_append q [] ys = omega arith
asked_append q (x ∷ xs) ys = let e = asked_append q xs ys in omega (arith, e)

all_built_append : (xs ys : List Find) → all_built (xs ++ ys) ≡ all_built xs + all_built ys
all_built_append [] ys = omega arith
all_built_append (x ∷ xs) ys = let e = all_built_append xs ys in omega (arith, e)

-- a seat that found these, and gave so many tickets back
pub record Finds (xs : List Find) (gave : ℕ) (old new : Seated) (n : ℕ) : Type 0 where
  pub number : new.number ≡ old.number
  pub callers : new.callers ≡ old.callers
  pub shards : new.shards ≡ old.shards
  pub filled : (q : List ℕ) → times_of fills q new.calls ≡ times_of fills q old.calls + built_of q xs
  pub claimed : (q : List ℕ) → times_of claims q old.calls + asked_of q xs ≤ times_of claims q new.calls
  pub dropped : (q : List ℕ) → times_of drops q new.calls ≡ times_of drops q old.calls
  pub grows : (i : ℕ) → StartsWith (seen_of new i) (seen_of old i)
  pub hit : AllHit xs (λ q. times_of hits q new.calls - times_of hits q old.calls)
  pub more_hit : (q : List ℕ) → times_of hits q old.calls ≤ times_of hits q new.calls
  pub given : count_of give_backs new.calls ≡ count_of give_backs old.calls + gave
  pub ticks : n ≤ all_built xs + gave

finds_none : (s : Seated) → Finds [] 0 s s 0
finds_none s = record {
  number = refl;
  callers = refl;
  shards = refl;
  filled = λ q. omega arith;
  claimed = λ q. omega arith;
  dropped = λ q. refl;
  grows = λ i. starts_itself (seen_of s i);
  hit = tt;
  more_hit = λ q. omega arith;
  given = omega arith;
  ticks = omega arith;
}

-- one after the other
finds_both : (xs ys : List Find) (a b : ℕ) (s t u : Seated) (m n : ℕ) → Finds xs a s t m → Finds ys b t u n → Finds (xs ++ ys) (a + b) s u (m + n)
finds_both xs ys a b s t u m n f g = record {
  number = g.number ∙ f.number;
  callers = g.callers ∙ f.callers;
  shards = g.shards ∙ f.shards;
  filled = λ q. let x = f.filled q in let y = g.filled q in let z = built_append q xs ys in omega (arith, x, y, z);
  claimed = λ q. let x = f.claimed q in let y = g.claimed q in let z = asked_append q xs ys in omega (arith, x, y, z);
  dropped = λ q. g.dropped q ∙ f.dropped q;
  grows = λ i. starts_then (seen_of s i) (seen_of t i) (seen_of u i) (f.grows i) (g.grows i);
  hit = all_hit_append xs ys (λ q. times_of hits q u.calls - times_of hits q s.calls)
      (all_hit_more xs (λ q. times_of hits q t.calls - times_of hits q s.calls) (λ q. times_of hits q u.calls - times_of hits q s.calls) (λ q. let x = g.more_hit q in omega (arith, x)) f.hit)
      (all_hit_more ys (λ q. times_of hits q u.calls - times_of hits q t.calls) (λ q. times_of hits q u.calls - times_of hits q s.calls) (λ q. let x = f.more_hit q in omega (arith, x)) g.hit);
  more_hit = λ q. let x = f.more_hit q in let y = g.more_hit q in omega (arith, x, y);
  given = let x = f.given in let y = g.given in omega (arith, x, y);
  ticks = let x = f.ticks in let y = g.ticks in let z = all_built_append xs ys in omega (arith, x, y, z);
}

-- calls that were made more are counted more
counted_more : (counts : Act → ℕ) (q : List ℕ) (s t : Seated) (more : List Call) → MadeMore s t more → times_of counts q t.calls ≡ times_of counts q s.calls + times_of counts q more
counted_more counts q s t more m = ap (times_of counts q) m.calls ∙ times_append counts q s.calls more

given_more : (s t : Seated) (more : List Call) → MadeMore s t more → count_of give_backs t.calls ≡ count_of give_backs s.calls + count_of give_backs more
given_more s t more m = ap (count_of give_backs) m.calls ∙ count_append give_backs s.calls more

finds_one : (key : List ℕ) (is_new : Bool) (s t : Seated) (n : ℕ) → HasFound key is_new s t n → Finds ((key, is_new) ∷ []) 0 s t n
finds_one key is_new s t n h = record {
  number = h.made.number;
  callers = h.made.callers;
  shards = h.made.shards;
  filled = λ q. let a = counted_more fills q s t h.more h.made in let b = h.filled q in omega (arith, a, b);
  claimed = λ q. by q (bytes_eq key q) refl;
  dropped = λ q. let a = counted_more drops q s t h.more h.made in let b = h.dropped q in omega (arith, a, b);
  grows = h.made.grows;
  hit = (λ e. let a = counted_more hits key s t h.more h.made in let b = h.hit e in omega (arith, a, b), tt);
  more_hit = λ q. let a = counted_more hits q s t h.more h.made in omega (arith, a);
  given = let a = given_more s t h.more h.made in let b = h.gave in omega (arith, a, b);
  ticks = let a = h.ticks in omega (arith, a);
}
  where
    by : (q : List ℕ) (b : Bool) → bytes_eq key q ≡ b → times_of claims q s.calls + (one_if (bytes_eq key q) + 0) ≤ times_of claims q t.calls
    by q true e =
        let a = counted_more claims q s t h.more h.made in
        let c : 1 ≤ times_of claims q h.more = subst (λ (k : List ℕ). 1 ≤ times_of claims k h.more) (bytes_true key q e) h.claimed in
        let d : one_if (bytes_eq key q) ≡ 1 = ap one_if e in
        omega (arith, a, c, d)
    by q false e =
        let a = counted_more claims q s t h.more h.made in
        let d : one_if (bytes_eq key q) ≡ 0 = ap one_if e in
        omega (arith, a, d)

finds_failed : (s t : Seated) (n : ℕ) → HasFailed s t n → (gave : ℕ) × Finds [] gave s t n
finds_failed s t n h = (
  count_of give_backs h.more,
  record {
    number = h.made.number;
    callers = h.made.callers;
    shards = h.made.shards;
    filled = λ q. let a = counted_more fills q s t h.more h.made in let b = h.filled q in omega (arith, a, b);
    claimed = λ q. let a = counted_more claims q s t h.more h.made in omega (arith, a);
    dropped = λ q. let a = counted_more drops q s t h.more h.made in let b = h.dropped q in omega (arith, a, b);
    grows = h.made.grows;
    hit = tt;
    more_hit = λ q. let a = counted_more hits q s t h.more h.made in omega (arith, a);
    given = given_more s t h.more h.made;
    ticks = let a = h.ticks in omega (arith, a);
  },
)

-- each seat forgot nothing of what it had seen
abbrev pub AllGrew : List Seated → List Seated → Type 0
AllGrew [] [] = Unit {0}
AllGrew (s ∷ olds) (t ∷ news) = ((i : ℕ) → StartsWith (seen_of t i) (seen_of s i)) × AllGrew olds news
AllGrew [] (t ∷ news) = ⊥
AllGrew (s ∷ olds) [] = ⊥

-- all seats, each of which found what stands at its place
pub record AllFind (xs : List Find) (gave : ℕ) (olds news : List Seated) (n : ℕ) : Type 0 where
  pub filled : (q : List ℕ) → times_by fills q news ≡ times_by fills q olds + built_of q xs
  pub claimed : (q : List ℕ) → times_by claims q olds + asked_of q xs ≤ times_by claims q news
  pub dropped : (q : List ℕ) → times_by drops q news ≡ times_by drops q olds
  pub grows : AllGrew olds news
  pub hit : AllHit xs (λ q. times_by hits q news - times_by hits q olds)
  pub more_hit : (q : List ℕ) → times_by hits q olds ≤ times_by hits q news
  pub given : given_back news ≡ given_back olds + gave
  pub ticks : n ≤ all_built xs + gave

all_find_none : AllFind [] 0 [] [] 0
all_find_none = record {
  filled = λ q. omega arith;
  claimed = λ q. omega arith;
  dropped = λ q. refl;
  grows = tt;
  hit = tt;
  more_hit = λ q. omega arith;
  given = omega arith;
  ticks = omega arith;
}

all_find_more : (xs ys : List Find) (a b : ℕ) (s t : Seated) (olds news : List Seated) (m n : ℕ) → Finds xs a s t m → AllFind ys b olds news n → AllFind (xs ++ ys) (a + b) (s ∷ olds) (t ∷ news) (m + n)
all_find_more xs ys a b s t olds news m n f g = record {
  filled = λ q. let x = f.filled q in let y = g.filled q in let z = built_append q xs ys in omega (arith, x, y, z);
  claimed = λ q. let x = f.claimed q in let y = g.claimed q in let z = asked_append q xs ys in omega (arith, x, y, z);
  dropped = λ q. let x = f.dropped q in let y = g.dropped q in omega (arith, x, y);
  grows = (f.grows, g.grows);
  hit = all_hit_append xs ys (λ q. times_by hits q (t ∷ news) - times_by hits q (s ∷ olds))
      (all_hit_more xs (λ q. times_of hits q t.calls - times_of hits q s.calls) (λ q. times_by hits q (t ∷ news) - times_by hits q (s ∷ olds)) (λ q. let x = g.more_hit q in omega (arith, x)) f.hit)
      (all_hit_more ys (λ q. times_by hits q news - times_by hits q olds) (λ q. times_by hits q (t ∷ news) - times_by hits q (s ∷ olds)) (λ q. let x = f.more_hit q in omega (arith, x)) g.hit);
  more_hit = λ q. let x = f.more_hit q in let y = g.more_hit q in omega (arith, x, y);
  given = let x = f.given in let y = g.given in omega (arith, x, y);
  ticks = let x = f.ticks in let y = g.ticks in let z = all_built_append xs ys in omega (arith, x, y, z);
}

module _ {O : Type 0} (key_of : ℕ → List ℕ) (new_of : O → Bool) where
  -- what jobs with these outputs found
  abbrev pub finds_in : List (ℕ × O) → List Find
  finds_in [] = []
  finds_in (x ∷ xs) = (key_of x.0, new_of x.1) ∷ finds_in xs

  finds_in_append : (xs ys : List (ℕ × O)) → finds_in (xs ++ ys) ≡ finds_in xs ++ finds_in ys
  finds_in_append [] ys = refl
  finds_in_append (x ∷ xs) ys = ap (λ (l : List Find). (key_of x.0, new_of x.1) ∷ l) (finds_in_append xs ys)

  finds_along : (xs : List (ℕ × O)) (s t : Seated) (n : ℕ) → Along (Does key_of new_of) xs s t n → Finds (finds_in xs) 0 s t n
  finds_along [] s t n (same, none) = subst (λ (x : Seated × ℕ). Finds [] 0 s x.0 x.1) (λ i. (same i, sym none i)) (finds_none s)
  finds_along (x ∷ xs) s t n (mid, a, b, one, more, is) =
      subst (Finds (finds_in (x ∷ xs)) 0 s t) (sym is)
      (finds_both ((key_of x.0, new_of x.1) ∷ []) (finds_in xs) 0 0 s mid t a b (finds_one (key_of x.0) (new_of x.1) s mid a one) (finds_along xs mid t b more))

  finds_last : (failed : List ℕ) (s t : Seated) (n : ℕ) → Last (Fails key_of new_of) failed s t n → (gave : ℕ) × Finds [] gave s t n
  finds_last [] s t n (same, none) = (0, subst (λ (x : Seated × ℕ). Finds [] 0 s x.0 x.1) (λ i. (same i, sym none i)) (finds_none s))
  finds_last (k ∷ []) s t n h = finds_failed s t n h
  finds_last (k ∷ l ∷ ks) s t n h = absurd h

  -- all went their ways
  pub all_gone : (ways : List (Way O)) (olds news : List Seated) → AllGone (Does key_of new_of) (Fails key_of new_of) ways olds news → (gave : ℕ) × AllFind (finds_in (all_done ways)) gave olds news (all_ticks ways)
  all_gone [] [] [] h = (0, all_find_none)
  all_gone (g ∷ gs) (s ∷ olds) (t ∷ news) ((mid, a, b, along, last, is), rest) =
      let end = finds_last g.failed mid t b last in
      let more = all_gone gs olds news rest in
      let from_none : 0 + end.0 ≡ end.0 = omega arith in
      let one : Finds (finds_in g.done) end.0 s t g.ticks =
      subst (λ (x : List Find × ℕ × ℕ). Finds x.0 x.1 s t x.2) (λ i. (append-nil (finds_in g.done) i, from_none i, sym is i))
      (finds_both (finds_in g.done) [] 0 end.0 s mid t a b (finds_along g.done s mid a along) end.1) in (
        end.0 + more.0,
        subst (λ (xs : List Find). AllFind xs (end.0 + more.0) (s ∷ olds) (t ∷ news) (g.ticks + all_ticks gs)) (sym (finds_in_append g.done (all_done gs)))
            (all_find_more (finds_in g.done) (finds_in (all_done gs)) end.0 more.0 s t olds news g.ticks (all_ticks gs) one more.1),
      )
  all_gone [] [] (t ∷ news) h = absurd h
  all_gone [] (s ∷ olds) news h = absurd h
  all_gone (g ∷ gs) [] news h = absurd h
  all_gone (g ∷ gs) (s ∷ olds) [] h = absurd h

  -- what the jobs of a list found, by the outputs
  abbrev pub found_by : ℕ → Option O → List Find
  found_by k None = []
  found_by k (Some o) = (key_of k, new_of o) ∷ []

  abbrev pub find_at : List O → ℕ → List Find
  find_at items k = found_by k (slice_get items k)

  abbrev pub finds_by : List O → List ℕ → List Find
  finds_by items [] = []
  finds_by items (k ∷ ks) = find_at items k ++ finds_by items ks

  finds_went : (items : List O) (ks : List ℕ) (s t : Seated) (n : ℕ) → Went (Does key_of new_of) items ks s t n → Finds (finds_by items ks) 0 s t n
  finds_went items [] s t n (same, none) = subst (λ (x : Seated × ℕ). Finds [] 0 s x.0 x.1) (λ i. (same i, sym none i)) (finds_none s)
  finds_went items (k ∷ ks) s t n (o, mid, a, b, is, one, more, sum) =
      subst (Finds (finds_by items (k ∷ ks)) 0 s t) (sym sum)
      (subst (λ (xs : List Find). Finds (xs ++ finds_by items ks) 0 s t (a + b)) (sym (at_is k o is))
      (finds_both ((key_of k, new_of o) ∷ []) (finds_by items ks) 0 0 s mid t a b (finds_one (key_of k) (new_of o) s mid a one) (finds_went items ks mid t b more)))
    where
      at_is : (k : ℕ) (o : O) → slice_get items k ≡ Some o → find_at items k ≡ (key_of k, new_of o) ∷ []
      at_is k o e = ap (found_by k) e

  finds_by_append : (items : List O) (ks ls : List ℕ) → finds_by items (ks ++ ls) ≡ finds_by items ks ++ finds_by items ls
  finds_by_append items [] ls = refl
  finds_by_append items (k ∷ ks) ls =
      ap (λ (l : List Find). find_at items k ++ l) (finds_by_append items ks ls)
      ∙ sym (append_assoc (find_at items k) (finds_by items ks) (finds_by items ls))

  pub all_went : (items : List O) (taken : List (List ℕ)) (olds news : List Seated) (n : ℕ) → AllWent (Does key_of new_of) items taken olds news n → AllFind (finds_by items (concat taken)) 0 olds news n
  all_went items [] [] [] n none = subst (AllFind [] 0 [] []) (sym none) all_find_none
  all_went items (l ∷ ls) (s ∷ olds) (t ∷ news) n (a, b, one, more, is) =
      subst (AllFind (finds_by items (concat (l ∷ ls))) 0 (s ∷ olds) (t ∷ news)) (sym is)
      (subst (λ (xs : List Find). AllFind xs 0 (s ∷ olds) (t ∷ news) (a + b)) (sym (finds_by_append items l (concat ls)))
      (all_find_more (finds_by items l) (finds_by items (concat ls)) 0 0 s t olds news a b (finds_went items l s t a one) (all_went items ls olds news b more)))
  all_went items [] [] (t ∷ news) n h = absurd h
  all_went items [] (s ∷ olds) news n h = absurd h
  all_went items (l ∷ ls) [] news n h = absurd h
  all_went items (l ∷ ls) (s ∷ olds) [] n h = absurd h
