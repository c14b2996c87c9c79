-- What a crew leaves, by what its workers went through.
use Rattle.std.proofs.Common.{◌≡◌, ◌≢◌, ◌⊎◌, inl, inr, ℕ, zero, suc, ◌+◌, ◌-◌, ◌<◌, ◌≤◌, List, [], ◌∷◌, ◌++◌, Bool, true, false, cond, length, slice_get, Option, Some, None, refl, sym, ap, subst, ◌∙◌, arith}
use Rattle.std.specs.Prelude.{map}
use Rattle.std.specs.List.{concat, range_with_len}
use Rattle.std.specs.Str.{bytes_eq}
use Rattle.rtl_sig.specs.Names.{has_name}
use Rattle.result_cache.specs.declared.call.Act.{Act}
use Rattle.result_cache.specs.declared.call.Call.{Call}
use Rattle.result_cache.specs.Meet.{HasMet}
use Rattle.result_cache.specs.Counts.{claims, drops, fills, give_backs, count_of, times_of}
use Rattle.result_cache.specs.Seats.{Seated}
use Rattle.result_cache.proofs.Keys.{bytes_same}
use Rattle.result_cache.proofs.NewKeys.{keys_below, below_more}
use Rattle.work_crew.specs.Times.{times, once_below}
use Rattle.work_crew.specs.Along.{numbers_of}
use Rattle.work_crew.specs.Outcome.{Way, all_done, all_numbers, all_ticks, Finished, Stopped}
use Rattle.work_crew.proofs.Counting.{same_or, below_or, eq_one, ne_none, lt_once, ge_none, times_append}
use Rattle.build_crew.specs.Calls.{Does, Fails, one_if, hits}
use Rattle.build_crew.specs.Kept.{times_by, given_back}
use Rattle.build_crew.specs.Leaves.{times_among, new_among, HasRun, HasStopped}
use Rattle.build_crew.proofs.Numbers.{job_of, of_job}
use Rattle.build_crew.proofs.Going.{Find, built_of, asked_of, all_built, AllHit, all_hit_more, AllFind, found_by, find_at, finds_by, finds_in, all_went, all_gone}
use Rattle.build_crew.proofs.Counts.{Tallies}
use Rattle.build_crew.proofs.Keeping.{total, summed, summed_same, summed_front, permuted, AllAmong, built_few, kept_still, built_all, kept_all}

-- seats that met made the calls that they had made
pub met_times : (counts : Act → ℕ) (q : List ℕ) (i : ℕ) (log : List Call) (mids news : List Seated) → HasMet i log mids news → times_by counts q news ≡ times_by counts q mids
met_times counts q i log [] [] m = refl
met_times counts q i log [] (t ∷ news) m = absurd m
met_times counts q i log (s ∷ mids) [] m = absurd m
met_times counts q i log (s ∷ mids) (t ∷ news) m =
    let a = ap (times_of counts q) m.0.calls in
    let b = met_times counts q i log mids news m.3 in
    omega (arith, a, b)

pub met_given : (i : ℕ) (log : List Call) (mids news : List Seated) → HasMet i log mids news → given_back news ≡ given_back mids
met_given i log [] [] m = refl
met_given i log [] (t ∷ news) m = absurd m
met_given i log (s ∷ mids) [] m = absurd m
met_given i log (s ∷ mids) (t ∷ news) m =
    let a = ap (count_of give_backs) m.0.calls in
    let b = met_given i log mids news m.3 in
    omega (arith, a, b)

-- the item at a place
item_at : {O : Type 0} (items : List O) (j : ℕ) → j < length items → (o : O) × (slice_get items j ≡ Some o)
item_at [] j lt = absurd (omega (arith, lt))
item_at (x ∷ items) zero lt = (x, refl)
item_at (x ∷ items) (suc j) lt = item_at items j (omega (arith, lt))

among_append : (keys : List (List ℕ)) (xs ys : List Find) → AllAmong keys xs → AllAmong keys ys → AllAmong keys (xs ++ ys)
among_append keys [] ys h g = g
among_append keys (x ∷ xs) ys h g = (h.0, among_append keys xs ys h.1 g)

hit_parts : (xs ys : List Find) (f : List ℕ → ℕ) → AllHit (xs ++ ys) f → AllHit xs f × AllHit ys f
hit_parts [] ys f h = (tt, h)
hit_parts (x ∷ xs) ys f h = let r = hit_parts xs ys f h.1 in ((h.0, r.0), r.1)

times_among_append : (q : List ℕ) (xs ys : List (List ℕ)) → times_among q (xs ++ ys) ≡ times_among q xs + times_among q ys
times_among_append q [] ys = omega arith
times_among_append q (x ∷ xs) ys = let e = times_among_append q xs ys in omega (arith, e)

built_parts : (q : List ℕ) (xs ys : List Find) → built_of q (xs ++ ys) ≡ built_of q xs + built_of q ys
built_parts q [] ys = omega arith
built_parts q (x ∷ xs) ys = let e = built_parts q xs ys in omega (arith, e)

all_built_parts : (xs ys : List Find) → all_built (xs ++ ys) ≡ all_built xs + all_built ys
all_built_parts [] ys = omega arith
all_built_parts (x ∷ xs) ys = let e = all_built_parts xs ys in omega (arith, e)

asked_parts : (q : List ℕ) (xs ys : List Find) → asked_of q (xs ++ ys) ≡ asked_of q xs + asked_of q ys
asked_parts q [] ys = omega arith
asked_parts q (x ∷ xs) ys = let e = asked_parts q xs ys in omega (arith, e)

-- one that stands in a list that holds each number below count at most once is below count
below_count : (k count n : ℕ) → 1 ≤ n → n ≤ once_below k count → k < count
below_count k count n some few = by (below_or k count)
  where
    by : (k < count) ⊎ (count ≤ k) → k < count
    by (inl lt) = lt
    by (inr le) = let a = ge_none k count le in absurd (omega (arith, a, some, few))

module _ {O : Type 0} (key_of : ℕ → List ℕ) (new_of : O → Bool) (count : ℕ) where
  abbrev keys : List (List ℕ)
  keys = map key_of (range_with_len 0 count)

  is_key : (k : ℕ) → k < count → has_name keys (key_of k) ≡ true
  is_key k lt = of_job key_of 0 count k (omega arith) (omega (arith, lt))

  -- what was found are keys of jobs
  among_by : (items : List O) (ks : List ℕ) → ((k : ℕ) → 1 ≤ times k ks → k < count) → AllAmong keys (finds_by key_of new_of items ks)
  among_by items [] h = tt
  among_by items (k ∷ ks) h =
      among_append keys (find_at key_of new_of items k) (finds_by key_of new_of items ks) (one (slice_get items k)) (among_by items ks (λ n some. h n (let s = some in omega (arith, s))))
    where
      one : (o : Option O) → AllAmong keys (found_by key_of new_of k o)
      one None = tt
      one (Some o) = (is_key k (h k (let a = eq_one k k refl in omega (arith, a))), tt)

  among_in : (xs : List (ℕ × O)) → ((k : ℕ) → 1 ≤ times k (numbers_of xs) → k < count) → AllAmong keys (finds_in key_of new_of xs)
  among_in [] h = tt
  among_in (x ∷ xs) h = (is_key x.0 (h x.0 (let a = eq_one x.0 x.0 refl in omega (arith, a))), among_in xs (λ n some. h n (omega (arith, some))))

  -- the job at a place built its key, or hit it
  entry : (items : List O) (ks : List ℕ) (j : ℕ) (o : O) (f : List ℕ → ℕ) → 1 ≤ times j ks → slice_get items j ≡ Some o → AllHit (finds_by key_of new_of items ks) f
      → (1 ≤ built_of (key_of j) (finds_by key_of new_of items ks)) ⊎ (1 ≤ f (key_of j))
  entry items [] j o f some is all = absurd (omega (arith, some))
  entry items (k ∷ ks) j o f some is all =
      by (same_or k j) (hit_parts (find_at key_of new_of items k) (finds_by key_of new_of items ks) f all) (entry items ks j o f)
    where
      parts : built_of (key_of j) (find_at key_of new_of items k ++ finds_by key_of new_of items ks)
          ≡ built_of (key_of j) (find_at key_of new_of items k) + built_of (key_of j) (finds_by key_of new_of items ks)
      parts = built_parts (key_of j) (find_at key_of new_of items k) (finds_by key_of new_of items ks)

      Goal : Type 0
      Goal = (1 ≤ built_of (key_of j) (find_at key_of new_of items k ++ finds_by key_of new_of items ks)) ⊎ (1 ≤ f (key_of j))

      spread : (1 ≤ built_of (key_of j) (finds_by key_of new_of items ks)) ⊎ (1 ≤ f (key_of j)) → Goal
      spread (inl b) = inl (let p = parts in omega (arith, p, b))
      spread (inr h) = inr h

      at_j : k ≡ j → find_at key_of new_of items k ≡ (key_of j, new_of o) ∷ []
      at_j e = ap (find_at key_of new_of items) e ∙ ap (found_by key_of new_of j) is

      here : k ≡ j → (b : Bool) → new_of o ≡ b → AllHit (find_at key_of new_of items k) f → Goal
      here e true n h =
          let one : built_of (key_of j) (find_at key_of new_of items k) ≡ 1 =
          ap (built_of (key_of j)) (at_j e)
          ∙ ap (λ (b : Bool). cond b (one_if (bytes_eq (key_of j) (key_of j))) 0 + 0) n
          ∙ ap (λ (b : Bool). one_if b + 0) (bytes_same (key_of j) (key_of j) refl) in
          inl (let p = parts in omega (arith, p, one))
      here e false n h = inr ((subst (λ (xs : List Find). AllHit xs f) (at_j e) h).0 n)

      by : (k ≡ j) ⊎ (k ≢ j) → AllHit (find_at key_of new_of items k) f × AllHit (finds_by key_of new_of items ks) f
          → (1 ≤ times j ks → slice_get items j ≡ Some o → AllHit (finds_by key_of new_of items ks) f → (1 ≤ built_of (key_of j) (finds_by key_of new_of items ks)) ⊎ (1 ≤ f (key_of j))) → Goal
      by (inl e) h later = here e (new_of o) refl h.0
      by (inr ne) h later = let z = ne_none k j ne in spread (later (omega (arith, some, z)) is h.1)

  -- sums over what was found
  built_sum : (items : List O) (ks : List ℕ) → all_built (finds_by key_of new_of items ks) ≡ total (λ k. all_built (find_at key_of new_of items k)) ks
  built_sum items [] = refl
  built_sum items (k ∷ ks) = let a = all_built_parts (find_at key_of new_of items k) (finds_by key_of new_of items ks) in let b = built_sum items ks in omega (arith, a, b)

  asked_sum : (q : List ℕ) (items : List O) (ks : List ℕ) → asked_of q (finds_by key_of new_of items ks) ≡ total (λ k. asked_of q (find_at key_of new_of items k)) ks
  asked_sum q items [] = refl
  asked_sum q items (k ∷ ks) = let a = asked_parts q (find_at key_of new_of items k) (finds_by key_of new_of items ks) in let b = asked_sum q items ks in omega (arith, a, b)

-- the new ones among items, one after another
new_sum : {O : Type 0} (new_of : O → Bool) (items : List O) → summed (λ k. all_built (find_at (λ n. []) new_of items k)) (length items) ≡ new_among new_of items
new_sum new_of [] = refl
new_sum new_of (x ∷ items) =
    let a = summed_front (λ k. all_built (find_at (λ n. []) new_of (x ∷ items) k)) (length items) in
    let b = new_sum new_of items in
    omega (arith, a, b)

-- which key they have does not matter to their number
new_same : {O : Type 0} (key_of : ℕ → List ℕ) (new_of : O → Bool) (items : List O) (k : ℕ) → all_built (find_at key_of new_of items k) ≡ all_built (find_at (λ n. []) new_of items k)
new_same {O = O} key_of new_of items k = by (slice_get items k)
  where
    by : (o : Option O) → all_built (found_by key_of new_of k o) ≡ all_built (found_by (λ n. []) new_of k o)
    by None = refl
    by (Some o) = refl

keys_sum : (q : List ℕ) (key_of : ℕ → List ℕ) (n : ℕ) → summed (λ k. one_if (bytes_eq (key_of k) q)) n ≡ times_among q (map key_of (range_with_len 0 n))
keys_sum q key_of zero = refl
keys_sum q key_of (suc n) =
    let a = keys_sum q key_of n in
    let b = ap (times_among q) (below_more key_of n) ∙ times_among_append q (keys_below key_of n) (key_of n ∷ []) in
    let c : keys_below key_of (suc n) ≡ keys_below key_of (n + 1) = ap (keys_below key_of) (let e : suc n ≡ n + 1 = omega arith in e) in
    let d = ap (times_among q) c in
    omega (arith, a, b, d)

-- all jobs were done
pub finished_run : {O : Type 0} (key_of : ℕ → List ℕ) (new_of : O → Bool) (count : ℕ) (output_fits : ℕ → O → Type 0) (items : List O) (taken : List (List ℕ)) (olds mids news : List Seated) (old now : ℕ) (log : List Call)
    → Finished output_fits (Does key_of new_of) count items taken olds mids old now → HasMet 0 log mids news
    → ((q : List ℕ) → Tallies q olds news)
    → HasRun (map key_of (range_with_len 0 count)) (new_among new_of items) olds news old now
finished_run {O = O} key_of new_of count output_fits items taken olds mids news old now log f met facts = record {
  built_is = number ∙ built_all ks xs olds news filled dropped facts among there;
  kept = kept_all ks xs olds news filled dropped facts among there;
  given = let a = met_given 0 log mids news met in let b = went.given in omega (arith, a, b);
  ticks = record { steps = f.ticks; few = let a = went.ticks in let b = number in omega (arith, a, b); risen = f.meter };
  claimed = λ q.
      let a = went.claimed q in
      let b = met_times claims q 0 log mids news met in
      let c = asked_sum key_of new_of count q items (concat taken) ∙ permuted (λ k. asked_of q (find_at key_of new_of items k)) count (concat taken) f.each_once in
      let d = summed_same (λ k. asked_of q (find_at key_of new_of items k)) (λ k. one_if (bytes_eq (key_of k) q)) count (λ k lt. asked q k lt) in
      let e = keys_sum q key_of count in
      omega (arith, a, b, c, d, e);
}
  where
    ks : List (List ℕ)
    ks = map key_of (range_with_len 0 count)

    xs : List Find
    xs = finds_by key_of new_of items (concat taken)

    went : AllFind xs 0 olds mids f.ticks
    went = all_went key_of new_of items taken olds mids f.ticks f.went

    filled : (q : List ℕ) → times_by fills q news ≡ times_by fills q olds + built_of q xs
    filled q = met_times fills q 0 log mids news met ∙ went.filled q

    dropped : (q : List ℕ) → times_by drops q news ≡ times_by drops q olds
    dropped q = met_times drops q 0 log mids news met ∙ went.dropped q

    inside : (k : ℕ) → 1 ≤ times k (concat taken) → k < count
    inside k some = let e = f.each_once k in below_count k count (times k (concat taken)) some (omega (arith, e))

    among : AllAmong ks xs
    among = among_by key_of new_of count items (concat taken) inside

    hit_all : AllHit xs (λ q. times_by hits q news - times_by hits q olds)
    hit_all = all_hit_more xs (λ q. times_by hits q mids - times_by hits q olds) (λ q. times_by hits q news - times_by hits q olds) (λ q. let e = met_times hits q 0 log mids news met in omega (arith, e)) went.hit

    there : (q : List ℕ) → has_name ks q ≡ true → times_by drops q news + 1 ≤ times_by fills q news
    there q is =
        let j = job_of key_of 0 count q is in
        let item = item_at items j.0 (let e = f.len in let l = j.1 in omega (arith, e, l)) in
        let once_there = lt_once j.0 count (let l = j.1 in omega (arith, l)) in
        let e = f.each_once j.0 in
        subst (λ (k : List ℕ). times_by drops k news + 1 ≤ times_by fills k news) j.2
        (by j.0 (entry key_of new_of count items (concat taken) j.0 item.0 (λ q. times_by hits q news - times_by hits q olds) (omega (arith, once_there, e)) item.1 hit_all))
      where
        by : (n : ℕ) → (1 ≤ built_of (key_of n) xs) ⊎ (1 ≤ times_by hits (key_of n) news - times_by hits (key_of n) olds) → times_by drops (key_of n) news + 1 ≤ times_by fills (key_of n) news
        by n (inl b) = let a = filled (key_of n) in let c = dropped (key_of n) in let d = (facts (key_of n)).first in omega (arith, a, b, c, d)
        by n (inr h) = (facts (key_of n)).hit (dropped (key_of n)) (omega (arith, h))

    number : new_among new_of items ≡ all_built xs
    number =
        sym (new_sum new_of items)
        ∙ ap (summed (λ k. all_built (find_at (λ n. []) new_of items k))) f.len
        ∙ sym (built_sum key_of new_of count items (concat taken)
        ∙ permuted (λ k. all_built (find_at key_of new_of items k)) count (concat taken) f.each_once
        ∙ summed_same (λ k. all_built (find_at key_of new_of items k)) (λ k. all_built (find_at (λ n. []) new_of items k)) count (λ k lt. new_same key_of new_of items k))

    asked : (q : List ℕ) (k : ℕ) → k < count → asked_of q (find_at key_of new_of items k) ≡ one_if (bytes_eq (key_of k) q)
    asked q k lt =
        let item = item_at items k (let e = f.len in omega (arith, e, lt)) in
        ap (λ (o : Option O). asked_of q (found_by key_of new_of k o)) item.1
        ∙ (let e : one_if (bytes_eq (key_of k) q) + 0 ≡ one_if (bytes_eq (key_of k) q) = omega arith in e)

-- each job that was done is among the numbers
done_numbers : {O : Type 0} (k : ℕ) (ways : List (Way O)) → times k (numbers_of (all_done ways)) ≤ times k (all_numbers ways)
done_numbers k [] = omega arith
done_numbers {O = O} k (g ∷ gs) =
    let a = ap (times k) (numbers_append g.done (all_done gs)) ∙ times_append k (numbers_of g.done) (numbers_of (all_done gs)) in
    let b = times_append k (numbers_of g.done ++ g.failed) (all_numbers gs) in
    let c = times_append k (numbers_of g.done) g.failed in
    let d = done_numbers k gs in
    omega (arith, a, b, c, d)
  where
    numbers_append : (xs ys : List (ℕ × O)) → numbers_of (xs ++ ys) ≡ numbers_of xs ++ numbers_of ys
    numbers_append [] ys = refl
    numbers_append (x ∷ xs) ys = ap (λ (l : List ℕ). x.0 ∷ l) (numbers_append xs ys)

-- they stopped for want of memory
pub stopped_run : {O : Type 0} (key_of : ℕ → List ℕ) (new_of : O → Bool) (count : ℕ) (olds mids news : List Seated) (old now : ℕ) (log : List Call)
    → Stopped (Does key_of new_of) (Fails key_of new_of) count olds mids old now → HasMet 0 log mids news
    → ((q : List ℕ) → Tallies q olds news)
    → HasStopped (map key_of (range_with_len 0 count)) olds news old now
stopped_run key_of new_of count olds mids news old now log s met facts = record {
  kept = kept_still ks xs olds news filled dropped facts among;
  gave = gone.0;
  given = met_given 0 log mids news met ∙ gone.1.given;
  ticks = record { steps = all_ticks s.ways; few = let a = gone.1.ticks in let b = built_few ks xs olds news filled dropped facts among in omega (arith, a, b); risen = s.meter };
}
  where
    ks : List (List ℕ)
    ks = map key_of (range_with_len 0 count)

    xs : List Find
    xs = finds_in key_of new_of (all_done s.ways)

    gone : (gave : ℕ) × AllFind xs gave olds mids (all_ticks s.ways)
    gone = all_gone key_of new_of s.ways olds mids s.gone

    filled : (q : List ℕ) → times_by fills q news ≡ times_by fills q olds + built_of q xs
    filled q = met_times fills q 0 log mids news met ∙ gone.1.filled q

    dropped : (q : List ℕ) → times_by drops q news ≡ times_by drops q olds
    dropped q = met_times drops q 0 log mids news met ∙ gone.1.dropped q

    among : AllAmong ks xs
    among = among_in key_of new_of count (all_done s.ways) (λ k some. let a = done_numbers k s.ways in let b = s.once k in below_count k count (times k (all_numbers s.ways)) (omega (arith, a, some)) b)
