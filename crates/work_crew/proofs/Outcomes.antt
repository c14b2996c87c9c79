-- What the ways of the tokens add up to.
use Rattle.std.proofs.Common.{◌≡◌, ◌≢◌, ◌⊎◌, inl, inr, ℕ, zero, suc, ◌+◌, ◌<◌, ◌≤◌, List, [], ◌∷◌, ◌++◌, length, map, replicate, Option, Some, None, refl, sym, ap, ◌∙◌, subst, arith, slice_set}
use Rattle.std.specs.List.{slice_get, concat}
use Rattle.rtl_bits.specs.Counts.{risen}
use Rattle.work_crew.specs.Along.{Along, Ran, numbers_of, AllFit}
use Rattle.work_crew.specs.Gather.{put_all}
use Rattle.work_crew.specs.Times.{times, once_below}
use Rattle.work_crew.specs.Outcome.{Way, all_numbers, all_ticks, all_done, all_failed, all_taken, AllGone, Went, AllWent, InPairs, Finished, Stopped}
use Rattle.work_crew.proofs.Counting.{same_or, below_or, lt_once, ge_none, eq_one, times_append}

numbers_append : {O : Type 0} (xs ys : List (ℕ × O)) → numbers_of (xs ++ ys) ≡ numbers_of xs ++ numbers_of ys
numbers_append [] ys = refl
numbers_append (x ∷ xs) ys = ap (λ r. x.0 ∷ r) (numbers_append xs ys)

times_all : {O : Type 0} (k : ℕ) (gs : List (Way O)) → times k (all_numbers gs) ≡ times k (numbers_of (all_done gs)) + times k (all_failed gs)
times_all k [] = refl
times_all k (g ∷ gs) =
    let e = times_all k gs in
    let a = times_append k (numbers_of g.done ++ g.failed) (all_numbers gs) in
    let b = times_append k (numbers_of g.done) g.failed in
    let d = ap (times k) (numbers_append g.done (all_done gs)) in
    let p = times_append k (numbers_of g.done) (numbers_of (all_done gs)) in
    let q = times_append k g.failed (all_failed gs) in
    omega arith

in_times : {O : Type 0} (k : ℕ) (o : O) (xs : List (ℕ × O)) → InPairs k o xs → 1 ≤ times k (numbers_of xs)
in_times k o [] h = absurd h
in_times k o (x ∷ xs) (inl h) = let e = eq_one x.0 k h.0 in omega arith
in_times k o (x ∷ xs) (inr h) = let e = in_times k o xs h in omega arith

length_none : {A : Type 0} (c : ℕ) (x : A) → length (replicate c x) ≡ c
length_none zero x = refl
length_none (suc c) x = ap suc (length_none c x)

module _ {O : Type 0} where
  abbrev on_none : Option O → Type 0
  on_none None = Unit {0}
  on_none (Some x) = ⊥

  abbrev none_of : Option O
  none_of = None

  none_some : (o : O) → None ≡ Some o → ⊥
  none_some o e = subst on_none e tt

  abbrev or_some : O → Option O → O
  or_some d None = d
  or_some d (Some x) = x

  some_some : (a b : O) → Some a ≡ Some b → a ≡ b
  some_some a b e = ap (or_some a) e

  abbrev at : List (Option O) → ℕ → Option O
  at [] k = None
  at (x ∷ xs) zero = x
  at (x ∷ xs) (suc k) = at xs k

  at_set_same : (p : List (Option O)) (k : ℕ) (v : Option O) → k < length p → at (slice_set p k v) k ≡ v
  at_set_same [] k v l = absurd (omega arith)
  at_set_same (x ∷ p) zero v l = refl
  at_set_same (x ∷ p) (suc k) v l = at_set_same p k v (omega arith)

  at_set_other : (p : List (Option O)) (k j : ℕ) (v : Option O) → k ≢ j → at (slice_set p k v) j ≡ at p j
  at_set_other [] k j v n = refl
  at_set_other (x ∷ p) zero zero v n = absurd (n refl)
  at_set_other (x ∷ p) zero (suc j) v n = refl
  at_set_other (x ∷ p) (suc k) zero v n = refl
  at_set_other (x ∷ p) (suc k) (suc j) v n = at_set_other p k j v (λ e. n (ap suc e))

  at_out : (p : List (Option O)) (k : ℕ) → length p ≤ k → at p k ≡ None
  at_out [] k l = refl
  at_out (x ∷ p) zero l = absurd (omega arith)
  at_out (x ∷ p) (suc k) l = at_out p k (omega arith)

  at_none : (c k : ℕ) → at (replicate c None) k ≡ None
  at_none zero k = refl
  at_none (suc c) zero = refl
  at_none (suc c) (suc k) = at_none c k

  at_some : (items : List O) (k : ℕ) → at (map Some items) k ≡ slice_get items k
  at_some [] k = refl
  at_some (x ∷ items) zero = refl
  at_some (x ∷ items) (suc k) = at_some items k

  at_item : (items : List O) (k : ℕ) → k < length items → (o : O) × (at (map Some items) k ≡ Some o)
  at_item [] k l = absurd (omega arith)
  at_item (x ∷ items) zero l = (x, refl)
  at_item (x ∷ items) (suc k) l = at_item items k (omega arith)

  length_set : (p : List (Option O)) (k : ℕ) (v : Option O) → length (slice_set p k v) ≡ length p
  length_set [] k v = refl
  length_set (x ∷ p) zero v = refl
  length_set (x ∷ p) (suc k) v = ap suc (length_set p k v)

  length_put : (xs : List (ℕ × O)) (p : List (Option O)) → length (put_all xs p) ≡ length p
  length_put [] p = refl
  length_put (x ∷ xs) p = length_set (put_all xs p) x.0 (Some x.1) ∙ length_put xs p

  length_some : (items : List O) → length (map Some items) ≡ length items
  length_some [] = refl
  length_some (x ∷ items) = ap suc (length_some items)

  -- what stands at a number was put there
  put_in : (xs : List (ℕ × O)) (c k : ℕ) (o : O) → at (put_all xs (replicate c None)) k ≡ Some o → InPairs k o xs
  put_in [] c k o e = absurd (none_some o (sym (at_none c k) ∙ e))
  put_in (x ∷ xs) c k o e = by (put_in xs c k o) (same_or x.0 k) (below_or k (length q))
    where
      q : List (Option O)
      q = put_all xs (replicate c None)

      by : (at q k ≡ Some o → InPairs k o xs) → (x.0 ≡ k) ⊎ (x.0 ≢ k) → (k < length q) ⊎ (length q ≤ k) → InPairs k o (x ∷ xs)
      by more (inl s) (inl l) = inl (s, some_some x.1 o (sym (at_set_same q k (Some x.1) l) ∙ subst (λ j. at (slice_set q j (Some x.1)) k ≡ Some o) s e))
      by more (inl s) (inr l) = absurd (none_some o (sym (at_out (slice_set q x.0 (Some x.1)) k (subst (λ n. n ≤ k) (sym (length_set q x.0 (Some x.1))) l)) ∙ e))
      by more (inr n) l = inr (more (sym (at_set_other q x.0 k (Some x.1) n) ∙ e))

  -- what is put once stands at its number
  placed : (xs : List (ℕ × O)) (p : List (Option O)) (k : ℕ) (o : O) → times k (numbers_of xs) ≤ 1 → InPairs k o xs → k < length p → at (put_all xs p) k ≡ Some o
  placed [] p k o once h l = absurd h
  placed (x ∷ xs) p k o once (inl h) l = subst (λ j. at (slice_set (put_all xs p) j (Some x.1)) k ≡ Some o) (sym h.0) (at_set_same (put_all xs p) k (Some x.1) (subst (λ n. k < n) (sym (length_put xs p)) l) ∙ ap Some h.1)
  placed (x ∷ xs) p k o once (inr h) l =
      let t = in_times k o xs h in
      at_set_other (put_all xs p) x.0 k (Some x.1) (λ e. let w = eq_one x.0 k e in absurd (omega arith)) ∙ placed xs p k o (omega arith) h l

  fits_in : (fits : ℕ → O → Type 0) (xs : List (ℕ × O)) (k : ℕ) (o : O) → AllFit fits xs → InPairs k o xs → fits k o
  fits_in fits [] k o f h = absurd h
  fits_in fits (x ∷ xs) k o f (inl h) = subst (λ j. fits j o) h.0 (subst (fits x.0) h.1 f.0)
  fits_in fits (x ∷ xs) k o f (inr h) = fits_in fits xs k o f.1 h

  in_left : (k : ℕ) (o : O) (xs ys : List (ℕ × O)) → InPairs k o xs → InPairs k o (xs ++ ys)
  in_left k o [] ys h = absurd h
  in_left k o (x ∷ xs) ys (inl h) = inl h
  in_left k o (x ∷ xs) ys (inr h) = inr (in_left k o xs ys h)

  in_right : (k : ℕ) (o : O) (xs ys : List (ℕ × O)) → InPairs k o ys → InPairs k o (xs ++ ys)
  in_right k o [] ys h = h
  in_right k o (x ∷ xs) ys h = inr (in_right k o xs ys h)

  concat_taken : (gs : List (Way O)) → concat (all_taken gs) ≡ numbers_of (all_done gs)
  concat_taken [] = refl
  concat_taken (g ∷ gs) = ap (λ r. numbers_of g.done ++ r) (concat_taken gs) ∙ sym (numbers_append g.done (all_done gs))

empty_left : (xs ys : List ℕ) → xs ++ ys ≡ [] → xs ≡ []
empty_left [] ys e = refl
empty_left (x ∷ xs) ys e = let l = ap length e in absurd (omega arith)

empty_right : (xs ys : List ℕ) → xs ++ ys ≡ [] → ys ≡ []
empty_right [] ys e = e
empty_right (x ∷ xs) ys e = let l = ap length e in absurd (omega arith)

module _ {O T : Type 0} (does : ℕ → O → T → T → ℕ → Type 0) (fails : ℕ → T → T → ℕ → Type 0) where
  went_along : (items : List O) (xs : List (ℕ × O)) (t u : T) (n : ℕ) → ((k : ℕ) (o : O) → InPairs k o xs → slice_get items k ≡ Some o) → Along does xs t u n → Went does items (numbers_of xs) t u n
  went_along items [] t u n look h = h
  went_along items (x ∷ xs) t u n look h = (x.1, h.0, h.1, h.2, look x.0 x.1 (inl (refl, refl)), h.3, went_along items xs h.0 u h.2 (λ k o i. look k o (inr i)) h.4, h.5)

  ran_along : (xs : List (ℕ × O)) (failed : List ℕ) (t u : T) (n : ℕ) → failed ≡ [] → Ran does fails xs failed t u n → Along does xs t u n
  ran_along xs failed t u n e h =
      let r : Ran does fails xs [] t u n = subst (λ f. Ran does fails xs f t u n) e h in
      let m : n ≡ r.1 = (let a = r.4.1 in let b = r.5 in omega arith) in
      subst (λ a. Along does xs t u a) (sym m) (subst (λ v. Along does xs t v r.1) r.4.0 r.3)

  all_went : (items : List O) (gs : List (Way O)) (ts us : List T) → ((k : ℕ) (o : O) → InPairs k o (all_done gs) → slice_get items k ≡ Some o) → all_failed gs ≡ [] → AllGone does fails gs ts us → AllWent does items (all_taken gs) ts us (all_ticks gs)
  all_went items [] [] [] look e h = refl
  all_went items (g ∷ gs) (t ∷ ts) (u ∷ us) look e h = (
    g.ticks,
    all_ticks gs,
    went_along items g.done t u g.ticks (λ k o i. look k o (in_left k o g.done (all_done gs) i)) (ran_along g.done g.failed t u g.ticks (empty_left g.failed (all_failed gs) e) h.0),
    all_went items gs ts us (λ k o i. look k o (in_right k o g.done (all_done gs) i)) (empty_right g.failed (all_failed gs) e) h.1,
    refl,
  )
  all_went items [] [] (u ∷ us) look e h = absurd h
  all_went items [] (t ∷ ts) us look e h = absurd h
  all_went items (g ∷ gs) [] us look e h = absurd h
  all_went items (g ∷ gs) (t ∷ ts) [] look e h = absurd h

  -- where each number below count has an output, all is done
  pub finished : (output_fits : ℕ → O → Type 0) (count : ℕ) (items : List O) (gs : List (Way O)) (ts us : List T) (old now : ℕ)
      → AllGone does fails gs ts us → ((k : ℕ) → times k (all_numbers gs) ≤ once_below k count) → AllFit output_fits (all_done gs)
      → map Some items ≡ put_all (all_done gs) (replicate count None) → now ≡ risen old (all_ticks gs)
      → Finished output_fits does count items (all_taken gs) ts us old now
  finished output_fits count items gs ts us old now gone once fit put meter = record {
    len = len;
    fit = λ k o e. fits_in output_fits (all_done gs) k o fit (put_in (all_done gs) count k o (sym (ap (λ p. at p k) put) ∙ (at_some items k ∙ e)));
    each_once = λ k. ap (times k) (concat_taken gs) ∙ exact k (below_or k count);
    ticks = all_ticks gs;
    went = all_went items gs ts us look (none_failed (all_failed gs) refl) gone;
    meter = meter;
  }
    where
      len : length items ≡ count
      len = sym (length_some items) ∙ (ap length put ∙ (length_put (all_done gs) (replicate count None) ∙ length_none count None))

      some : (k : ℕ) → k < count → 1 ≤ times k (numbers_of (all_done gs))
      some k l =
          let i = at_item items k (subst (λ n. k < n) (sym len) l) in
          in_times k i.0 (all_done gs) (put_in (all_done gs) count k i.0 (sym (ap (λ p. at p k) put) ∙ i.1))

      exact : (k : ℕ) → (k < count) ⊎ (count ≤ k) → times k (numbers_of (all_done gs)) ≡ once_below k count
      exact k (inl l) = let a = some k l in let b = lt_once k count l in let d = once k in let e = times_all k gs in omega arith
      exact k (inr l) = let b = ge_none k count l in let d = once k in let e = times_all k gs in omega arith

      look : (k : ℕ) (o : O) → InPairs k o (all_done gs) → slice_get items k ≡ Some o
      look k o i =
          let a = in_times k o (all_done gs) i in
          let d = once k in
          let e = times_all k gs in
          sym (at_some items k) ∙ (ap (λ p. at p k) put ∙ placed (all_done gs) (replicate count None) k o (small k (below_or k count)) i (subst (λ n. k < n) (sym (length_none count (none_of {O = O}))) (inside (below_or k count) a d e)))
        where
          small : (k : ℕ) → (k < count) ⊎ (count ≤ k) → times k (numbers_of (all_done gs)) ≤ 1
          small k (inl l) = let b = lt_once k count l in let d = once k in let e = times_all k gs in omega arith
          small k (inr l) = let b = ge_none k count l in let d = once k in let e = times_all k gs in omega arith

          inside : (k < count) ⊎ (count ≤ k) → 1 ≤ times k (numbers_of (all_done gs)) → times k (all_numbers gs) ≤ once_below k count → times k (all_numbers gs) ≡ times k (numbers_of (all_done gs)) + times k (all_failed gs) → k < count
          inside (inl l) a d e = l
          inside (inr l) a d e = let b = ge_none k count l in absurd (omega arith)

      none_failed : (fs : List ℕ) → fs ≡ all_failed gs → all_failed gs ≡ []
      none_failed [] e = sym e
      none_failed (f ∷ fs) e = absurd (no (below_or f count))
        where
          one : 1 ≤ times f (all_failed gs)
          one = subst (λ xs. 1 ≤ times f xs) e (let a = eq_one f f refl in omega arith)

          no : (f < count) ⊎ (count ≤ f) → ⊥
          no (inl l) = let a = some f l in let b = lt_once f count l in let d = once f in let t = times_all f gs in let o = one in omega arith
          no (inr l) = let b = ge_none f count l in let d = once f in let t = times_all f gs in let o = one in omega arith

  -- where no job was begun
  pub none_begun : (count : ℕ) (ts : List T) (old now : ℕ) → now ≡ old → Stopped does fails count ts ts old now
  none_begun count ts old now same = record {
    ways = idle ts;
    gone = all_idle ts;
    once = λ k. subst (λ n. n ≤ once_below k count) (sym (idle_times k ts)) (omega arith);
    meter = same ∙ (let e = idle_ticks ts in omega arith);
  }
    where
      idle : List T → List (Way O)
      idle [] = []
      idle (t ∷ ts) = record { done = []; failed = []; ticks = 0 } ∷ idle ts

      all_idle : (ts : List T) → AllGone does fails (idle ts) ts ts
      all_idle [] = tt
      all_idle (t ∷ ts) = ((t, 0, 0, (refl, refl), (refl, refl), refl), all_idle ts)

      idle_times : (k : ℕ) (ts : List T) → times k (all_numbers (idle ts)) ≡ 0
      idle_times k [] = refl
      idle_times k (t ∷ ts) = idle_times k ts

      idle_ticks : (ts : List T) → all_ticks (idle ts) ≡ 0
      idle_ticks [] = refl
      idle_ticks (t ∷ ts) = let e = idle_ticks ts in omega arith

pub put_len : {O : Type 0} (xs : List (ℕ × O)) (count : ℕ) → length (put_all xs (replicate count None)) ≡ count
put_len xs count = length_put xs (replicate count None) ∙ length_none count None
