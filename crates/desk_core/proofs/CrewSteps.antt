-- What each event of a crew keeps.
use Rattle.std.proofs.Common.{◌≡◌, ◌≢◌, ◌⊎◌, inl, inr, ℕ, zero, suc, ◌+◌, ◌<◌, ◌≤◌, List, [], ◌∷◌, ◌++◌, Bool, true, false, true≢false, not, cond, ◌&&◌, ◌||◌, length, set, slice_get, Option, Some, refl, sym, ap, subst, ◌∙◌, arith}
use Rattle.std.proofs.lemmas.List.{length-set}
use Rattle.std.specs.Str.{bytes_eq}
use Rattle.rtl_sig.specs.Names.{AreDistinct, has_name}
use Rattle.result_cache.proofs.Keys.{bytes_same, bytes_true, bytes_other, none_of, differ_of, distinct_of}
use Rattle.work_crew.specs.Times.{hit, times}
use Rattle.work_crew.proofs.Counting.{same_or, below_or, eq_one, ne_none}
use Rattle.result_cache.specs.History.{Mode, free, held, filled}
use Rattle.desk_core.specs.Crew.{Hand, empty, job, ticket, stopped, Crew, Event, push, pop, steal, claim, look, fill, give_back, stop, with_mode, TakesFrom, IsAnswered, IsCrewStep}
use Rattle.desk_core.specs.CrewRuns.{MayFollow, AllPutOthers, pushes, in_deques, in_hand, in_hands, done, is_filled}
use Rattle.desk_core.proofs.CrewPlaces.{set_other, set_either, in_deques-set, in_hands-set, in_hands-get, times_snoc, done-set, none_put}

-- a hand that has no ticket
abbrev pub HasNone : Hand → Type 0
HasNone hand = (j : ℕ) → hand ≢ ticket j

none_empty : HasNone empty
none_empty j e = let no : empty ≡ ticket j = e in cc

none_stopped : HasNone stopped
none_stopped j e = let no : stopped ≡ ticket j = e in cc

none_job : (i : ℕ) → HasNone (job i)
none_job i j e = let no : job i ≡ ticket j = e in cc

module _ {R : Type 0} (stands_for : R → List ℕ → Type 0) (key_of : ℕ → List ℕ) (count : ℕ) (start : List ℕ → Mode R) where
  -- behind these events each job is in as many places as it was put on deques: none, or one
  pub record Placed (earlier : List (Event R)) (deques : List (List ℕ)) (hands : List Hand) (outputs : List (Option R)) (given_up : List ℕ) : Type 0 where
    pub counted : (k : ℕ) → in_deques k deques + in_hands k hands + done k outputs + times k given_up ≡ pushes k earlier
    pub once : (k : ℕ) → pushes k earlier ≤ 1
    pub below : (k : ℕ) → count ≤ k → pushes k earlier ≡ 0
    pub wide : length outputs ≡ count

  -- who has a ticket holds the key
  abbrev pub Ticketed : List Hand → (List ℕ → Mode R) → Type 0
  Ticketed hands keys = (w j : ℕ) → slice_get hands w ≡ Some (ticket j) → keys (key_of j) ≡ held w

  -- each value stands for its key
  abbrev pub Stand : (List ℕ → Mode R) → Type 0
  Stand keys = (key : List ℕ) (v : R) → keys key ≡ filled v → stands_for v key

  -- each output is the value of its job's key, which is filled
  abbrev pub Given : (List ℕ → Mode R) → List (Option R) → Type 0
  Given keys outputs = (j : ℕ) (v : R) → slice_get outputs j ≡ Some (Some v) → stands_for v (key_of j) × (is_filled (keys (key_of j)) ≡ true)

  -- these keys, each that of a job, were filled since the start
  pub record Built (keys : List ℕ → Mode R) (builds : ℕ) : Type 0 where
    pub built : List (List ℕ)
    pub builds_are : builds ≡ length built
    pub distinct : AreDistinct built
    pub since : (key : List ℕ) → has_name built key ≡ (is_filled (keys key) && not (is_filled (start key)))
    pub still : (key : List ℕ) → is_filled (start key) ≡ true → is_filled (keys key) ≡ true
    pub builders : (key : List ℕ) → has_name built key ≡ true → (j : ℕ) × (j < count) × (key_of j ≡ key)

  pub record Goes (earlier : List (Event R)) (s : Crew R) : Type 0 where
    pub placed : Placed earlier s.deques s.hands s.outputs s.given_up
    pub ticketed : Ticketed s.hands s.keys
    pub stand : Stand s.keys
    pub given : Given s.keys s.outputs
    pub built : Built s.keys s.builds

  module _ {earlier : List (Event R)} {deques : List (List ℕ)} {hands : List Hand} {outputs : List (Option R)} {given_up : List ℕ} where
    -- a job is put on a deque
    placed_push : (w j : ℕ) (jobs : List ℕ) → Placed earlier deques hands outputs given_up → j < count → AllPutOthers j earlier → slice_get deques w ≡ Some jobs
        → Placed (push w j ∷ earlier) (set deques w (jobs ++ j ∷ [])) hands outputs given_up
    placed_push w j jobs g lt others is = record {
      counted = λ k.
          let a = in_deques-set k deques w jobs (jobs ++ j ∷ []) is in
          let b = times_snoc k jobs j in
          let c = g.counted k in
          omega (arith, a, b, c);
      once = λ k. by k (same_or j k);
      below = λ k le.
          let a = g.below k le in
          let b = ne_none j k (λ e. omega (arith, lt, le, e)) in
          omega (arith, a, b);
      wide = g.wide;
    }
      where
        by : (k : ℕ) → (j ≡ k) ⊎ (j ≢ k) → hit j k + pushes k earlier ≤ 1
        by k (inl e) =
            let a = none_put j earlier others in
            let b : pushes k earlier ≡ 0 = subst (λ (n : ℕ). pushes n earlier ≡ 0) e a in
            let c = eq_one j k e in
            omega (arith, b, c)
        by k (inr n) = let a = g.once k in let b = ne_none j k n in omega (arith, a, b)

    -- a job goes from a deque into a hand
    placed_take : (w u j : ℕ) (rest : List ℕ) → Placed earlier deques hands outputs given_up → slice_get hands w ≡ Some empty → slice_get deques u ≡ Some (j ∷ rest)
        → Placed earlier (set deques u rest) (set hands w (job j)) outputs given_up
    placed_take w u j rest g has is = record {
      counted = λ k.
          let a : in_deques k (set deques u rest) + (hit j k + times k rest) ≡ in_deques k deques + times k rest = in_deques-set k deques u (j ∷ rest) rest is in
          let b : in_hands k (set hands w (job j)) + 0 ≡ in_hands k hands + hit j k = in_hands-set k hands w empty (job j) has in
          let c = g.counted k in
          omega (arith, a, b, c);
      once = g.once;
      below = g.below;
      wide = g.wide;
    }

    -- a hand becomes another with the same jobs
    placed_hand : (w : ℕ) (old new : Hand) → Placed earlier deques hands outputs given_up → slice_get hands w ≡ Some old → ((k : ℕ) → in_hand k new ≡ in_hand k old)
        → Placed earlier deques (set hands w new) outputs given_up
    placed_hand w old new g has same = record {
      counted = λ k. let a = in_hands-set k hands w old new has in let b = same k in let c = g.counted k in omega (arith, a, b, c);
      once = g.once;
      below = g.below;
      wide = g.wide;
    }

    pub in_range : (w j : ℕ) (hand : Hand) → Placed earlier deques hands outputs given_up → slice_get hands w ≡ Some hand → in_hand j hand ≡ 1 → (j < count) × (done j outputs ≡ 0)
    in_range w j hand g has some = (by (below_or j count), let a = g.counted j in let b = g.once j in let c = in_hands-get j hands w hand has in omega (arith, a, b, c, some))
      where
        by : (j < count) ⊎ (count ≤ j) → j < count
        by (inl lt) = lt
        by (inr le) = let a = g.counted j in let b = g.below j le in let c = in_hands-get j hands w hand has in absurd (omega (arith, a, b, c, some))

    -- the job of a hand is done
    placed_done : (w j : ℕ) (hand : Hand) (v : R) → Placed earlier deques hands outputs given_up → slice_get hands w ≡ Some hand → ((k : ℕ) → in_hand k hand ≡ hit j k)
        → Placed earlier deques (set hands w empty) (set outputs j (Some v)) given_up
    placed_done w j hand v g has one =
        let is = in_range w j hand g has (one j ∙ eq_one j j refl) in
        record {
          counted = λ k.
              let a : in_hands k (set hands w empty) + in_hand k hand ≡ in_hands k hands + 0 = in_hands-set k hands w hand empty has in
              let b = one k in
              let c = g.counted k in
              let d = done-set k j outputs v (let e = g.wide in omega (arith, e, is.0)) is.1 in
              omega (arith, a, b, c, d);
          once = g.once;
          below = g.below;
          wide = length-set outputs j (Some v) ∙ g.wide;
        }

    -- the job of a hand is given up
    placed_given : (w j : ℕ) → Placed earlier deques hands outputs given_up → slice_get hands w ≡ Some (ticket j) → Placed earlier deques (set hands w stopped) outputs (j ∷ given_up)
    placed_given w j g has = record {
      counted = λ k.
          let a : in_hands k (set hands w stopped) + hit j k ≡ in_hands k hands + 0 = in_hands-set k hands w (ticket j) stopped has in
          let c = g.counted k in
          omega (arith, a, c);
      once = g.once;
      below = g.below;
      wide = g.wide;
    }

  -- a key has the mode that was put, and the others have theirs
  put_mode : (keys : List ℕ → Mode R) (key q : List ℕ) (m : Mode R) → bytes_eq key q ≡ true → with_mode keys key m q ≡ m
  put_mode keys key q m is = ap (λ (b : Bool). cond b m (keys q)) is

  other_mode : (keys : List ℕ → Mode R) (key q : List ℕ) (m : Mode R) → bytes_eq key q ≡ false → with_mode keys key m q ≡ keys q
  other_mode keys key q m is = ap (λ (b : Bool). cond b m (keys q)) is

  module _ (hands : List Hand) (keys : List ℕ → Mode R) where
    -- a hand becomes one that has no ticket
    ticketed_hand : (w : ℕ) (old new : Hand) → Ticketed hands keys → slice_get hands w ≡ Some old → HasNone new → Ticketed (set hands w new) keys
    ticketed_hand w old new g has none u i is = by (set_either hands w u new old (ticket i) has is)
      where
        by : ((u ≡ w) × (ticket i ≡ new)) ⊎ ((u ≢ w) × (slice_get hands u ≡ Some (ticket i))) → keys (key_of i) ≡ held u
        by (inl (e, is_new)) = absurd (none i (sym is_new))
        by (inr (ne, was)) = g u i was

    -- a free key is held by who gets its ticket
    ticketed_claim : (w j : ℕ) (old : Hand) → Ticketed hands keys → slice_get hands w ≡ Some old → keys (key_of j) ≡ free → Ticketed (set hands w (ticket j)) (with_mode keys (key_of j) (held w))
    ticketed_claim w j old g has is_free u i is = by (set_either hands w u (ticket j) old (ticket i) has is)
      where
        apart : (u ≢ w) → slice_get hands u ≡ Some (ticket i) → (b : Bool) → bytes_eq (key_of j) (key_of i) ≡ b → with_mode keys (key_of j) (held w) (key_of i) ≡ held u
        apart ne was true same =
            absurd (let no : free ≡ held u = sym is_free ∙ ap keys (bytes_true (key_of j) (key_of i) same) ∙ g u i was in cc)
        apart ne was false same = other_mode keys (key_of j) (key_of i) (held w) same ∙ g u i was

        by : ((u ≡ w) × (ticket i ≡ ticket j)) ⊎ ((u ≢ w) × (slice_get hands u ≡ Some (ticket i))) → with_mode keys (key_of j) (held w) (key_of i) ≡ held u
        by (inl (e, t)) =
            let same : j ≡ i = cc in
            put_mode keys (key_of j) (key_of i) (held w) (bytes_same (key_of j) (key_of i) (ap key_of same)) ∙ ap (λ (n : ℕ). held n) (sym e)
        by (inr (ne, was)) = apart ne was (bytes_eq (key_of j) (key_of i)) refl

    -- a ticket is spent
    ticketed_spent : (w j : ℕ) (new : Hand) (m : Mode R) → Ticketed hands keys → slice_get hands w ≡ Some (ticket j) → HasNone new → Ticketed (set hands w new) (with_mode keys (key_of j) m)
    ticketed_spent w j new m g has none u i is = by (set_either hands w u new (ticket j) (ticket i) has is)
      where
        apart : (u ≢ w) → slice_get hands u ≡ Some (ticket i) → (b : Bool) → bytes_eq (key_of j) (key_of i) ≡ b → with_mode keys (key_of j) m (key_of i) ≡ held u
        apart ne was true same =
            absurd (ne (let both : held u ≡ held w = sym (g u i was) ∙ sym (ap keys (bytes_true (key_of j) (key_of i) same)) ∙ g w j has in let e : u ≡ w = cc in e))
        apart ne was false same = other_mode keys (key_of j) (key_of i) m same ∙ g u i was

        by : ((u ≡ w) × (ticket i ≡ new)) ⊎ ((u ≢ w) × (slice_get hands u ≡ Some (ticket i))) → with_mode keys (key_of j) m (key_of i) ≡ held u
        by (inl (e, is_new)) = absurd (none i (sym is_new))
        by (inr (ne, was)) = apart ne was (bytes_eq (key_of j) (key_of i)) refl

  module _ (keys : List ℕ → Mode R) where
    -- a key gets a mode, whose value stands for it where it has one
    stand_mode : (key : List ℕ) (m : Mode R) → Stand keys → ((v : R) → m ≡ filled v → stands_for v key) → Stand (with_mode keys key m)
    stand_mode key m g stands q v is = by (bytes_eq key q) refl
      where
        by : (b : Bool) → bytes_eq key q ≡ b → stands_for v q
        by true same = subst (stands_for v) (bytes_true key q same) (stands v (sym (put_mode keys key q m same) ∙ is))
        by false same = g q v (sym (other_mode keys key q m same) ∙ is)

    -- a key that was not filled gets a mode
    given_mode : (outputs : List (Option R)) (key : List ℕ) (m : Mode R) → Given keys outputs → is_filled (keys key) ≡ false → Given (with_mode keys key m) outputs
    given_mode outputs key m g not_filled j v is = (was.0, by (bytes_eq key (key_of j)) refl)
      where
        was : stands_for v (key_of j) × (is_filled (keys (key_of j)) ≡ true)
        was = g j v is

        by : (b : Bool) → bytes_eq key (key_of j) ≡ b → is_filled (with_mode keys key m (key_of j)) ≡ true
        by true same = absurd (true≢false (sym was.1 ∙ ap (λ (k : List ℕ). is_filled (keys k)) (sym (bytes_true key (key_of j) same)) ∙ not_filled))
        by false same = ap is_filled (other_mode keys key (key_of j) m same) ∙ was.1

    -- a job whose key is filled gets its output
    given_set : (outputs : List (Option R)) (j : ℕ) (v : R) → Given keys outputs → j < length outputs → stands_for v (key_of j) → is_filled (keys (key_of j)) ≡ true → Given keys (set outputs j (Some v))
    given_set outputs j v g lt stands is_there k w is = by (same_or k j)
      where
        by : (k ≡ j) ⊎ (k ≢ j) → stands_for w (key_of k) × (is_filled (keys (key_of k)) ≡ true)
        by (inl e) =
            let one : Some (Some w) ≡ Some (Some v) = sym is ∙ ap (slice_get (set outputs j (Some v))) e ∙ there outputs j lt in
            let same : v ≡ w = cc in
            (subst (λ (x : R). stands_for x (key_of k)) same (subst (λ (n : ℕ). stands_for v (key_of n)) (sym e) stands), ap (λ (n : ℕ). is_filled (keys (key_of n))) e ∙ is_there)
          where
            there : (os : List (Option R)) (n : ℕ) → n < length os → slice_get (set os n (Some v)) n ≡ Some (Some v)
            there [] n lt = absurd (omega (arith, lt))
            there (o ∷ os) zero lt = refl
            there (o ∷ os) (suc n) lt = there os n (omega (arith, lt))
        by (inr ne) = g k w (sym (set_other outputs j k (Some v) ne) ∙ is)

    -- a key that is not filled gets a mode that is not
    built_mode : (builds : ℕ) (key : List ℕ) (m : Mode R) → Built keys builds → is_filled (keys key) ≡ false → is_filled m ≡ false → Built (with_mode keys key m) builds
    built_mode builds key m g was is = record {
      built = g.built;
      builds_are = g.builds_are;
      distinct = g.distinct;
      since = λ q. g.since q ∙ ap (λ (b : Bool). b && not (is_filled (start q))) (sym (same q));
      still = λ q h. same q ∙ g.still q h;
      builders = g.builders;
    }
      where
        same : (q : List ℕ) → is_filled (with_mode keys key m q) ≡ is_filled (keys q)
        same q = by (bytes_eq key q) refl
          where
            by : (b : Bool) → bytes_eq key q ≡ b → is_filled (with_mode keys key m q) ≡ is_filled (keys q)
            by true e = ap is_filled (put_mode keys key q m e) ∙ is ∙ sym was ∙ ap (λ (k : List ℕ). is_filled (keys k)) (bytes_true key q e)
            by false e = ap is_filled (other_mode keys key q m e)

    -- a key that is not filled is filled
    built_fill : (builds j : ℕ) (v : R) → Built keys builds → is_filled (keys (key_of j)) ≡ false → j < count → Built (with_mode keys (key_of j) (filled v)) (builds + 1)
    built_fill builds j v g was lt = record {
      built = key_of j ∷ g.built;
      builds_are = let e = g.builds_are in omega (arith, e);
      distinct = distinct_of (key_of j ∷ g.built) (none_of (key_of j) g.built (g.since (key_of j) ∙ ap (λ (b : Bool). b && not (is_filled (start (key_of j)))) was), differ_of g.built g.distinct);
      since = λ q. one q (bytes_eq (key_of j) q) refl;
      still = λ q h. kept q h (bytes_eq (key_of j) q) refl;
      builders = λ q h. by q h (bytes_eq q (key_of j)) refl;
    }
      where
        new : (b : Bool) → is_filled (start (key_of j)) ≡ b → not (is_filled (start (key_of j))) ≡ true
        new true is = absurd (true≢false (sym (g.still (key_of j) is) ∙ was))
        new false is = ap not is

        one : (q : List ℕ) (b : Bool) → bytes_eq (key_of j) q ≡ b
            → (bytes_eq q (key_of j) || has_name g.built q) ≡ (is_filled (with_mode keys (key_of j) (filled v) q) && not (is_filled (start q)))
        one q true e =
            let same = bytes_true (key_of j) q e in
            ap (λ (b : Bool). b || has_name g.built q) (bytes_same q (key_of j) (sym same))
            ∙ sym (ap (λ (m : Mode R). is_filled m && not (is_filled (start q))) (put_mode keys (key_of j) q (filled v) e) ∙ ap (λ (k : List ℕ). not (is_filled (start k))) (sym same) ∙ new (is_filled (start (key_of j))) refl)
        one q false e =
            ap (λ (b : Bool). b || has_name g.built q) (bytes_other (key_of j) q e)
            ∙ g.since q
            ∙ sym (ap (λ (m : Mode R). is_filled m && not (is_filled (start q))) (other_mode keys (key_of j) q (filled v) e))

        kept : (q : List ℕ) → is_filled (start q) ≡ true → (b : Bool) → bytes_eq (key_of j) q ≡ b → is_filled (with_mode keys (key_of j) (filled v) q) ≡ true
        kept q h true e = ap is_filled (put_mode keys (key_of j) q (filled v) e)
        kept q h false e = ap is_filled (other_mode keys (key_of j) q (filled v) e) ∙ g.still q h

        by : (q : List ℕ) → (bytes_eq q (key_of j) || has_name g.built q) ≡ true → (b : Bool) → bytes_eq q (key_of j) ≡ b → (i : ℕ) × (i < count) × (key_of i ≡ q)
        by q h true e = (j, lt, sym (bytes_true q (key_of j) e))
        by q h false e = g.builders q (sym (ap (λ (b : Bool). b || has_name g.built q) e) ∙ h)

  -- an event that puts no job on a deque
  placed_later : (earlier : List (Event R)) (e : Event R) → ((k : ℕ) → pushes k (e ∷ earlier) ≡ pushes k earlier)
      → {deques : List (List ℕ)} {hands : List Hand} {outputs : List (Option R)} {given_up : List ℕ} → Placed earlier deques hands outputs given_up → Placed (e ∷ earlier) deques hands outputs given_up
  placed_later earlier e same p = record {
    counted = λ k. p.counted k ∙ sym (same k);
    once = λ k. let a = p.once k in let b = same k in omega (arith, a, b);
    below = λ k le. same k ∙ p.below k le;
    wide = p.wide;
  }

  goes_take : (earlier : List (Event R)) (e : Event R) (s s' : Crew R) (w u : ℕ) → ((k : ℕ) → pushes k (e ∷ earlier) ≡ pushes k earlier) → Goes earlier s → TakesFrom s w u s' → Goes (e ∷ earlier) s'
  goes_take earlier e s s' w u same g (j, rest, has, is, to) = subst (Goes (e ∷ earlier)) (sym to) record {
    placed = placed_later earlier e same (placed_take w u j rest g.placed has is);
    ticketed = ticketed_hand s.hands s.keys w empty (job j) g.ticketed has (none_job j);
    stand = g.stand;
    given = g.given;
    built = g.built;
  }

  goes_claim : (earlier : List (Event R)) (s s' : Crew R) (w j : ℕ) (m : Mode R) → Goes earlier s → slice_get s.hands w ≡ Some (job j) → s.keys (key_of j) ≡ m → IsAnswered (key_of j) s w j m s' → Goes (claim w ∷ earlier) s'
  goes_claim earlier s s' w j free g has is to = subst (Goes (claim w ∷ earlier)) (sym to) record {
    placed = placed_later earlier (claim w) (λ k. refl) (placed_hand w (job j) (ticket j) g.placed has (λ k. refl));
    ticketed = ticketed_claim s.hands s.keys w j (job j) g.ticketed has is;
    stand = stand_mode s.keys (key_of j) (held w) g.stand (λ v e. absurd (let no : held w ≡ filled v = e in cc));
    given = given_mode s.keys s.outputs (key_of j) (held w) g.given (ap is_filled is);
    built = built_mode s.keys s.builds (key_of j) (held w) g.built (ap is_filled is) refl;
  }
  goes_claim earlier s s' w j (held by) g has is to = subst (Goes (claim w ∷ earlier)) (sym to.1) record {
    placed = placed_later earlier (claim w) (λ k. refl) g.placed;
    ticketed = g.ticketed;
    stand = g.stand;
    given = g.given;
    built = g.built;
  }
  goes_claim earlier s s' w j (filled v) g has is to =
      let there = in_range w j (job j) g.placed has (eq_one j j refl) in
      subst (Goes (claim w ∷ earlier)) (sym to) record {
        placed = placed_later earlier (claim w) (λ k. refl) (placed_done w j (job j) v g.placed has (λ k. refl));
        ticketed = ticketed_hand s.hands s.keys w (job j) empty g.ticketed has none_empty;
        stand = g.stand;
        given = given_set s.keys s.outputs j v g.given (let e = g.placed.wide in omega (arith, e, there.0)) (g.stand (key_of j) v is) (ap is_filled is);
        built = g.built;
      }

  -- each event keeps what holds
  pub goes_step : (earlier : List (Event R)) (e : Event R) (s s' : Crew R) → Goes earlier s → MayFollow count earlier e → IsCrewStep stands_for key_of e s s' → Goes (e ∷ earlier) s'
  goes_step earlier (push w j) s s' g may (jobs, is, to) = subst (Goes (push w j ∷ earlier)) (sym to) record {
    placed = placed_push w j jobs g.placed may.0 may.1 is;
    ticketed = g.ticketed;
    stand = g.stand;
    given = g.given;
    built = g.built;
  }
  goes_step earlier (pop w) s s' g may step = goes_take earlier (pop w) s s' w w (λ k. refl) g step
  goes_step earlier (steal w u) s s' g may step = goes_take earlier (steal w u) s s' w u (λ k. refl) g step
  goes_step earlier (claim w) s s' g may (j, has, to) = goes_claim earlier s s' w j (s.keys (key_of j)) g has refl to
  goes_step earlier (look w) s s' g may (j, has, to) = subst (Goes (look w ∷ earlier)) (sym to) record {
    placed = placed_later earlier (look w) (λ k. refl) g.placed;
    ticketed = g.ticketed;
    stand = g.stand;
    given = g.given;
    built = g.built;
  }
  goes_step earlier (fill w v) s s' g may (j, has, stands, to) =
      let there = in_range w j (ticket j) g.placed has (eq_one j j refl) in
      let was = ap is_filled (g.ticketed w j has) in
      subst (Goes (fill w v ∷ earlier)) (sym to) record {
        placed = placed_later earlier (fill w v) (λ k. refl) (placed_done w j (ticket j) v g.placed has (λ k. refl));
        ticketed = ticketed_spent s.hands s.keys w j empty (filled v) g.ticketed has none_empty;
        stand = stand_mode s.keys (key_of j) (filled v) g.stand (λ x e. let same : v ≡ x = cc in subst (λ (y : R). stands_for y (key_of j)) same stands);
        given = given_set (with_mode s.keys (key_of j) (filled v)) s.outputs j v (given_mode s.keys s.outputs (key_of j) (filled v) g.given was) (let e = g.placed.wide in omega (arith, e, there.0)) stands
            (ap is_filled (put_mode s.keys (key_of j) (key_of j) (filled v) (bytes_same (key_of j) (key_of j) refl)));
        built = built_fill s.keys s.builds j v g.built was there.0;
      }
  goes_step earlier (give_back w) s s' g may (j, has, to) =
      let was = ap is_filled (g.ticketed w j has) in
      subst (Goes (give_back w ∷ earlier)) (sym to) record {
        placed = placed_later earlier (give_back w) (λ k. refl) (placed_given w j g.placed has);
        ticketed = ticketed_spent s.hands s.keys w j stopped free g.ticketed has none_stopped;
        stand = stand_mode s.keys (key_of j) free g.stand (λ x e. absurd (let no : free ≡ filled x = e in cc));
        given = given_mode s.keys s.outputs (key_of j) free g.given was;
        built = built_mode s.keys s.builds (key_of j) free g.built was refl;
      }
  goes_step earlier (stop w) s s' g may (has, to) = subst (Goes (stop w ∷ earlier)) (sym to) record {
    placed = placed_later earlier (stop w) (λ k. refl) (placed_hand w empty stopped g.placed has (λ k. refl));
    ticketed = ticketed_hand s.hands s.keys w empty stopped g.ticketed has none_stopped;
    stand = g.stand;
    given = g.given;
    built = g.built;
  }
