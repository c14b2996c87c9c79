-- What holds at the end of a run of a crew.
use Rattle.std.proofs.Common.{◌≡◌, ◌≢◌, ◌⊎◌, inl, inr, ℕ, zero, suc, ◌+◌, ◌<◌, ◌≤◌, List, [], ◌∷◌, Bool, true, false, true≢false, not, ◌&&◌, ◌||◌, length, slice_get, filter, Option, Some, None, refl, sym, ap, subst, ◌∙◌, arith}
use Rattle.std.specs.Prelude.{map, replicate}
use Rattle.std.specs.Cmp.{IsEquivalence}
use Rattle.std.specs.List.{list_all, range_with_len}
use Rattle.std.specs.Option.{is_some}
use Rattle.std.specs.Str.{bytes_eq}
use Rattle.std.proofs.lemmas.List.{length-replicate}
use Rattle.std.proofs.lemmas.Map.Made.{length-from_keys}
use Rattle.rtl_sig.specs.Names.{AreDistinct, has_name}
use Rattle.result_cache.proofs.Keys.{bytes_same, bytes_true, bytes_other, distinct_of}
use Rattle.result_cache.proofs.Rising.{among_filtered}
use Rattle.result_cache.proofs.NewKeys.{among_keys}
use Rattle.result_cache.specs.History.{Mode, held, filled}
use Rattle.desk_core.specs.Crew.{Hand, empty, ticket, Crew, Event, push, pop, steal, claim, look, fill, give_back, stop}
use Rattle.desk_core.specs.CrewRuns.{AreCrewSteps, IsReady, IsCrewRun, pushes, in_deques, in_hands, done, is_filled, CrewHolds, KnowsFilled, AllDone, AgreesAlone}
use Rattle.work_crew.specs.Times.{times}
use Rattle.work_crew.proofs.Counting.{same_or}
use Rattle.desk_core.proofs.CrewPlaces.{none_in_deques, none_in_hands, none_done}
use Rattle.desk_core.proofs.CrewSteps.{Goes, goes_step}

-- a place of equal items
replicated : {A : Type 0} (n at : ℕ) (x y : A) → slice_get (replicate n x) at ≡ Some y → y ≡ x
replicated zero at x y h = absurd (let no : None ≡ Some y = h in cc)
replicated (suc n) zero x y h = let e : y ≡ x = cc in e
replicated (suc n) (suc at) x y h = replicated n at x y h

itself_or_not : (b : Bool) → (b && not b) ≡ false
itself_or_not true = refl
itself_or_not false = refl

-- a key of a job is that of one of the numbers
job_of : (key_of : ℕ → List ℕ) (start n : ℕ) (key : List ℕ) → has_name (map key_of (range_with_len start n)) key ≡ true → (j : ℕ) × (j < start + n) × (key_of j ≡ key)
job_of key_of start zero key h = absurd (true≢false (sym h))
job_of key_of start (suc n) key h = by (bytes_eq key (key_of start)) refl (job_of key_of (start + 1) n key)
  where
    Found : ℕ → ℕ → Type 0
    Found from more = (j : ℕ) × (j < from + more) × (key_of j ≡ key)

    by : (b : Bool) → bytes_eq key (key_of start) ≡ b → (has_name (map key_of (range_with_len (start + 1) n)) key ≡ true → Found (start + 1) n) → Found start (suc n)
    by true e later = (start, omega arith, sym (bytes_true key (key_of start) e))
    by false e later =
        let rest = later (sym (ap (λ (b : Bool). b || has_name (map key_of (range_with_len (start + 1) n)) key) e) ∙ h) in
        (rest.0, let l = rest.1 in omega (arith, l), rest.2)

or_true : (b : Bool) → (b || true) ≡ true
or_true true = refl
or_true false = refl

of_job : (key_of : ℕ → List ℕ) (start n j : ℕ) → start ≤ j → j < start + n → has_name (map key_of (range_with_len start n)) (key_of j) ≡ true
of_job key_of start zero j le lt = absurd (omega (arith, le, lt))
of_job key_of start (suc n) j le lt = by (same_or j start) (of_job key_of (start + 1) n j)
  where
    by : (j ≡ start) ⊎ (j ≢ start) → (start + 1 ≤ j → j < start + 1 + n → has_name (map key_of (range_with_len (start + 1) n)) (key_of j) ≡ true)
        → (bytes_eq (key_of j) (key_of start) || has_name (map key_of (range_with_len (start + 1) n)) (key_of j)) ≡ true
    by (inl e) later = ap (λ (b : Bool). b || has_name (map key_of (range_with_len (start + 1) n)) (key_of j)) (bytes_same (key_of j) (key_of start) (ap key_of e))
    by (inr ne) later = ap (λ (b : Bool). bytes_eq (key_of j) (key_of start) || b) (later (omega (arith, le, ne)) (omega (arith, lt))) ∙ or_true (bytes_eq (key_of j) (key_of start))

-- each of all outputs is there
there : {R : Type 0} (outputs : List (Option R)) (j : ℕ) → list_all is_some outputs ≡ true → j < length outputs → (v : R) × (slice_get outputs j ≡ Some (Some v))
there [] j all lt = absurd (omega (arith, lt))
there (None ∷ os) j all lt = absurd (true≢false (sym all))
there (Some v ∷ os) zero all lt = (v, refl)
there (Some v ∷ os) (suc j) all lt = there os j all (omega (arith, lt))

module _ {R : Type 0} {stands_for : R → List ℕ → Type 0} {key_of : ℕ → List ℕ} where
  -- at the start
  goes_first : (workers count : ℕ) (first : Crew R) → IsReady stands_for workers count first → Goes stands_for key_of count first.keys [] first
  goes_first workers count first r = record {
    placed = record {
      counted = λ k.
          let a = ap (in_deques k) r.deques ∙ none_in_deques k workers in
          let b = ap (in_hands k) r.hands ∙ none_in_hands k workers in
          let c = ap (done k) r.outputs ∙ none_done R k count in
          let d = ap (times k) r.given_up in
          omega (arith, a, b, c, d);
      once = λ k. omega arith;
      below = λ k le. refl;
      wide = ap length r.outputs ∙ length-replicate count None;
    };
    ticketed = λ w j is. absurd (
        let e : ticket j ≡ empty = replicated workers w empty (ticket j) (sym (ap (λ (l : List Hand). slice_get l w) r.hands) ∙ is) in cc);
    stand = r.stand;
    given = λ j v is. absurd (
        let e : Some v ≡ None = replicated count j None (Some v) (sym (ap (λ (l : List (Option R)). slice_get l j) r.outputs) ∙ is) in cc);
    built = record {
      built = [];
      builds_are = r.builds;
      distinct = none_twice;
      since = λ key. sym (itself_or_not (is_filled (first.keys key)));
      still = λ key h. h;
      builders = λ key h. absurd (true≢false (sym h));
    };
  }
    where
      none_twice : AreDistinct []
      none_twice = distinct_of [] tt

  -- behind all of the events: the last of them stands first
  goes_on : (count : ℕ) (start : List ℕ → Mode R) (events earlier : List (Event R)) (s s' : Crew R) → Goes stands_for key_of count start earlier s → AreCrewSteps stands_for key_of count earlier events s s'
      → (all : List (Event R)) × Goes stands_for key_of count start all s' × ((k : ℕ) → pushes k all ≡ pushes k events + pushes k earlier)
  goes_on count start [] earlier s s' g same = (earlier, subst (Goes stands_for key_of count start earlier) same g, λ k. let e : pushes k earlier ≡ 0 + pushes k earlier = omega arith in e)
  goes_on count start (e ∷ events) earlier s s' g (may, (between, step, more)) =
      let rest = goes_on count start events (e ∷ earlier) between s' (goes_step stands_for key_of count start earlier e s between g may step) more in
      (rest.0, rest.1, λ k. rest.2 k ∙ turned k e)
    where
      turned : (k : ℕ) (e : Event R) → pushes k events + pushes k (e ∷ earlier) ≡ pushes k (e ∷ events) + pushes k earlier
      turned k (push w i) = omega arith
      turned k (pop w) = refl
      turned k (steal w u) = refl
      turned k (claim w) = refl
      turned k (look w) = refl
      turned k (fill w v) = refl
      turned k (give_back w) = refl
      turned k (stop w) = refl

  gone : (workers count : ℕ) (first last : Crew R) (events : List (Event R)) → IsCrewRun stands_for key_of workers count first events last
      → (all : List (Event R)) × Goes stands_for key_of count first.keys all last × ((k : ℕ) → pushes k all ≡ pushes k events + 0)
  gone workers count first last events run = goes_on count first.keys events [] first last (goes_first workers count first run.ready) run.steps

  pub crew_holds : (workers count : ℕ) (first last : Crew R) (events : List (Event R)) → IsCrewRun stands_for key_of workers count first events last → CrewHolds stands_for key_of first events last
  crew_holds workers count first last events run =
      let end = gone workers count first last events run in
      record {
        one_place = λ j. let a = end.1.placed.counted j in let b = end.1.placed.once j in let c = end.2 j in (omega (arith, a, c), omega (arith, b, c));
        one_holder = λ w u i j has has' same.
            let both : held w ≡ held u = sym (end.1.ticketed w i has) ∙ ap last.keys same ∙ end.1.ticketed u j has' in
            let e : w ≡ u = cc in e;
        holds = end.1.ticketed;
        outputs = λ j v is. (end.1.given j v is).0;
        built = end.1.built.built;
        builds = end.1.built.builds_are;
        since = record { distinct = end.1.built.distinct; since = end.1.built.since };
      }

  pub agrees_alone : (workers count : ℕ) (first last : Crew R) (events : List (Event R)) (kept : List (List ℕ)) → IsCrewRun stands_for key_of workers count first events last → KnowsFilled kept first → AllDone last → AgreesAlone key_of count kept last
  agrees_alone workers count first last events kept run knows all = record {
    len = g.placed.wide;
    builds = g.built.builds_are ∙ length-from_keys bytes_laws g.built.built (filter (λ key. not (has_name kept key)) keys) g.built.distinct
        (λ q. g.built.since q ∙ ap (λ (b : Bool). is_filled (last.keys q) && not b) (sym (knows q)) ∙ one q (has_name kept q) refl (has_name keys q) refl ∙ sym (among_filtered (λ key. not (has_name kept key)) q keys));
    filled = λ q. among_keys q kept keys ∙ two q (has_name kept q) refl (has_name keys q) refl;
  }
    where
      end : (all : List (Event R)) × Goes stands_for key_of count first.keys all last × ((k : ℕ) → pushes k all ≡ pushes k events + 0)
      end = gone workers count first last events run

      g : Goes stands_for key_of count first.keys end.0 last
      g = end.1

      keys : List (List ℕ)
      keys = map key_of (range_with_len 0 count)

      -- the key of each job is filled
      is_there : (q : List ℕ) → has_name keys q ≡ true → is_filled (last.keys q) ≡ true
      is_there q h =
          let j = job_of key_of 0 count q h in
          let v = there last.outputs j.0 all (let e = g.placed.wide in let l = j.1 in omega (arith, e, l)) in
          ap (λ (k : List ℕ). is_filled (last.keys k)) (sym j.2) ∙ (g.given j.0 v.0 v.1).1

      -- a key that is filled, and was not at the start, is that of a job
      is_job : (q : List ℕ) → has_name kept q ≡ false → is_filled (last.keys q) ≡ true → has_name keys q ≡ true
      is_job q not_kept is =
          let was : has_name g.built.built q ≡ true = g.built.since q ∙ ap (λ (b : Bool). b && not (is_filled (first.keys q))) is ∙ ap not (sym (knows q) ∙ not_kept) in
          let j = g.built.builders q was in
          ap (has_name keys) (sym j.2) ∙ of_job key_of 0 count j.0 (omega arith) (let l = j.1 in omega (arith, l))

      one : (q : List ℕ) (a : Bool) → has_name kept q ≡ a → (b : Bool) → has_name keys q ≡ b → (is_filled (last.keys q) && not (has_name kept q)) ≡ (has_name keys q && not (has_name kept q))
      one q true ka b kb = ap (λ (x : Bool). is_filled (last.keys q) && not x) ka ∙ nothing (is_filled (last.keys q)) ∙ sym (ap (λ (x : Bool). has_name keys q && not x) ka ∙ nothing (has_name keys q))
        where
          nothing : (b : Bool) → (b && false) ≡ false
          nothing true = refl
          nothing false = refl
      one q false ka true kb = ap (λ (x : Bool). x && not (has_name kept q)) (is_there q kb ∙ sym kb)
      one q false ka false kb = ap (λ (x : Bool). x && not (has_name kept q)) (by (is_filled (last.keys q)) refl ∙ sym kb)
        where
          by : (b : Bool) → is_filled (last.keys q) ≡ b → is_filled (last.keys q) ≡ false
          by true e = absurd (true≢false (sym (is_job q ka e) ∙ kb))
          by false e = e

      two : (q : List ℕ) (a : Bool) → has_name kept q ≡ a → (b : Bool) → has_name keys q ≡ b → (has_name kept q || has_name keys q) ≡ is_filled (last.keys q)
      two q true ka b kb = ap (λ (x : Bool). x || has_name keys q) ka ∙ sym (g.built.still q (sym (knows q) ∙ ka))
      two q false ka true kb = ap (λ (x : Bool). x || has_name keys q) ka ∙ kb ∙ sym (is_there q kb)
      two q false ka false kb = ap (λ (x : Bool). x || has_name keys q) ka ∙ kb ∙ sym (by (is_filled (last.keys q)) refl)
        where
          by : (b : Bool) → is_filled (last.keys q) ≡ b → is_filled (last.keys q) ≡ false
          by true e = absurd (true≢false (sym (is_job q ka e) ∙ kb))
          by false e = e

      turned : (x y : List ℕ) (a : Bool) → bytes_eq x y ≡ a → bytes_eq x y ≡ bytes_eq y x
      turned x y true e = e ∙ sym (bytes_same y x (sym (bytes_true x y e)))
      turned x y false e = e ∙ sym (bytes_other x y e)

      bytes_laws : IsEquivalence bytes_eq
      bytes_laws = record {
        refl = λ x. bytes_same x x refl;
        symm = λ x y. turned x y (bytes_eq x y) refl;
        congr = λ x y z e. ap (λ (k : List ℕ). bytes_eq k z) (bytes_true x y e);
      }
