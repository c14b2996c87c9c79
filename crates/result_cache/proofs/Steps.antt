-- Each step keeps the rule of the seats.
use Rattle.std.proofs.Common.{◌≡◌, ◌≢◌, ◌⊎◌, ℕ, zero, suc, ◌+◌, ◌<◌, List, [], ◌∷◌, ◌++◌, map, length, set, get_or, drop, Bool, true, false, cond, ◌==◌, true≢false, eqb, eq-eqb, inl, inr, refl, sym, ap, ◌∙◌, subst, ⊎_elim, arith, append_assoc}
use Rattle.std.proofs.lemmas.Bool.Decides.{eqb_tells}
use Rattle.std.proofs.Math.Seq.{drop-append_seam}
use Rattle.std.proofs.Math.ListN.{length-set}
use Rattle.std.specs.Prelude.{slice_index}
use mathlib.Core.Option.{some, none, some-injective, some-ne-none}
use lib.ListN.{get_elem?}
use prog.Atomic.{either}
use Rattle.atomic_table.specs.Table.{State, Me, keeps, takes, gives, Allows, Splits, Joins, stepped}
use Rattle.atomic_table.proofs.Lists.{at_set, set_here, set_else, set_again}
use Rattle.result_cache.specs.declared.call.Call.{Call}
use Rattle.result_cache.specs.declared.view.Known.{Known}
use Rattle.result_cache.specs.declared.view.View.{View}
use Rattle.result_cache.specs.History.{IsLegal}
use Rattle.result_cache.specs.Tickets.{calls_by}
use Rattle.result_cache.specs.Stored.{Contents}
use Rattle.result_cache.specs.Shared.{StartsWith, AreBelow, on_shard, AreOf, seen_at, view_of, holding, seat_of, rest_of, others, alone, together, EachSeat, NoneHas, AreApart, Sits, Fits, Keeps, Agrees, Taken, TakenIf, seat_after, Given, GivenUp, with_seen, Looked, MayGive, MayGiveUp}
use Rattle.result_cache.proofs.Histories.{append_none, by-append, on-append, by_all, by_none, on_all, on_none, below-append, below_all, list_here, list_else}

off : false ≡ true → ⊥
off e = true≢false (sym e)

-- f, but a at i
abbrev pub upd : {A : Type 0} → (ℕ → A) → ℕ → A → ℕ → A
upd f i a j = cond (eqb j i) a (f j)

pub upd_same : {A : Type 0} (f : ℕ → A) (i : ℕ) (a : A) (j : ℕ) → j ≡ i → upd f i a j ≡ a
upd_same f i a j e = rw (eq-eqb j i e) refl

pub upd_other : {A : Type 0} (f : ℕ → A) (i : ℕ) (a : A) (j : ℕ) → j ≢ i → upd f i a j ≡ f j
upd_other f i a j ne = ⊎_elim (λ (t : (eqb j i ≡ true) × (j ≡ i)). absurd (ne t.1)) (λ (t : (eqb j i ≡ false) × (j ≢ i)). rw (t.0) refl) (eqb_tells j i)

word_here : (ws : List ℕ) (i n : ℕ) → i < length ws → slice_index (set ws i n) i ≡ n
word_here [] i n l = absurd (omega arith)
word_here (w ∷ ws) zero n l = refl
word_here (w ∷ ws) (suc i) n l = word_here ws i n (omega arith)

word_else : (ws : List ℕ) (i j n : ℕ) → j ≢ i → slice_index (set ws i n) j ≡ slice_index ws j
word_else [] i j n ne = refl
word_else (w ∷ ws) zero zero n ne = absurd (ne refl)
word_else (w ∷ ws) zero (suc j) n ne = refl
word_else (w ∷ ws) (suc i) zero n ne = refl
word_else (w ∷ ws) (suc i) (suc j) n ne = word_else ws i j n (λ e. ne (ap suc e))

words_again : (ws : List ℕ) (i : ℕ) → set ws i (slice_index ws i) ≡ ws
words_again [] i = refl
words_again (w ∷ ws) zero = refl
words_again (w ∷ ws) (suc i) = ap (λ r. w ∷ r) (words_again ws i)

at_end : {A : Type 0} (l : List A) (a b : A) (j : ℕ) → get_elem? (l ++ a ∷ []) j ≡ some b → (get_elem? l j ≡ some b) ⊎ ((j ≡ length l) × (a ≡ b))
at_end [] a b zero e = inr (refl, some-injective a b e)
at_end [] a b (suc j) e = absurd (some-ne-none b (sym e))
at_end (x ∷ xs) a b zero e = inl e
at_end (x ∷ xs) a b (suc j) e = ⊎_elim (λ t. inl t) (λ t. inr (ap suc t.0, t.1)) (at_end xs a b j e)

-- seats

pub each_map : (P Q : Known → Type 0) → ((k : Known) → P k → Q k) → (ks : List Known) → EachSeat P ks → EachSeat Q ks
each_map P Q f [] h = tt
each_map P Q f (k ∷ ks) h = (f k h.0, each_map P Q f ks h.1)

-- who sits elsewhere has another number
none_there : (logs : ℕ → List Call) (place : ℕ → ℕ) (callers shards n p q : ℕ) → q ≡ place n → p ≢ q → (ks : List Known) → EachSeat (Sits logs place callers shards p) ks → NoneHas n ks
none_there logs place callers shards n p q at ne [] h = tt
none_there logs place callers shards n p q at ne (k ∷ ks) h = ((λ e. ne (h.0.there ∙ ap place e ∙ sym at)), none_there logs place callers shards n p q at ne ks h.1)

sits_still : (logs : ℕ → List Call) (place : ℕ → ℕ) (callers shards p n q : ℕ) (k : Known) → k.number ≢ n → Sits logs place callers shards p k → Sits logs (upd place n q) callers shards p k
sits_still logs place callers shards p n q k ne h = record {
  there = h.there ∙ sym (upd_other place n q k.number ne);
  callers_are = h.callers_are;
  shards_are = h.shards_are;
  wide = h.wide;
  begins = h.begins;
  own = h.own;
}

each_still : (logs : ℕ → List Call) (place : ℕ → ℕ) (callers shards p n q : ℕ) (ks : List Known) → NoneHas n ks → EachSeat (Sits logs place callers shards p) ks → EachSeat (Sits logs (upd place n q) callers shards p) ks
each_still logs place callers shards p n q [] away h = tt
each_still logs place callers shards p n q (k ∷ ks) away h = (sits_still logs place callers shards p n q k away.0 h.0, each_still logs place callers shards p n q ks away.1 h.1)

sits_moved : (logs : ℕ → List Call) (place : ℕ → ℕ) (callers shards p q : ℕ) (k : Known) → Sits logs place callers shards p k → Sits logs (upd place k.number q) callers shards q k
sits_moved logs place callers shards p q k h = record {
  there = sym (upd_same place k.number q k.number refl);
  callers_are = h.callers_are;
  shards_are = h.shards_are;
  wide = h.wide;
  begins = h.begins;
  own = h.own;
}

-- the others sit on where a seat made calls
sits_on : (logs : ℕ → List Call) (place : ℕ → ℕ) (callers shards q i n : ℕ) (log more : List Call) → log ≡ logs i ++ more → AreOf shards i n more → (k : Known) → n ≢ k.number
    → Sits logs place callers shards q k → Sits (upd logs i log) place callers shards q k
sits_on logs place callers shards q i n log more grows all k other h = record {
  there = h.there;
  callers_are = h.callers_are;
  shards_are = h.shards_are;
  wide = h.wide;
  begins = λ j. ⊎_elim
      (λ (t : (eqb j i ≡ true) × (j ≡ i)).
      let old = h.begins i in
      (old.0 ++ more, upd_same logs i log j t.1 ∙ grows ∙ ap (λ r. r ++ more) (old.1 ∙ ap (λ m. seen_at k m ++ old.0) (sym t.1)) ∙ append_assoc (seen_at k j) old.0 more))
      (λ (t : (eqb j i ≡ false) × (j ≢ i)). let old = h.begins j in (old.0, upd_other logs i log j t.1 ∙ old.1))
      (eqb_tells j i);
  own = λ j. ⊎_elim
      (λ (t : (eqb j i ≡ true) × (j ≡ i)).
      ap (calls_by k.number) (upd_same logs i log j t.1 ∙ grows) ∙ by-append k.number (logs i) more ∙ (λ m. h.own i m ++ by_none shards i n k.number more all other m)
      ∙ append_none (on_shard shards i k.calls) ∙ ap (λ m. on_shard shards m k.calls) (sym t.1))
      (λ (t : (eqb j i ≡ false) × (j ≢ i)). ap (calls_by k.number) (upd_other logs i log j t.1) ∙ h.own j)
      (eqb_tells j i);
}

-- so does the seat that made them
sits_after : (logs : ℕ → List Call) (place : ℕ → ℕ) (callers shards p i : ℕ) (log more new : List Call) (k : Known) → log ≡ logs i ++ more → AreOf shards i k.number more → new ≡ more → i < shards
    → Sits logs place callers shards p k → Sits (upd logs i log) place callers shards p (seat_after k i new log)
sits_after logs place callers shards p i log more new k grows all new_is i_in h = record {
  there = h.there;
  callers_are = h.callers_are;
  shards_are = h.shards_are;
  wide = length-set k.seen i log ∙ h.wide;
  begins = λ j. ⊎_elim
      (λ (t : (eqb j i ≡ true) × (j ≡ i)).
      ([], upd_same logs i log j t.1 ∙ sym (ap (λ m. get_or (set k.seen i log) m []) t.1 ∙ list_here k.seen i log (let w = h.wide in omega arith)) ∙ sym (append_none (get_or (set k.seen i log) j []))))
      (λ (t : (eqb j i ≡ false) × (j ≢ i)).
      let old = h.begins j in
      (old.0, upd_other logs i log j t.1 ∙ old.1 ∙ ap (λ r. r ++ old.0) (sym (list_else k.seen i j log t.1))))
      (eqb_tells j i);
  own = λ j. ⊎_elim
      (λ (t : (eqb j i ≡ true) × (j ≡ i)).
      ap (calls_by k.number) (upd_same logs i log j t.1 ∙ grows) ∙ by-append k.number (logs i) more ∙ (λ m. h.own i m ++ by_all shards i k.number more all m)
      ∙ (λ m. on_shard shards i k.calls ++ sym (on_all shards i k.number more all) m) ∙ sym (on-append shards i k.calls more) ∙ (λ m. on_shard shards (sym t.1 m) (k.calls ++ sym new_is m)))
      (λ (t : (eqb j i ≡ false) × (j ≢ i)).
      ap (calls_by k.number) (upd_other logs i log j t.1) ∙ h.own j ∙ sym (append_none (on_shard shards j k.calls)) ∙ ap (λ r. on_shard shards j k.calls ++ r) (sym (on_none shards i k.number j more all (λ e. t.1 (sym e))))
      ∙ sym (on-append shards j k.calls more) ∙ (λ m. on_shard shards j (k.calls ++ sym new_is m)))
      (eqb_tells j i);
}

agrees : (logs : ℕ → List Call) (place : ℕ → ℕ) (callers shards p i : ℕ) (log : List Call) (k : Known) → i < shards → IsLegal (logs i) → AreBelow callers (logs i) → log ≡ logs i → Sits logs place callers shards p k → Agrees log i k
agrees logs place callers shards p i log k i_in legal below same h = record {
  legal = subst IsLegal (sym same) legal;
  numbers = subst (λ (x : ℕ × List Call). AreBelow x.0 x.1) (λ j. (sym h.callers_are j, sym same j)) below;
  begins = subst (λ l. StartsWith l (seen_at k i)) (sym same) (h.begins i);
  own = ap (calls_by k.number) same ∙ h.own i ∙ ap (λ m. on_shard m i k.calls) (sym h.shards_are);
  wide = h.wide ∙ sym h.shards_are;
  within = let e = h.shards_are in omega arith;
}

-- a look changes no number
none_seeing : (i n : ℕ) (log : List Call) (ks : List Known) → NoneHas n ks → NoneHas n (map (with_seen i log) ks)
none_seeing i n log [] h = tt
none_seeing i n log (k ∷ ks) h = (h.0, none_seeing i n log ks h.1)

apart_seeing : (i : ℕ) (log : List Call) (ks : List Known) → AreApart ks → AreApart (map (with_seen i log) ks)
apart_seeing i log [] h = tt
apart_seeing i log (k ∷ ks) h = (none_seeing i k.number log ks h.0, apart_seeing i log ks h.1)

sits_seeing : (logs : ℕ → List Call) (place : ℕ → ℕ) (callers shards p i : ℕ) (k : Known) → i < shards → Sits logs place callers shards p k → Sits logs place callers shards p (with_seen i (logs i) k)
sits_seeing logs place callers shards p i k i_in h = record {
  there = h.there;
  callers_are = h.callers_are;
  shards_are = h.shards_are;
  wide = length-set k.seen i (logs i) ∙ h.wide;
  begins = λ j. ⊎_elim
      (λ (t : (eqb j i ≡ true) × (j ≡ i)).
      ([], ap logs t.1 ∙ sym (ap (λ m. get_or (set k.seen i (logs i)) m []) t.1 ∙ list_here k.seen i (logs i) (let w = h.wide in omega arith)) ∙ sym (append_none (get_or (set k.seen i (logs i)) j []))))
      (λ (t : (eqb j i ≡ false) × (j ≢ i)). let old = h.begins j in (old.0, old.1 ∙ ap (λ r. r ++ old.0) (sym (list_else k.seen i j (logs i) t.1))))
      (eqb_tells j i);
  own = h.own;
}

each_seeing : (logs : ℕ → List Call) (place : ℕ → ℕ) (callers shards p i : ℕ) (ks : List Known) → i < shards → EachSeat (Sits logs place callers shards p) ks → EachSeat (Sits logs place callers shards p) (map (with_seen i (logs i)) ks)
each_seeing logs place callers shards p i [] i_in h = tt
each_seeing logs place callers shards p i (k ∷ ks) i_in h = (sits_seeing logs place callers shards p i k i_in h.0, each_seeing logs place callers shards p i ks i_in h.1)

module _ (V : Type 0) (callers shards : ℕ) where
  -- a thread that holds no lock
  idle : (logs : ℕ → List Call) (place owner : ℕ → ℕ) (out : ℕ → Type 0) (p : ℕ) (ks : List Known) → AreApart ks → EachSeat (Sits logs place callers shards p) ks → Fits logs place owner out callers shards p (view_of ks)
  idle logs place owner out p ks apart seats = record { apart = apart; seats = seats; locked = λ b. absurd (off b) }

  -- taking a lock
  take_it : (p : ℕ) (k : Known) (i : ℕ) (s : State (Contents V) View) (y : Contents V) → Keeps V callers shards s → i < shards
      → get_elem? s.views p ≡ some (view_of (k ∷ [])) → get_elem? s.homes i ≡ some (some y)
      → Keeps V callers shards (record { words = set s.words i 1; homes = set s.homes i none; views = set s.views p (holding k i y.history) })
  take_it p k i s y h i_in at is = record {
    logs = h.logs;
    place = h.place;
    owner = upd h.owner i p;
    words_are = length-set s.words i 1 ∙ h.words_are;
    homes_are = length-set s.homes i none ∙ h.homes_are;
    legal = h.legal;
    numbers = h.numbers;
    home = λ j j_in zero_is. ⊎_elim
        (λ (t : (eqb j i ≡ true) × (j ≡ i)).
        let lw : i < length s.words = let r = h.words_are in omega arith in
        let one : slice_index (set s.words i 1) j ≡ 1 = subst (λ m. slice_index (set s.words i 1) m ≡ 1) (sym t.1) (word_here s.words i 1 lw) in
        absurd (let z = zero_is in omega arith))
        (λ (t : (eqb j i ≡ false) × (j ≢ i)).
        let old = h.home j j_in (sym (word_else s.words i j 1 t.1) ∙ zero_is) in
        (old.0, set_else s.homes i j none t.1 ∙ old.1))
        (eqb_tells j i);
    same = λ j u e. ⊎_elim (λ (t : (j ≡ i) × (none ≡ some u)). absurd (some-ne-none u (sym t.1))) (λ (t : (j ≢ i) × (get_elem? s.homes j ≡ some (some u))). h.same j u t.1) (at_set s.homes i j none (some u) e);
    fits = λ q u e. ⊎_elim
        (λ (t : (q ≡ p) × (holding k i y.history ≡ u)). subst (λ (x : ℕ × View). Fits h.logs h.place (upd h.owner i p) (λ j. get_elem? (set s.homes i none) j ≡ some none) callers shards x.0 x.1) (λ m. (sym t.0 m, t.1 m)) here)
        (λ (t : (q ≢ p) × (get_elem? s.views q ≡ some u)). there q u (h.fits q u t.1))
        (at_set s.views p q (holding k i y.history) u e);
  }
    where
      here : Fits h.logs h.place (upd h.owner i p) (λ j. get_elem? (set s.homes i none) j ≡ some none) callers shards p (holding k i y.history)
      here =
          let f = h.fits p (view_of (k ∷ [])) at in
          record {
            apart = f.apart;
            seats = f.seats;
            locked = λ _. (sym (upd_same h.owner i p i refl), sym (h.same i y is), set_here s.homes i none (let r = h.homes_are in omega arith));
          }

      there : (q : ℕ) (u : View) → Fits h.logs h.place h.owner (λ j. get_elem? s.homes j ≡ some none) callers shards q u → Fits h.logs h.place (upd h.owner i p) (λ j. get_elem? (set s.homes i none) j ≡ some none) callers shards q u
      there q u f = record {
        apart = f.apart;
        seats = f.seats;
        locked = λ b.
            let was = f.locked b in
            let away : u.at ≢ i = λ e. some-ne-none y (some-injective (some y) none (sym is ∙ subst (λ m. get_elem? s.homes m ≡ some none) e was.2)) in
            (was.0 ∙ sym (upd_other h.owner i p u.at away), was.1, set_else s.homes i u.at none away ∙ was.2);
      }

  takes_lock : (slots p : ℕ) (k : Known) (i : ℕ) → i < shards → Allows (Keeps V callers shards) slots p (view_of (k ∷ []), []) i (λ n. either (n == 0) 1 n) (Taken V i (view_of (k ∷ []), []))
  takes_lock slots p k i i_in s h is_slots at small =
      let v = view_of (k ∷ []) in
      let n = slice_index s.words i in
      let f = h.fits p v at in
      ⊎_elim
      (λ (t : (eqb n 0 ≡ true) × (n ≡ 0)).
      let y = h.home i i_in t.1 in
      let w = holding k i y.0.history in
      let P : Bool → Type 0 = λ b. Keeps V callers shards (stepped s i (either b 1 n) p [] w (takes i y.0)) in
      let Q : Bool → Type 0 = λ b. TakenIf V i b (v, []) (w, (i, y.0) ∷ []) in (
        w,
        takes i y.0,
        y.1,
        subst P (sym t.0) (take_it p k i s y.0 h i_in at y.1),
        subst Q (sym t.0) (y.0, refl, agrees h.logs h.place callers shards p i y.0.history k i_in (h.legal i) (h.numbers i) (h.same i y.0 y.1) f.seats.0),
      ))
      (λ (t : (eqb n 0 ≡ false) × (n ≢ 0)).
      let P : Bool → Type 0 = λ b. Keeps V callers shards (stepped s i (either b 1 n) p [] v keeps) in
      let Q : Bool → Type 0 = λ b. TakenIf V i b (v, []) (v, []) in
      let S : List ℕ × List View → Type 0 = λ r. Keeps V callers shards (record { words = r.0; homes = s.homes; views = r.1 }) in
      (v, keeps, tt, subst P (sym t.0) (subst S (λ j. (sym (words_again s.words i) j, sym (set_again s.views p v at) j)) h), subst Q (sym t.0) refl))
      (eqb_tells n 0)

  pub takes_as : (slots p : ℕ) (me : Me (Contents V) View) (i : ℕ) → me ≡ (view_of (seat_of me.0 ∷ []), []) → i < shards → Allows (Keeps V callers shards) slots p me i (λ n. either (n == 0) 1 n) (Taken V i me)
  takes_as slots p me i is i_in = subst (λ (m : Me (Contents V) View). Allows (Keeps V callers shards) slots p m i (λ n. either (n == 0) 1 n) (Taken V i m)) (sym is) (takes_lock slots p (seat_of me.0) i i_in)

  -- giving a lock back, with calls
  give_it : (p : ℕ) (k : Known) (i : ℕ) (log : List Call) (s : State (Contents V) View) (y : Contents V) (more : List Call)
      → Keeps V callers shards s → i < shards → get_elem? s.views p ≡ some (holding k i log) → y.history ≡ log ++ more → AreOf k.shards i k.number more → IsLegal y.history → k.number < k.callers
      → Keeps V callers shards (record { words = set s.words i 0; homes = set s.homes i (some y); views = set s.views p (view_of (seat_after k i (drop (length log) y.history) y.history ∷ [])) })
  give_it p k i log s y more h i_in at grown all legal below =
      record {
        logs = upd h.logs i y.history;
        place = h.place;
        owner = h.owner;
        words_are = length-set s.words i 0 ∙ h.words_are;
        homes_are = length-set s.homes i (some y) ∙ h.homes_are;
        legal = λ j. ⊎_elim
            (λ (t : (eqb j i ≡ true) × (j ≡ i)). subst IsLegal (sym (upd_same h.logs i y.history j t.1)) legal)
            (λ (t : (eqb j i ≡ false) × (j ≢ i)). subst IsLegal (sym (upd_other h.logs i y.history j t.1)) (h.legal j))
            (eqb_tells j i);
        numbers = λ j. ⊎_elim
            (λ (t : (eqb j i ≡ true) × (j ≡ i)). subst (AreBelow callers) (sym (upd_same h.logs i y.history j t.1 ∙ grows)) (below-append callers (h.logs i) more (h.numbers i) (below_all shards i k.number callers more all' (let c = st.callers_are in omega arith))))
            (λ (t : (eqb j i ≡ false) × (j ≢ i)). subst (AreBelow callers) (sym (upd_other h.logs i y.history j t.1)) (h.numbers j))
            (eqb_tells j i);
        home = λ j j_in zero_is. ⊎_elim
            (λ (t : (eqb j i ≡ true) × (j ≡ i)). (y, subst (λ m. get_elem? (set s.homes i (some y)) m ≡ some (some y)) (sym t.1) (set_here s.homes i (some y) (let r = h.homes_are in omega arith))))
            (λ (t : (eqb j i ≡ false) × (j ≢ i)).
            let old = h.home j j_in (sym (word_else s.words i j 0 t.1) ∙ zero_is) in
            (old.0, set_else s.homes i j (some y) t.1 ∙ old.1))
            (eqb_tells j i);
        same = λ j u e. ⊎_elim
            (λ (t : (j ≡ i) × (some y ≡ some u)). ap (λ (z : Contents V). z.history) (sym (some-injective y u t.1)) ∙ sym (upd_same h.logs i y.history j t.0))
            (λ (t : (j ≢ i) × (get_elem? s.homes j ≡ some (some u))). h.same j u t.1 ∙ sym (upd_other h.logs i y.history j t.0))
            (at_set s.homes i j (some y) (some u) e);
        fits = λ q u e. ⊎_elim
            (λ (t : (q ≡ p) × (w ≡ u)). subst (λ (x : ℕ × View). Fits (upd h.logs i y.history) h.place h.owner (λ j. get_elem? (set s.homes i (some y)) j ≡ some none) callers shards x.0 x.1) (λ m. (sym t.0 m, t.1 m)) here)
            (λ (t : (q ≢ p) × (get_elem? s.views q ≡ some u)). there q u t.0 (h.fits q u t.1))
            (at_set s.views p q w u e);
      }
    where
      w : View
      w = view_of (seat_after k i (drop (length log) y.history) y.history ∷ [])

      mine : Fits h.logs h.place h.owner (λ j. get_elem? s.homes j ≡ some none) callers shards p (holding k i log)
      mine = h.fits p (holding k i log) at

      st : Sits h.logs h.place callers shards p k
      st = mine.seats.0

      all' : AreOf shards i k.number more
      all' = subst (λ m. AreOf m i k.number more) st.shards_are all

      grows : y.history ≡ h.logs i ++ more
      grows = grown ∙ ap (λ r. r ++ more) (sym (mine.locked refl).1)

      here : Fits (upd h.logs i y.history) h.place h.owner (λ j. get_elem? (set s.homes i (some y)) j ≡ some none) callers shards p w
      here = idle (upd h.logs i y.history) h.place h.owner (λ j. get_elem? (set s.homes i (some y)) j ≡ some none) p (seat_after k i (drop (length log) y.history) y.history ∷ []) (tt, tt)
          (sits_after h.logs h.place callers shards p i y.history more (drop (length log) y.history) k grows all' (ap (λ r. drop (length log) r) grown ∙ drop-append_seam log more) i_in st, tt)

      there : (q : ℕ) (u : View) → q ≢ p → Fits h.logs h.place h.owner (λ j. get_elem? s.homes j ≡ some none) callers shards q u → Fits (upd h.logs i y.history) h.place h.owner (λ j. get_elem? (set s.homes i (some y)) j ≡ some none) callers shards q u
      there q u apart f = record {
        apart = f.apart;
        seats = each_map (Sits h.logs h.place callers shards q) (Sits (upd h.logs i y.history) h.place callers shards q)
            (λ x sx. sits_on h.logs h.place callers shards q i k.number y.history more grows all' x (λ e. apart (sx.there ∙ ap h.place (sym e) ∙ sym st.there)) sx) u.seats f.seats;
        locked = λ b.
            let was = f.locked b in
            let away : u.at ≢ i = λ e. apart (was.0 ∙ ap h.owner e ∙ sym (mine.locked refl).0) in
            (was.0, upd_other h.logs i y.history u.at away ∙ was.1, set_else s.homes i u.at (some y) away ∙ was.2);
      }

  gives_lock : (slots p : ℕ) (k : Known) (i : ℕ) (log : List Call) (y : Contents V) (more : List Call) → i < shards → y.history ≡ log ++ more → AreOf k.shards i k.number more → IsLegal y.history → k.number < k.callers
      → Allows (Keeps V callers shards) slots p (holding k i log, (i, y) ∷ []) i (λ _. 0) (λ _. Given V (holding k i log, (i, y) ∷ []))
  gives_lock slots p k i log y more i_in grown all legal below s h is_slots at small =
      (view_of (seat_after k i (drop (length log) y.history) y.history ∷ []), gives, tt, give_it p k i log s y more h i_in at grown all legal below, refl)

  pub gives_as : (slots p : ℕ) (me : Me (Contents V) View) (i : ℕ) → i < shards → MayGive V i me → Allows (Keeps V callers shards) slots p me i (λ _. 0) (λ _. Given V me)
  gives_as slots p me i i_in may = subst (λ (m : Me (Contents V) View). Allows (Keeps V callers shards) slots p m i (λ _. 0) (λ _. Given V m)) (sym may.me_is) (gives_lock slots p may.k i may.log may.y may.more i_in may.grown may.own may.legal may.below)

  -- giving a lock back, with no call
  back_it : (p : ℕ) (k : Known) (i : ℕ) (s : State (Contents V) View) (y : Contents V) → Keeps V callers shards s → i < shards → get_elem? s.views p ≡ some (holding k i y.history)
      → Keeps V callers shards (record { words = set s.words i 0; homes = set s.homes i (some y); views = set s.views p (view_of (k ∷ [])) })
  back_it p k i s y h i_in at =
      record {
        logs = h.logs;
        place = h.place;
        owner = h.owner;
        words_are = length-set s.words i 0 ∙ h.words_are;
        homes_are = length-set s.homes i (some y) ∙ h.homes_are;
        legal = h.legal;
        numbers = h.numbers;
        home = λ j j_in zero_is. ⊎_elim
            (λ (t : (eqb j i ≡ true) × (j ≡ i)). (y, subst (λ m. get_elem? (set s.homes i (some y)) m ≡ some (some y)) (sym t.1) (set_here s.homes i (some y) (let r = h.homes_are in omega arith))))
            (λ (t : (eqb j i ≡ false) × (j ≢ i)).
            let old = h.home j j_in (sym (word_else s.words i j 0 t.1) ∙ zero_is) in
            (old.0, set_else s.homes i j (some y) t.1 ∙ old.1))
            (eqb_tells j i);
        same = λ j u e. ⊎_elim
            (λ (t : (j ≡ i) × (some y ≡ some u)). ap (λ (z : Contents V). z.history) (sym (some-injective y u t.1)) ∙ sym (mine.locked refl).1 ∙ ap h.logs (sym t.0))
            (λ (t : (j ≢ i) × (get_elem? s.homes j ≡ some (some u))). h.same j u t.1)
            (at_set s.homes i j (some y) (some u) e);
        fits = λ q u e. ⊎_elim
            (λ (t : (q ≡ p) × (view_of (k ∷ []) ≡ u)). subst (λ (x : ℕ × View). Fits h.logs h.place h.owner (λ j. get_elem? (set s.homes i (some y)) j ≡ some none) callers shards x.0 x.1) (λ m. (sym t.0 m, t.1 m))
            (idle h.logs h.place h.owner (λ j. get_elem? (set s.homes i (some y)) j ≡ some none) p (k ∷ []) mine.apart mine.seats))
            (λ (t : (q ≢ p) × (get_elem? s.views q ≡ some u)). there q u t.0 (h.fits q u t.1))
            (at_set s.views p q (view_of (k ∷ [])) u e);
      }
    where
      mine : Fits h.logs h.place h.owner (λ j. get_elem? s.homes j ≡ some none) callers shards p (holding k i y.history)
      mine = h.fits p (holding k i y.history) at

      there : (q : ℕ) (u : View) → q ≢ p → Fits h.logs h.place h.owner (λ j. get_elem? s.homes j ≡ some none) callers shards q u → Fits h.logs h.place h.owner (λ j. get_elem? (set s.homes i (some y)) j ≡ some none) callers shards q u
      there q u apart f = record {
        apart = f.apart;
        seats = f.seats;
        locked = λ b.
            let was = f.locked b in
            let away : u.at ≢ i = λ e. apart (was.0 ∙ ap h.owner e ∙ sym (mine.locked refl).0) in
            (was.0, was.1, set_else s.homes i u.at (some y) away ∙ was.2);
      }

  gives_up : (slots p : ℕ) (k : Known) (i : ℕ) (y : Contents V) → i < shards → Allows (Keeps V callers shards) slots p (holding k i y.history, (i, y) ∷ []) i (λ _. 0) (λ _. GivenUp V (holding k i y.history, (i, y) ∷ []))
  gives_up slots p k i y i_in s h is_slots at small = (view_of (k ∷ []), gives, tt, back_it p k i s y h i_in at, refl)

  pub gives_up_as : (slots p : ℕ) (me : Me (Contents V) View) (i : ℕ) → i < shards → MayGiveUp V i me → Allows (Keeps V callers shards) slots p me i (λ _. 0) (λ _. GivenUp V me)
  gives_up_as slots p me i i_in may = subst (λ (m : Me (Contents V) View). Allows (Keeps V callers shards) slots p m i (λ _. 0) (λ _. GivenUp V m)) (sym may.me_is) (gives_up slots p may.k i may.y i_in)

  -- a change of a word that is no lock
  tells : (slots p : ℕ) (me : Me (Contents V) View) (i : ℕ) (f : ℕ → ℕ) → Allows (Keeps V callers shards) slots p me (shards + i) f (λ _ me'. me' ≡ me)
  tells slots p me i f s h is_slots at small =
      let n = f (slice_index s.words (shards + i)) in
      let S : List View → Type 0 = λ vs. Keeps V callers shards (record { words = set s.words (shards + i) n; homes = s.homes; views = vs }) in (
        me.0,
        keeps,
        tt,
        subst S (sym (set_again s.views p me.0 at)) (record {
          logs = h.logs;
          place = h.place;
          owner = h.owner;
          words_are = length-set s.words (shards + i) n ∙ h.words_are;
          homes_are = h.homes_are;
          legal = h.legal;
          numbers = h.numbers;
          home = λ j j_in zero_is. h.home j j_in (sym (word_else s.words (shards + i) j n (λ e. omega arith)) ∙ zero_is);
          same = h.same;
          fits = h.fits;
        }),
        refl,
      )

  pub tells_as : (slots p : ℕ) (me : Me (Contents V) View) (count i : ℕ) (f : ℕ → ℕ) → shards ≡ count → Allows (Keeps V callers shards) slots p me (count + i) f (λ _ me'. me' ≡ me)
  tells_as slots p me count i f is = subst (λ m. Allows (Keeps V callers shards) slots p me (m + i) f (λ _ me'. me' ≡ me)) is (tells slots p me i f)

  -- a look at the history of a shard
  look_it : (p i : ℕ) (ks : List Known) (s : State (Contents V) View) → (h : Keeps V callers shards s) → i < shards → get_elem? s.views p ≡ some (view_of ks)
      → Keeps V callers shards (record { words = s.words; homes = s.homes; views = set s.views p (view_of (map (with_seen i (h.logs i)) ks)) })
  look_it p i ks s h i_in at =
      let f = h.fits p (view_of ks) at in
      record {
        logs = h.logs;
        place = h.place;
        owner = h.owner;
        words_are = h.words_are;
        homes_are = h.homes_are;
        legal = h.legal;
        numbers = h.numbers;
        home = h.home;
        same = h.same;
        fits = λ q u e. ⊎_elim
            (λ (t : (q ≡ p) × (view_of (map (with_seen i (h.logs i)) ks) ≡ u)). subst (λ (x : ℕ × View). Fits h.logs h.place h.owner (λ j. get_elem? s.homes j ≡ some none) callers shards x.0 x.1) (λ m. (sym t.0 m, t.1 m))
            (idle h.logs h.place h.owner (λ j. get_elem? s.homes j ≡ some none) p (map (with_seen i (h.logs i)) ks) (apart_seeing i (h.logs i) ks f.apart) (each_seeing h.logs h.place callers shards p i ks i_in f.seats)))
            (λ (t : (q ≢ p) × (get_elem? s.views q ≡ some u)). h.fits q u t.1)
            (at_set s.views p q (view_of (map (with_seen i (h.logs i)) ks)) u e);
      }

  looks : (slots p i : ℕ) (ks : List Known) → i < shards → Allows (Keeps V callers shards) slots p (view_of ks, []) i (λ n. n) (λ _. Looked V i (view_of ks, []))
  looks slots p i ks i_in s h is_slots at small =
      let f = h.fits p (view_of ks) at in
      let w = view_of (map (with_seen i (h.logs i)) ks) in
      let S : List ℕ → Type 0 = λ ws. Keeps V callers shards (record { words = ws; homes = s.homes; views = set s.views p w }) in (
        w,
        keeps,
        tt,
        subst S (sym (words_again s.words i)) (look_it p i ks s h i_in at),
        (h.logs i, each_map (Sits h.logs h.place callers shards p) (Agrees (h.logs i) i) (λ k st. agrees h.logs h.place callers shards p i (h.logs i) k i_in (h.legal i) (h.numbers i) refl st) ks f.seats, refl),
      )

  pub looks_as : (slots p i : ℕ) (me : Me (Contents V) View) → me ≡ (view_of me.0.seats, []) → i < shards → Allows (Keeps V callers shards) slots p me i (λ n. n) (λ _. Looked V i me)
  looks_as slots p i me is i_in = subst (λ (m : Me (Contents V) View). Allows (Keeps V callers shards) slots p m i (λ n. n) (λ _. Looked V i m)) (sym is) (looks slots p i me.0.seats i_in)

  -- the first seat gets a view of its own
  pub parts : (p : ℕ) (k : Known) (ks : List Known) → Splits (Keeps V callers shards) p (view_of (k ∷ ks)) (view_of ks) (view_of (k ∷ []))
  parts p k ks s h at =
      record {
        logs = h.logs;
        place = upd h.place k.number new;
        owner = h.owner;
        words_are = h.words_are;
        homes_are = h.homes_are;
        legal = h.legal;
        numbers = h.numbers;
        home = h.home;
        same = h.same;
        fits = λ q u e. ⊎_elim
            (λ (t : get_elem? (set s.views p (view_of ks)) q ≡ some u). ⊎_elim
            (λ (r : (q ≡ p) × (view_of ks ≡ u)). subst (λ (x : ℕ × View). Fits h.logs (upd h.place k.number new) h.owner out callers shards x.0 x.1) (λ m. (sym r.0 m, r.1 m)) left)
            (λ (r : (q ≢ p) × (get_elem? s.views q ≡ some u)). there q u r.0 (h.fits q u r.1))
            (at_set s.views p q (view_of ks) u t))
            (λ (t : (q ≡ new) × (view_of (k ∷ []) ≡ u)). subst (λ (x : ℕ × View). Fits h.logs (upd h.place k.number new) h.owner out callers shards x.0 x.1) (λ m. (sym t.0 m, t.1 m)) right)
            (at_end (set s.views p (view_of ks)) (view_of (k ∷ [])) u q e);
      }
    where
      new : ℕ
      new = length (set s.views p (view_of ks))

      out : ℕ → Type 0
      out j = get_elem? s.homes j ≡ some none

      f : Fits h.logs h.place h.owner out callers shards p (view_of (k ∷ ks))
      f = h.fits p (view_of (k ∷ ks)) at

      left : Fits h.logs (upd h.place k.number new) h.owner out callers shards p (view_of ks)
      left = idle h.logs (upd h.place k.number new) h.owner out p ks f.apart.1 (each_still h.logs h.place callers shards p k.number new ks f.apart.0 f.seats.1)

      right : Fits h.logs (upd h.place k.number new) h.owner out callers shards new (view_of (k ∷ []))
      right = idle h.logs (upd h.place k.number new) h.owner out new (k ∷ []) (tt, tt) (sits_moved h.logs h.place callers shards p new k f.seats.0, tt)

      there : (q : ℕ) (u : View) → q ≢ p → Fits h.logs h.place h.owner out callers shards q u → Fits h.logs (upd h.place k.number new) h.owner out callers shards q u
      there q u apart g = record {
        apart = g.apart;
        seats = each_still h.logs h.place callers shards q k.number new u.seats (none_there h.logs h.place callers shards k.number q p f.seats.0.there apart u.seats g.seats) g.seats;
        locked = g.locked;
      }

  pub parts_as : (p : ℕ) (v : View) → v ≡ view_of (seat_of v ∷ rest_of v.seats) → Splits (Keeps V callers shards) p v (others v) (alone v)
  parts_as p v is = subst (λ (u : View). Splits (Keeps V callers shards) p u (others u) (alone u)) (sym is) (parts p (seat_of v) (rest_of v.seats))

  -- the seat of a second view comes to those of the first
  pub gathers : (p : ℕ) (ks : List Known) (q : ℕ) (k : Known) → Joins (Keeps V callers shards) p (view_of ks) q (view_of (k ∷ [])) (view_of (k ∷ ks)) (view_of [])
  gathers p ks q k s h at ne at' =
      record {
        logs = h.logs;
        place = upd h.place k.number p;
        owner = h.owner;
        words_are = h.words_are;
        homes_are = h.homes_are;
        legal = h.legal;
        numbers = h.numbers;
        home = h.home;
        same = h.same;
        fits = λ r u e. ⊎_elim
            (λ (t : (r ≡ q) × (view_of [] ≡ u)). subst (λ (x : View). Fits h.logs (upd h.place k.number p) h.owner out callers shards r x) t.1 (idle h.logs (upd h.place k.number p) h.owner out r [] tt tt))
            (λ (t : (r ≢ q) × (get_elem? (set s.views p (view_of (k ∷ ks))) r ≡ some u)). ⊎_elim
            (λ (o : (r ≡ p) × (view_of (k ∷ ks) ≡ u)). subst (λ (x : ℕ × View). Fits h.logs (upd h.place k.number p) h.owner out callers shards x.0 x.1) (λ m. (sym o.0 m, o.1 m)) both)
            (λ (o : (r ≢ p) × (get_elem? s.views r ≡ some u)). there r u t.0 (h.fits r u o.1))
            (at_set s.views p r (view_of (k ∷ ks)) u t.1))
            (at_set (set s.views p (view_of (k ∷ ks))) q r (view_of []) u e);
      }
    where
      out : ℕ → Type 0
      out j = get_elem? s.homes j ≡ some none

      f : Fits h.logs h.place h.owner out callers shards p (view_of ks)
      f = h.fits p (view_of ks) at

      g : Fits h.logs h.place h.owner out callers shards q (view_of (k ∷ []))
      g = h.fits q (view_of (k ∷ [])) (sym (set_else s.views p q (view_of (k ∷ ks)) ne) ∙ at')

      none_has : NoneHas k.number ks
      none_has = none_there h.logs h.place callers shards k.number p q g.seats.0.there (λ e. ne (sym e)) ks f.seats

      both : Fits h.logs (upd h.place k.number p) h.owner out callers shards p (view_of (k ∷ ks))
      both = idle h.logs (upd h.place k.number p) h.owner out p (k ∷ ks) (none_has, f.apart) (sits_moved h.logs h.place callers shards q p k g.seats.0, each_still h.logs h.place callers shards p k.number p ks none_has f.seats)

      there : (r : ℕ) (u : View) → r ≢ q → Fits h.logs h.place h.owner out callers shards r u → Fits h.logs (upd h.place k.number p) h.owner out callers shards r u
      there r u apart o = record {
        apart = o.apart;
        seats = each_still h.logs h.place callers shards r k.number p u.seats (none_there h.logs h.place callers shards k.number r q g.seats.0.there apart u.seats o.seats) o.seats;
        locked = o.locked;
      }

  pub gathers_as : (p : ℕ) (v : View) (q : ℕ) (w : View) → v ≡ view_of v.seats → w ≡ view_of (seat_of w ∷ []) → Joins (Keeps V callers shards) p v q w (together v w) (view_of [])
  gathers_as p v q w v_is w_is = subst (λ (x : View × View). Joins (Keeps V callers shards) p x.0 q x.1 (together x.0 x.1) (view_of [])) (λ j. (sym v_is j, sym w_is j)) (gathers p v.seats q (seat_of w))
