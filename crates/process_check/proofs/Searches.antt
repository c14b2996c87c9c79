-- The search finds each way back, and no other.
use Rattle.std.proofs.Common.{◌≡◌, ◌≢◌, ◌⊎◌, ℕ, zero, suc, ◌+◌, ◌-◌, ◌<◌, ◌≤◌, ◌||◌, Bool, true, false, cond, List, [], ◌∷◌, ◌++◌, length, get_or, set, drop, take, add-one, replicate, inl, inr, ⊎_elim, refl, sym, ◌∙◌, ap, subst, arith, nat_eq, Vec, Global}
use Rattle.std.proofs.lemmas.Bool.{eq-eqb, eqb-true, false≢true}
use Rattle.std.proofs.lemmas.List.{append-nil, length-append, length-set, set-get_or, get_or-set_same, get_or-set_other, get_or-replicate, length-replicate}
use Rattle.std.proofs.lemmas.List.Sums.{sum_by-cons, count_by-le-length}
use Rattle.std.proofs.Math.ListN.{drop_of_length-le}
use Rattle.std.proofs.Math.Seq.{drop-cons}
use Rattle.std.specs.List.{list_any}
use Rattle.rtl_ir.specs.Faults.Recursion.{leads_within}
use Rattle.process_check.specs.Search.{In, IsGraph, IsDone, IsLooked, IsMarked, IsReached, AreMarks, Searching, Visiting, Within, followers, marks, rows_of, with_new, work_left}

pub none_in : (f : ℕ → Bool) (xs : List ℕ) → ((x : ℕ) → In x xs → f x ≡ false) → list_any f xs ≡ false
none_in f [] h = refl
none_in f (x ∷ xs) h = rw (h x (inl refl)) (none_in f xs (λ y i. h y (inr i)))

pub other : (x y : ℕ) → x ≢ y → nat_eq x y ≡ false
other x y n = by (nat_eq x y) refl
  where
    by : (b : Bool) → nat_eq x y ≡ b → nat_eq x y ≡ false
    by true e = absurd (n (eqb-true x y e))
    by false e = e

module _ (g : List (List ℕ)) where
  -- one step more at the end of a chain
  pub within-step : (n i k j : ℕ) → Within g n i k → In j (followers g k) → Within g (suc n) i j
  within-step zero i k j w q = absurd w
  within-step (suc n) i k j (x, here, inl e) q = (x, here, inr (j, subst (λ y. In j (followers g y)) (sym e) q, inl refl))
  within-step (suc n) i k j (x, here, inr w) q = (x, here, inr (within-step n x k j w q))

  -- a chain within a bound is within a greater one
  pub within-more : (n m i j : ℕ) → n ≤ m → Within g n i j → Within g m i j
  within-more zero m i j h w = absurd w
  within-more (suc n) zero i j h w = absurd (omega arith)
  within-more (suc n) (suc m) i j h (x, here, inl e) = (x, here, inl e)
  within-more (suc n) (suc m) i j h (x, here, inr w) = (x, here, inr (within-more n m x j (omega arith) w))

  any_in : (f : ℕ → Bool) (xs : List ℕ) (x : ℕ) → In x xs → f x ≡ true → list_any f xs ≡ true
  any_in f [] x i e = absurd i
  any_in f (y ∷ ys) x (inl same) e = rw (← same, e) refl
  any_in f (y ∷ ys) x (inr i) e = rw (any_in f ys x i e) (or-true (f y))
    where
      or-true : (b : Bool) → (b || true) ≡ true
      or-true true = refl
      or-true false = refl

  -- a chain is found
  pub within_true : (n i j : ℕ) → Within g n i j → leads_within g n i j ≡ true
  within_true zero i j w = absurd w
  within_true (suc n) i j (x, here, inl e) =
      any_in (λ k. nat_eq k j || leads_within g n k j) (followers g i) x here (rw (eq-eqb x j e) refl)
  within_true (suc n) i j (x, here, inr w) =
      any_in (λ k. nat_eq k j || leads_within g n k j) (followers g i) x here (rw (within_true n x j w) (by (nat_eq x j)))
    where
      by : (b : Bool) → (b || true) ≡ true
      by true = refl
      by false = refl

  -- where all that was reached is done with, no chain leads back
  module _ (start : ℕ) (seen : List Bool) (all : Searching g start seen []) where
    none_from : (n k : ℕ) → (k ≡ start) ⊎ IsMarked seen k → leads_within g n k start ≡ false
    none_from zero k r = refl
    none_from (suc n) k r =
        none_in (λ j. nat_eq j start || leads_within g n j start) (followers g k)
        (λ j i. let looked : IsLooked start seen j = ⊎_elim (λ none. absurd none) (λ done. done j i) (all.closed k r) in
        rw (other j start looked.0) (none_from n j (inr looked.1)))

    pub searched : (n : ℕ) → leads_within g n start start ≡ false
    searched n = none_from n start (inl refl)

marks-cons : (b : Bool) (seen : List Bool) → marks (b ∷ seen) ≡ cond b 1 0 + marks seen
marks-cons b seen = sum_by-cons (λ x. cond x 1 0) b seen

-- where a place has no mark, there are fewer marks than places
marks-below : (seen : List Bool) (k : ℕ) → k < length seen → get_or seen k false ≡ false → marks seen < length seen
marks-below [] k h e = absurd (omega arith)
marks-below (b ∷ seen) zero h e = let n = marks-cons b seen ∙ ap (λ x. cond x 1 0 + marks seen) e in omega (arith, n, count_by-le-length (λ (x : Bool). x) seen)
marks-below (true ∷ seen) (suc k) h e = let n = marks-cons true seen in omega (arith, n, marks-below seen k (omega arith) e)
marks-below (false ∷ seen) (suc k) h e = let n = marks-cons false seen in omega (arith, n, marks-below seen k (omega arith) e)

-- one mark more
pub marks-set : (seen : List Bool) (k : ℕ) → k < length seen → get_or seen k false ≡ false → marks (set seen k true) ≡ suc (marks seen)
marks-set [] k h e = absurd (omega arith)
marks-set (b ∷ seen) zero h e =
    let n = marks-cons b seen ∙ ap (λ x. cond x 1 0 + marks seen) e in
    let m = marks-cons true seen in
    omega (arith, n, m)
marks-set (b ∷ seen) (suc k) h e =
    let n = marks-cons b seen in
    let m = marks-cons b (set seen k true) in
    omega (arith, n, m, marks-set seen k (omega arith) e)

pub In-left : (x : ℕ) (xs ys : List ℕ) → In x xs → In x (xs ++ ys)
In-left x [] ys i = absurd i
In-left x (z ∷ zs) ys (inl e) = inl e
In-left x (z ∷ zs) ys (inr i) = inr (In-left x zs ys i)

pub In-right : (x : ℕ) (xs ys : List ℕ) → In x ys → In x (xs ++ ys)
In-right x [] ys i = i
In-right x (z ∷ zs) ys i = inr (In-right x zs ys i)

pub In-cases : (x : ℕ) (xs : List ℕ) (y : ℕ) → In x (xs ++ y ∷ []) → In x xs ⊎ (x ≡ y)
In-cases x [] y (inl e) = inr e
In-cases x [] y (inr i) = absurd i
In-cases x (z ∷ zs) y (inl e) = inl (inl e)
In-cases x (z ∷ zs) y (inr i) = ⊎_elim (λ l. inl (inr l)) (λ r. inr r) (In-cases x zs y i)

module _ (g : List (List ℕ)) (start : ℕ) where
  -- the first place waits
  pub started : start < length g → Searching g start (replicate (length g) false) (start ∷ [])
  started h = record {
    are = record { size = length-replicate (length g) false; below = h; fresh = get_or-replicate (length g) start false false h };
    reached = λ k i. ⊎_elim (λ e. (subst (λ x. x < length g) (sym e) h, inl e)) (λ none. absurd none) i;
    closed = λ k r. ⊎_elim (λ e. inl (inl e)) (λ m. absurd (false≢true (sym (no_mark k) ∙ m))) r;
  }
    where
      no_marks : (n k : ℕ) → get_or (replicate n false) k false ≡ false
      no_marks zero k = refl
      no_marks (suc n) zero = refl
      no_marks (suc n) (suc k) = no_marks n k

      no_mark : (k : ℕ) → get_or (replicate (length g) false) k false ≡ false
      no_mark k = no_marks (length g) k

  -- the last place that waits is visited
  pub popped : (seen : List Bool) (waiting : List ℕ) (at : ℕ) → Searching g start seen (waiting ++ at ∷ []) → Visiting g start seen waiting at (followers g at)
  popped seen waiting at s = record {
    are = s.are;
    here = s.reached at (In-right at waiting (at ∷ []) (inl refl));
    reached = λ k i. s.reached k (In-left k waiting (at ∷ []) i);
    looked = λ c i. inl i;
    closed = λ k r. ⊎_elim
        (λ i. ⊎_elim (λ l. inr (inl l)) (λ e. inl e) (In-cases k waiting at i))
        (λ done. inr (inr done))
        (s.closed k r);
  }

  -- all followers were looked at
  pub visited : (seen : List Bool) (waiting : List ℕ) (at : ℕ) → Visiting g start seen waiting at [] → Searching g start seen waiting
  visited seen waiting at v = record {
    are = v.are;
    reached = v.reached;
    closed = λ k r. ⊎_elim
        (λ e. inr (λ c i. ⊎_elim (λ none. absurd none) (λ l. l) (v.looked c (subst (λ x. In c (followers g x)) e i))))
        (λ w. w)
        (v.closed k r);
  }

  -- the start is among the followers
  pub found : (seen : List Bool) (waiting : List ℕ) (at : ℕ) (left : List ℕ) → Visiting g start seen waiting at left → In start (followers g at) → Within g (length g) start start
  found seen waiting at left v i =
      let fewer : marks seen < length g = let size = v.are.size in let below = v.are.below in omega (arith, marks-below seen start (omega arith) v.are.fresh) in
      ⊎_elim
      (λ e. let below = v.are.below in within-more g 1 (length g) start start (omega arith) (start, subst (λ x. In start (followers g x)) e i, inl refl))
      (λ w. within-more g (suc (marks seen)) (length g) start start fewer (within-step g (marks seen) start at start w i))
      v.here.1

  -- a follower that has a mark already
  pub passed : (seen : List Bool) (waiting : List ℕ) (at c : ℕ) (left : List ℕ) → c ≢ start → IsMarked seen c → Visiting g start seen waiting at (c ∷ left) → Visiting g start seen waiting at left
  passed seen waiting at c left n m v = record {
    are = v.are;
    here = v.here;
    reached = v.reached;
    looked = λ d i. ⊎_elim
        (λ j. ⊎_elim (λ e. inr ((λ q. n (sym e ∙ q)), subst (IsMarked seen) (sym e) m)) (λ l. inl l) j)
        (λ l. inr l)
        (v.looked d i);
    closed = v.closed;
  }

  -- a follower that is new
  module _ (seen : List Bool) (waiting : List ℕ) (at c : ℕ) (left : List ℕ) (n : c ≢ start) (u : get_or seen c false ≡ false) (inside : c < length g)
      (follows : In c (followers g at)) (v : Visiting g start seen waiting at (c ∷ left)) where
    fits : c < length seen
    fits = let size = v.are.size in omega arith

    counted : marks (set seen c true) ≡ suc (marks seen)
    counted = marks-set seen c fits u

    here_marked : IsMarked (set seen c true) c
    here_marked = get_or-set_same seen c true false fits

    -- the marks are those from before, and the new one
    marked_cases : (k : ℕ) → IsMarked (set seen c true) k → (k ≡ c) ⊎ IsMarked seen k
    marked_cases k m =
        by (nat_eq k c) refl
      where
        by : (b : Bool) → nat_eq k c ≡ b → (k ≡ c) ⊎ IsMarked seen k
        by true e = inl (eqb-true k c e)
        by false e = inr (sym (get_or-set_other seen c k true false (λ same. false≢true (sym e ∙ eq-eqb k c same))) ∙ m)

    still_marked : (k : ℕ) → IsMarked seen k → IsMarked (set seen c true) k
    still_marked k m =
        by (nat_eq k c) refl
      where
        by : (b : Bool) → nat_eq k c ≡ b → IsMarked (set seen c true) k
        by true e = subst (IsMarked (set seen c true)) (sym (eqb-true k c e)) here_marked
        by false e = get_or-set_other seen c k true false (λ same. false≢true (sym e ∙ eq-eqb k c same)) ∙ m

    still_reached : (k : ℕ) → IsReached g start seen k → IsReached g start (set seen c true) k
    still_reached k r =
        ⊎_elim (λ e. inl e) (λ w. inr (within-more g (marks seen) (marks (set seen c true)) start k (omega (arith, counted)) w)) r

    still_looked : (k : ℕ) → IsLooked start seen k → IsLooked start (set seen c true) k
    still_looked k l = (l.0, still_marked k l.1)

    now_reached : IsReached g start (set seen c true) c
    now_reached =
        ⊎_elim
        (λ e. inr (within-more g 1 (marks (set seen c true)) start c (omega (arith, counted)) (c, subst (λ x. In c (followers g x)) e follows, inl refl)))
        (λ w. inr (within-more g (suc (marks seen)) (marks (set seen c true)) start c (omega (arith, counted)) (within-step g (marks seen) start at c w follows)))
        v.here.1

    pub taken : Visiting g start (set seen c true) (waiting ++ c ∷ []) at left
    taken = record {
      are = record {
        size = length-set seen c true ∙ v.are.size;
        below = v.are.below;
        fresh = get_or-set_other seen c start true false (λ e. n (sym e)) ∙ v.are.fresh;
      };
      here = (v.here.0, still_reached at v.here.1);
      reached = λ k i. ⊎_elim
          (λ l. ((v.reached k l).0, still_reached k (v.reached k l).1))
          (λ e. (subst (λ x. x < length g) (sym e) inside, subst (IsReached g start (set seen c true)) (sym e) now_reached))
          (In-cases k waiting c i);
      looked = λ d i. ⊎_elim
          (λ j. ⊎_elim (λ e. inr ((λ q. n (sym e ∙ q)), subst (IsMarked (set seen c true)) (sym e) here_marked)) (λ l. inl l) j)
          (λ l. inr (still_looked d l))
          (v.looked d i);
      closed = λ k r. ⊎_elim
          (λ e. old_closed k (inl e))
          (λ m. ⊎_elim (λ e. inr (inl (In-right k waiting (c ∷ []) (inl e)))) (λ o. old_closed k (inr o)) (marked_cases k m))
          r;
    }
      where
        old_closed : (k : ℕ) → (k ≡ start) ⊎ IsMarked seen k → (k ≡ at) ⊎ (In k (waiting ++ c ∷ []) ⊎ IsDone g start (set seen c true) k)
        old_closed k r = ⊎_elim
            (λ e. inl e)
            (λ w. ⊎_elim (λ i. inr (inl (In-left k waiting (c ∷ []) i))) (λ done. inr (inr (λ d i. still_looked d (done d i)))) w)
            (v.closed k r)

-- the row of a place of a graph
pub row_at : (graph : List (Vec ℕ Global)) (k : ℕ) (v : Vec ℕ Global) → k < length graph → v ≡ get_or graph k v → followers (rows_of graph) k ≡ v.items
row_at [] k v h e = absurd (omega arith)
row_at (u ∷ graph) zero v h e = ap (λ (x : Vec ℕ Global). x.items) (sym e)
row_at (u ∷ graph) (suc k) v h e = row_at graph k v (omega arith) e

pub length-rows : (graph : List (Vec ℕ Global)) → length (rows_of graph) ≡ length graph
length-rows [] = refl
length-rows (u ∷ graph) = ap suc (length-rows graph)

-- a follower is looked at
pub looked_at : (g : List (List ℕ)) (start : ℕ) (seen : List Bool) (waiting : List ℕ) (at c : ℕ) (left : List ℕ) → c ≢ start → c < length g → In c (followers g at)
    → Visiting g start seen waiting at (c ∷ left) → Visiting g start (set seen c true) (with_new seen waiting c) at left
looked_at g start seen waiting at c left n inside follows v =
    by (get_or seen c false) refl
  where
    by : (b : Bool) → get_or seen c false ≡ b → Visiting g start (set seen c true) (cond (get_or seen c false) waiting (waiting ++ c ∷ [])) at left
    by true e =
        let same : set seen c true ≡ seen = ap (set seen c) (sym e) ∙ set-get_or seen c false in
        rw (same, e) (passed g start seen waiting at c left n e v)
    by false e = rw e (taken g start seen waiting at c left n e inside follows v)

-- a mark more, or none, and a place more, or none, leave as much to do
pub work-looked_at : (seen : List Bool) (waiting : List ℕ) (c : ℕ) → c < length seen → work_left (set seen c true) (with_new seen waiting c) ≡ work_left seen waiting
work-looked_at seen waiting c h =
    by (get_or seen c false) refl
  where
    by : (b : Bool) → get_or seen c false ≡ b → work_left (set seen c true) (cond (get_or seen c false) waiting (waiting ++ c ∷ [])) ≡ work_left seen waiting
    by true e =
        let same : set seen c true ≡ seen = ap (set seen c) (sym e) ∙ set-get_or seen c false in
        rw (same, e) refl
    by false e = rw e (omega (arith, length-set seen c true, marks-set seen c h e, marks-below seen c h e, length-append waiting (c ∷ [])))

-- a follower by its index
pub record IsFollower (g : List (List ℕ)) (at i c : ℕ) : Type 0 where
  pub follows : In c (followers g at)
  pub next : drop i (followers g at) ≡ c ∷ drop (i + 1) (followers g at)

pub In-get : (xs : List ℕ) (i c : ℕ) → i < length xs → c ≡ get_or xs i 0 → In c xs
In-get [] i c h e = absurd (omega arith)
In-get (x ∷ xs) zero c h e = inl e
In-get (x ∷ xs) (suc i) c h e = inr (In-get xs i c (omega arith) e)

pub follower_at : (graph : List (Vec ℕ Global)) (at : ℕ) (v : Vec ℕ Global) → at < length graph → v ≡ get_or graph at v → (items : List ℕ) → items ≡ v.items
    → (i c : ℕ) → i < length items → c ≡ get_or items i 0 → IsFollower (rows_of graph) at i c
follower_at graph at v h e items same i c within is =
    let row : items ≡ followers (rows_of graph) at = same ∙ sym (row_at graph at v h e) in
    record {
      follows = subst (In c) row (In-get items i c within is);
      next = subst (λ xs. drop i xs ≡ c ∷ drop (i + 1) xs) row (drop-cons items i 0 within ∙ (λ j. sym is j ∷ drop (sym (add-one i) j) items));
    }

-- the row that is visited, as the code has it
pub record IsRow (graph : List (Vec ℕ Global)) (at : ℕ) (v : Vec ℕ Global) (items : List ℕ) : Type 0 where
  pub inside : at < length (rows_of graph)
  pub is : v ≡ get_or graph at v
  pub items_are : items ≡ v.items

pub next_in : (graph : List (Vec ℕ Global)) (at : ℕ) (v : Vec ℕ Global) (items : List ℕ) → IsRow graph at v items → (i : ℕ) → i < length items → IsFollower (rows_of graph) at i (get_or items i 0)
next_in graph at v items row i h =
    let inside : at < length graph = subst (λ n. at < n) (length-rows graph) row.inside in
    follower_at graph at v inside row.is items row.items_are i (get_or items i 0) h refl

pub found_next : (graph : List (Vec ℕ Global)) (start at : ℕ) (v : Vec ℕ Global) (items : List ℕ) → IsRow graph at v items → (i : ℕ) → i < length items → get_or items i 0 ≡ start
    → (seen : List Bool) (waiting left : List ℕ) → Visiting (rows_of graph) start seen waiting at left → Within (rows_of graph) (length graph) start start
found_next graph start at v items row i h e seen waiting left visiting =
    subst (λ n. Within (rows_of graph) n start start) (length-rows graph)
    (found (rows_of graph) start seen waiting at left visiting (subst (λ k. In k (followers (rows_of graph) at)) e (next_in graph at v items row i h).follows))

pub next_fits : (graph : List (Vec ℕ Global)) (start at : ℕ) (v : Vec ℕ Global) (items : List ℕ) → IsRow graph at v items → (i : ℕ) → i < length items → IsGraph (rows_of graph)
    → (seen : List Bool) → AreMarks (rows_of graph) start seen → get_or items i 0 < length seen
next_fits graph start at v items row i h is seen are =
    let k = get_or items i 0 in
    let below : k < length (rows_of graph) = is at k (next_in graph at v items row i h).follows in
    let size = are.size in omega arith

-- one follower further
pub record GoesOn (graph : List (Vec ℕ Global)) (start at i : ℕ) (old : List Bool) (waiting : List ℕ) (new : List Bool) (now : List ℕ) : Type 0 where
  pub visiting : Visiting (rows_of graph) start new now at (drop (i + 1) (followers (rows_of graph) at))
  pub work : work_left new now ≡ work_left old waiting

pub goes_on : (graph : List (Vec ℕ Global)) (start at : ℕ) (v : Vec ℕ Global) (items : List ℕ) → IsRow graph at v items → (i : ℕ) → i < length items → (get_or items i 0 ≢ start) → IsGraph (rows_of graph)
    → (old : List Bool) (waiting : List ℕ) → Visiting (rows_of graph) start old waiting at (drop i (followers (rows_of graph) at))
    → (new : List Bool) (now : List ℕ) → new ≡ set old (get_or items i 0) true → now ≡ with_new old waiting (get_or items i 0) → GoesOn graph start at i old waiting new now
goes_on graph start at v items row i h other is old waiting visiting new now e f =
    let k = get_or items i 0 in
    let next = next_in graph at v items row i h in
    let fits = next_fits graph start at v items row i h is old visiting.are in
    let left = drop (i + 1) (followers (rows_of graph) at) in
    let here : Visiting (rows_of graph) start old waiting at (k ∷ left) = subst (Visiting (rows_of graph) start old waiting at) next.next visiting in
    let there = looked_at (rows_of graph) start old waiting at k left other (is at k next.follows) next.follows here in
    record {
      visiting = subst (λ s. Visiting (rows_of graph) start s now at left) (sym e) (subst (λ w. Visiting (rows_of graph) start (set old k true) w at left) (sym f) there);
      work = (λ j. work_left (e j) (f j)) ∙ work-looked_at old waiting k fits;
    }

-- none is left behind the last follower
pub visited_all : (graph : List (Vec ℕ Global)) (start at : ℕ) (v : Vec ℕ Global) (items : List ℕ) → IsRow graph at v items → (i : ℕ) → length items ≤ i
    → (seen : List Bool) (waiting : List ℕ) → Visiting (rows_of graph) start seen waiting at (drop i (followers (rows_of graph) at)) → Searching (rows_of graph) start seen waiting
visited_all graph start at v items row i h seen waiting visiting =
    let inside : at < length graph = subst (λ n. at < n) (length-rows graph) row.inside in
    let is : items ≡ followers (rows_of graph) at = row.items_are ∙ sym (row_at graph at v inside row.is) in
    let none : drop i (followers (rows_of graph) at) ≡ [] = ap (drop i) (sym is) ∙ drop_of_length-le items h in
    visited (rows_of graph) start seen waiting at (subst (Visiting (rows_of graph) start seen waiting at) none visiting)

-- where the length is none, no place waits
pub none_left : (items left : List ℕ) (n : ℕ) → items ≡ left ++ [] → left ≡ take (n - 1) items → n ≡ 0 → items ≡ []
none_left items left n e f z = e ∙ append-nil left ∙ f ∙ ap (λ (k : ℕ). take (k - 1) items) z
