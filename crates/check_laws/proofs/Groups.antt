-- Lists of lists: what stands in them, in groups and in other orders.
use Rattle.std.proofs.Common.{◌≡◌, ℕ, zero, suc, ◌+◌, ◌≤◌, Bool, true, false, not, ◌&&◌, List, [], ◌∷◌, ◌++◌, append_assoc, inl, inr, ⊎_elim, refl, sym, ◌∙◌, ap, subst, arith}
use Rattle.std.specs.Prelude.{map, filter, flat_map, if◌then◌else◌}
use Rattle.std.specs.List.{range_with_len}
use Rattle.net_model.specs.Lists.{In, Distinct}
use Rattle.net_model.proofs.Members.{In-left, In-right, In-cases, In-map, apart_at, apart_from, Distinct-append}
use Rattle.check_laws.proofs.Parts.{IsPart, part_same, part_none, part_trans, part_right, part_both, part_exchange, part_filter, apart_parts}

-- what stands in lists of lists stands in one of them
pub In-flat : {A B : Type 0} (f : A → List B) (b : B) (xs : List A) → In b (flat_map f xs) → (x : A) × In x xs × In b (f x)
In-flat f b [] i = absurd i
In-flat f b (x ∷ xs) i =
    ⊎_elim (λ l. (x, inl refl, l)) (λ r. let k = In-flat f b xs r in (k.0, inr k.1, k.2)) (In-cases b (f x) (flat_map f xs) i)

pub flat-In : {A B : Type 0} (f : A → List B) (b : B) (xs : List A) (x : A) → In x xs → In b (f x) → In b (flat_map f xs)
flat-In f b [] x i j = absurd i
flat-In f b (y ∷ ys) x (inl e) j = In-left b (f y) (flat_map f ys) (subst (λ z. In b (f z)) e j)
flat-In f b (y ∷ ys) x (inr i) j = In-right b (f y) (flat_map f ys) (flat-In f b ys x i j)

pub filter_true : {A : Type 0} (test : A → Bool) (xs : List A) (x : A) → In x (filter test xs) → test x ≡ true
filter_true test [] x i = absurd i
filter_true test (y ∷ ys) x i = by (test y) refl (filter_true test ys x) i
  where
    by : (t : Bool) → test y ≡ t → (In x (filter test ys) → test x ≡ true) → In x (if t then y ∷ filter test ys else filter test ys) → test x ≡ true
    by true e later (inl p) = ap test p ∙ e
    by true e later (inr j) = later j
    by false e later j = later j

pub filter_both : {A : Type 0} (s t : A → Bool) (xs : List A) → filter (λ x. s x && t x) xs ≡ filter t (filter s xs)
filter_both s t [] = refl
filter_both s t (x ∷ xs) = by (s x) (filter_both s t xs)
  where
    by : (b : Bool) → filter (λ z. s z && t z) xs ≡ filter t (filter s xs) → (if b && t x then x ∷ filter (λ z. s z && t z) xs else filter (λ z. s z && t z) xs) ≡ filter t (if b then x ∷ filter s xs else filter s xs)
    by true e = ap (λ zs. if t x then x ∷ zs else zs) e
    by false e = e

-- those that pass a test
pub part_flat : {A B : Type 0} (f : A → List B) (test : A → Bool) (xs : List A) → IsPart (flat_map f (filter test xs)) (flat_map f xs)
part_flat f test [] = part_none []
part_flat f test (x ∷ xs) = by (test x) (part_flat f test xs)
  where
    by : (t : Bool) → IsPart (flat_map f (filter test xs)) (flat_map f xs) → IsPart (flat_map f (if t then x ∷ filter test xs else filter test xs)) (f x ++ flat_map f xs)
    by true h = part_both (f x) (flat_map f (filter test xs)) (f x) (flat_map f xs) (part_same (f x)) h
    by false h = part_trans (flat_map f (filter test xs)) (flat_map f xs) (f x ++ flat_map f xs) h (part_right (f x) (flat_map f xs))

-- those that fail a test before those that pass it
pub part_split : {A B : Type 0} (f : A → List B) (test : A → Bool) (xs : List A) → IsPart (flat_map f (filter (λ x. not (test x)) xs) ++ flat_map f (filter test xs)) (flat_map f xs)
part_split f test [] = part_none []
part_split f test (x ∷ xs) = by (test x) (part_split f test xs)
  where
    by : (t : Bool) → IsPart (flat_map f (filter (λ z. not (test z)) xs) ++ flat_map f (filter test xs)) (flat_map f xs) → IsPart (flat_map f (if not t then x ∷ filter (λ z. not (test z)) xs else filter (λ z. not (test z)) xs) ++ flat_map f (if t then x ∷ filter test xs else filter test xs)) (f x ++ flat_map f xs)
    by true h =
        let a = flat_map f (filter (λ z. not (test z)) xs) in
        let b = flat_map f (filter test xs) in
        part_trans (a ++ (f x ++ b)) (f x ++ (a ++ b)) (f x ++ flat_map f xs) (part_exchange [] a (f x) b)
        (part_both (f x) (a ++ b) (f x) (flat_map f xs) (part_same (f x)) h)
    by false h =
        let a = flat_map f (filter (λ z. not (test z)) xs) in
        let b = flat_map f (filter test xs) in
        subst (λ z. IsPart z (f x ++ flat_map f xs)) (sym (append_assoc (f x) a b))
        (part_both (f x) (a ++ b) (f x) (flat_map f xs) (part_same (f x)) h)

-- the first lists of all items before the second ones
pub part_unzip : {A B : Type 0} (f g : A → List B) (xs : List A) → IsPart (flat_map (λ x. f x ++ g x) xs) (flat_map f xs ++ flat_map g xs)
part_unzip f g [] = part_none []
part_unzip f g (x ∷ xs) =
    let a = flat_map f xs in
    let b = flat_map g xs in
    part_trans ((f x ++ g x) ++ flat_map (λ z. f z ++ g z) xs) ((f x ++ g x) ++ (a ++ b)) ((f x ++ a) ++ (g x ++ b))
    (part_both (f x ++ g x) (flat_map (λ z. f z ++ g z) xs) (f x ++ g x) (a ++ b) (part_same (f x ++ g x)) (part_unzip f g xs))
    (part_exchange (f x) (g x) a b)

-- two items with a common one are one, where nothing stands twice
pub one_item : {A B : Type 0} (f : A → List B) (xs : List A) → Distinct (flat_map f xs) → (x y : A) (b : B) → In x xs → In y xs → In b (f x) → In b (f y) → x ≡ y
one_item f [] u x y b i j k l = absurd i
one_item f (z ∷ zs) u x y b (inl p) (inl q) k l = p ∙ sym q
one_item f (z ∷ zs) u x y b (inl p) (inr j) k l =
    absurd ((apart_parts (f z) (flat_map f zs) u).both b (subst (λ a. In b (f a)) p k) (flat-In f b zs y j l))
one_item f (z ∷ zs) u x y b (inr i) (inl q) k l =
    absurd ((apart_parts (f z) (flat_map f zs) u).both b (subst (λ a. In b (f a)) q l) (flat-In f b zs x i k))
one_item f (z ∷ zs) u x y b (inr i) (inr j) k l = one_item f zs (apart_parts (f z) (flat_map f zs) u).second x y b i j k l

-- lists of lists in groups of different keys
module _ {A B S K : Type 0} (f : A → List B) (xs : List A) (key : S → K) (of : S → A → Bool) (tells : (s t : S) (x : A) → of s x ≡ true → of t x ≡ true → key s ≡ key t) where
  abbrev group : S → List B
  group s = flat_map f (filter (of s) xs)

  -- the item of a group
  in_group : (b : B) (s : S) → In b (group s) → (x : A) × In x xs × (of s x ≡ true) × In b (f x)
  in_group b s i =
      let k = In-flat f b (filter (of s) xs) i in
      (k.0, (part_filter (of s) xs).each k.0 k.1, filter_true (of s) xs k.0 k.1, k.2)

  groups_each : (groups : List S) (b : B) → In b (flat_map group groups) → In b (flat_map f xs)
  groups_each groups b i =
      let k = In-flat group b groups i in
      (part_flat f (of k.0) xs).each b k.2

  groups_once : Distinct (flat_map f xs) → (groups : List S) → Distinct (map key groups) → Distinct (flat_map group groups)
  groups_once u [] d = tt
  groups_once u (s ∷ groups) d =
      Distinct-append (group s) (flat_map group groups) ((part_flat f (of s) xs).once u) (groups_once u groups d.1)
      (λ b i j.
      let x = in_group b s i in
      let t = In-flat group b groups j in
      let y = in_group b t.0 t.2 in
      let same : x.0 ≡ y.0 = one_item f xs u x.0 y.0 b x.1 y.1 x.3 y.3 in
      apart_at (key s) (map key groups) d.0 (key t.0) (In-map key t.0 groups t.1)
      (tells s t.0 x.0 x.2 (ap (of t.0) same ∙ y.2)))

  pub part_groups : (groups : List S) → Distinct (map key groups) → IsPart (flat_map group groups) (flat_map f xs)
  part_groups groups d = record { each = groups_each groups; once = λ u. groups_once u groups d }

-- lists that have nothing in common, by a key
pub distinct_flat : {A B K : Type 0} (f : A → List B) (key : A → K) → ((x y : A) (b : B) → In b (f x) → In b (f y) → key x ≡ key y) → ((x : A) → Distinct (f x)) → (xs : List A) → Distinct (map key xs) → Distinct (flat_map f xs)
distinct_flat f key h o [] u = tt
distinct_flat f key h o (x ∷ xs) u =
    Distinct-append (f x) (flat_map f xs) (o x) (distinct_flat f key h o xs u.1)
    (λ b i j.
    let k = In-flat f b xs j in
    apart_at (key x) (map key xs) u.0 (key k.0) (In-map key k.0 xs k.1) (h x k.0 b i k.2))

-- numbers from one on
range_from : (from n k : ℕ) → In k (range_with_len from n) → from ≤ k
range_from from zero k i = absurd i
range_from from (suc n) k (inl e) = omega (arith, e)
range_from from (suc n) k (inr i) = let l = range_from (from + 1) n k i in omega (arith, l)

pub range_once : (from n : ℕ) → Distinct (range_with_len from n)
range_once from zero = tt
range_once from (suc n) = (
  apart_from from (range_with_len (from + 1) n) (λ k i e. let l = range_from (from + 1) n k i in absurd (omega (arith, l, e))),
  range_once (from + 1) n,
)
