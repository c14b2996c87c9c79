-- Filters of filters, and of modules that keep their names.
use Rattle.std.proofs.Common.{◌≡◌, ℕ, zero, suc, Bool, true, false, cond, List, [], ◌∷◌, ◌++◌, Ordering, Less, Equal, Greater, Some, inl, inr, refl, sym, ◌∙◌, ap}
use Rattle.std.specs.Prelude.{filter, flat_map, map, slice_get}
use Rattle.std.specs.Cmp.Lexicographic.{slice_cmp}
use Rattle.std.specs.Ordering.{nat_cmp, match_ordering}
use Rattle.rtl_ir.specs.declared.module.Module.{Module}
use Rattle.rtl_ir.specs.Ports.{in_name_order, place_module}
use Rattle.net_model.specs.Lists.{In}

-- two tests that pass together are one
pub same_truth : (a b : Bool) → (a ≡ true → b ≡ true) → (b ≡ true → a ≡ true) → a ≡ b
same_truth true b to from = sym (to refl)
same_truth false true to from = from refl
same_truth false false to from = refl

-- what passes the one test passes the other, so the other leaves nothing out of it
pub filter_filter : {A : Type 0} (test kept : A → Bool) (xs : List A) → ((x : A) → In x xs → test x ≡ true → kept x ≡ true) → filter test (filter kept xs) ≡ filter test xs
filter_filter {A} test kept [] h = refl
filter_filter {A} test kept (x ∷ xs) h = by (kept x) (test x) refl refl (filter_filter test kept xs (λ y i. h y (inr i)))
  where
    by : (a b : Bool) → kept x ≡ a → test x ≡ b → filter test (filter kept xs) ≡ filter test xs
        → filter test (cond a (x ∷ filter kept xs) (filter kept xs)) ≡ cond b (x ∷ filter test xs) (filter test xs)
    by true b e f later =
        ap (λ t. cond t (x ∷ filter test (filter kept xs)) (filter test (filter kept xs))) f
        ∙ ap (λ (ys : List A). cond b (x ∷ ys) ys) later
    by false true e f later =
        let no : true ≡ false = sym (h x (inl refl) f) ∙ e in
        absurd cc
    by false false e f later = later

pub filter_same : {A : Type 0} (test other : A → Bool) (xs : List A) → ((x : A) → In x xs → test x ≡ other x) → filter test xs ≡ filter other xs
filter_same {A} test other [] h = refl
filter_same {A} test other (x ∷ xs) h =
    λ i. cond (h x (inl refl) i) (x ∷ filter_same test other xs (λ y j. h y (inr j)) i) (filter_same test other xs (λ y j. h y (inr j)) i)

pub filter_in : {A : Type 0} (test : A → Bool) (x : A) (xs : List A) → In x xs → test x ≡ true → In x (filter test xs)
filter_in {A} test x [] i e = absurd i
filter_in {A} test x (y ∷ ys) i e = by (test y) refl i (filter_in test x ys)
  where
    by : (t : Bool) → test y ≡ t → In x (y ∷ ys) → (In x ys → test x ≡ true → In x (filter test ys)) → In x (cond t (y ∷ filter test ys) (filter test ys))
    by true f (inl same) later = inl same
    by true f (inr j) later = inr (later j e)
    by false f (inl same) later =
        let no : true ≡ false = sym e ∙ ap test same ∙ f in
        absurd cc
    by false f (inr j) later = later j e

pub filtered_in : {A : Type 0} (test : A → Bool) (x : A) (xs : List A) → In x (filter test xs) → In x xs × (test x ≡ true)
filtered_in {A} test x [] i = absurd i
filtered_in {A} test x (y ∷ ys) i = by (test y) refl i (filtered_in test x ys)
  where
    by : (t : Bool) → test y ≡ t → In x (cond t (y ∷ filter test ys) (filter test ys)) → (In x (filter test ys) → In x ys × (test x ≡ true)) → In x (y ∷ ys) × (test x ≡ true)
    by true f (inl same) later = (inl same, ap test same ∙ f)
    by true f (inr j) later = let k = later j in (inr k.0, k.1)
    by false f j later = let k = later j in (inr k.0, k.1)

pub got_in : {A : Type 0} (xs : List A) (at : ℕ) (x : A) → slice_get xs at ≡ Some x → In x xs
got_in [] at x e = absurd cc
got_in (y ∷ ys) zero x e = let same : y ≡ x = cc in inl (sym same)
got_in (y ∷ ys) (suc at) x e = inr (got_in ys at x e)

pub each_none : {A B : Type 0} (f : A → List B) (xs : List A) → ((x : A) → In x xs → f x ≡ []) → flat_map f xs ≡ []
each_none f [] h = refl
each_none f (x ∷ xs) h = λ i. h x (inl refl) i ++ each_none f xs (λ y j. h y (inr j)) i

pub map_same : {A B : Type 0} (f g : A → B) (xs : List A) → ((x : A) → In x xs → f x ≡ g x) → map f xs ≡ map g xs
map_same f g [] h = refl
map_same f g (x ∷ xs) h = λ i. h x (inl refl) i ∷ map_same f g xs (λ y j. h y (inr j)) i

pub map_none : {A : Type 0} (f : A → A) (xs : List A) → ((x : A) → In x xs → f x ≡ x) → map f xs ≡ xs
map_none f [] h = refl
map_none f (x ∷ xs) h = λ i. h x (inl refl) i ∷ map_none f xs (λ y j. h y (inr j)) i

-- modules that are changed and keep their names
module _ (change : Module → Module) (same : (m : Module) → (change m).id ≡ m.id) where
  pub filter_changed : (test : List ℕ → Bool) (ms : List Module) → filter (λ (m : Module). test m.id) (map change ms) ≡ map change (filter (λ (m : Module). test m.id) ms)
  filter_changed test [] = refl
  filter_changed test (m ∷ ms) =
      ap (λ t. cond t (change m ∷ filter (λ (n : Module). test n.id) (map change ms)) (filter (λ (n : Module). test n.id) (map change ms))) (ap test (same m))
      ∙ by (test m.id) (filter_changed test ms)
    where
      by : (t : Bool) → filter (λ (n : Module). test n.id) (map change ms) ≡ map change (filter (λ (n : Module). test n.id) ms)
          → cond t (change m ∷ filter (λ (n : Module). test n.id) (map change ms)) (filter (λ (n : Module). test n.id) (map change ms))
          ≡ map change (cond t (m ∷ filter (λ (n : Module). test n.id) ms) (filter (λ (n : Module). test n.id) ms))
      by true later = ap (λ (ns : List Module). change m ∷ ns) later
      by false later = later

  placed_changed : (m : Module) (ns : List Module) → place_module (change m) (map change ns) ≡ map change (place_module m ns)
  placed_changed m [] = refl
  placed_changed m (n ∷ ns) =
      (λ i. match_ordering (slice_cmp nat_cmp (same m i) (same n i)) (change m ∷ change n ∷ map change ns) (change m ∷ map change ns) (change n ∷ place_module (change m) (map change ns)))
      ∙ by (slice_cmp nat_cmp m.id n.id) (placed_changed m ns)
    where
      by : (o : Ordering) → place_module (change m) (map change ns) ≡ map change (place_module m ns)
          → match_ordering o (change m ∷ change n ∷ map change ns) (change m ∷ map change ns) (change n ∷ place_module (change m) (map change ns))
          ≡ map change (match_ordering o (m ∷ n ∷ ns) (m ∷ ns) (n ∷ place_module m ns))
      by Less later = refl
      by Equal later = refl
      by Greater later = ap (λ (ks : List Module). change n ∷ ks) later

  pub ordered_changed : (ms : List Module) → in_name_order (map change ms) ≡ map change (in_name_order ms)
  ordered_changed [] = refl
  ordered_changed (m ∷ ms) = ap (place_module (change m)) (ordered_changed ms) ∙ placed_changed m (in_name_order ms)
