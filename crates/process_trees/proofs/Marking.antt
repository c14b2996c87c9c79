-- Marks of bits by their numbers.
use Rattle.std.proofs.Common.{◌≡◌, ℕ, zero, suc, ◌<◌, ◌||◌, ◌&&◌, not, Bool, true, false, List, [], ◌∷◌, ◌++◌, length, set, nat_eq, Option, Vec, Global, refl, sym, ap, subst, ◌∙◌, arith}
use Rattle.std.proofs.lemmas.Bool.{eqb-true, false≢true}
use Rattle.std.proofs.lemmas.Bool.Decides.{nat_tests}
use Rattle.std.proofs.lemmas.List.{length-set, get_or-set_same, get_or-set_other}
use Rattle.process_trees.specs.Walk.{AreSet, is_among, marked, unset_among, unset_at}

same_number : (n : ℕ) → nat_eq n n ≡ true
same_number n = grind (arith, nat_tests)

equal_numbers : (k n : ℕ) → k ≡ n → nat_eq k n ≡ true
equal_numbers k n e = grind (arith, nat_tests)

pub other_numbers : (k n : ℕ) → nat_eq k n ≡ false → k ≡ n → ⊥
other_numbers k n e same = false≢true (sym e ∙ equal_numbers k n same)

-- ---- tests that hold together

and_true : (a : Bool) → a ≡ (a && true)
and_true true = refl
and_true false = refl

or_false : (a : Bool) → a ≡ (a || false)
or_false true = refl
or_false false = refl

-- ---- one mark

off_there : (u : List Bool) (n : ℕ) → unset_at (set u n false) n ≡ false
off_there [] zero = refl
off_there [] (suc n) = refl
off_there (x ∷ u) zero = refl
off_there (x ∷ u) (suc n) = off_there u n

pub marked_below : (u : List Bool) (k : ℕ) → unset_at u k ≡ true → k < length u
marked_below [] k e = absurd (false≢true e)
marked_below (x ∷ u) zero e = omega arith
marked_below (x ∷ u) (suc k) e = let h = marked_below u k e in omega (arith, h)

set_false : (u : List Bool) (n k : ℕ) → unset_at (set u n false) k ≡ (unset_at u k && not (nat_eq k n))
set_false u n k = by (nat_eq k n) refl
  where
    none : (a : Bool) → false ≡ (a && false)
    none true = refl
    none false = refl

    by : (t : Bool) → nat_eq k n ≡ t → unset_at (set u n false) k ≡ (unset_at u k && not (nat_eq k n))
    by true e =
        ap (unset_at (set u n false)) (eqb-true k n e) ∙ off_there u n ∙ none (unset_at u k) ∙ ap (λ t. unset_at u k && not t) (sym e)
    by false e =
        get_or-set_other u n k false false (other_numbers k n e) ∙ and_true (unset_at u k) ∙ ap (λ t. unset_at u k && not t) (sym e)

set_true : (u : List Bool) (n k : ℕ) → n < length u → unset_at (set u n true) k ≡ (unset_at u k || nat_eq k n)
set_true u n k h = by (nat_eq k n) refl
  where
    some : (a : Bool) → true ≡ (a || true)
    some true = refl
    some false = refl

    by : (t : Bool) → nat_eq k n ≡ t → unset_at (set u n true) k ≡ (unset_at u k || nat_eq k n)
    by true e =
        ap (unset_at (set u n true)) (eqb-true k n e) ∙ get_or-set_same u n true false h ∙ some (unset_at u k) ∙ ap (λ t. unset_at u k || t) (sym e)
    by false e =
        get_or-set_other u n k true false (other_numbers k n e) ∙ or_false (unset_at u k) ∙ ap (λ t. unset_at u k || t) (sym e)

-- ---- several

pub length_marked : (u : List Bool) (ns : List ℕ) (v : Bool) → length (marked u ns v) ≡ length u
length_marked u [] v = refl
length_marked u (n ∷ ns) v = length_marked (set u n v) ns v ∙ length-set u n v

pub marked_off : (u : List Bool) (ns : List ℕ) (k : ℕ) → unset_at (marked u ns false) k ≡ (unset_at u k && not (is_among k ns))
marked_off u [] k = and_true (unset_at u k)
marked_off u (n ∷ ns) k =
    marked_off (set u n false) ns k ∙ ap (λ t. t && not (is_among k ns)) (set_false u n k) ∙ by (unset_at u k) (nat_eq k n) (is_among k ns)
  where
    by : (a e m : Bool) → ((a && not e) && not m) ≡ (a && not (e || m))
    by true true m = refl
    by true false m = refl
    by false e m = refl

marked_on : (u : List Bool) (ns : List ℕ) → ((k : ℕ) → is_among k ns ≡ true → k < length u) → (k : ℕ) → unset_at (marked u ns true) k ≡ (unset_at u k || is_among k ns)
marked_on u [] below k = or_false (unset_at u k)
marked_on u (n ∷ ns) below k =
    let here : n < length u = below n (ap (λ t. t || is_among n ns) (same_number n)) in
    marked_on (set u n true) ns (λ j m. subst (λ l. j < l) (sym (length-set u n true)) (below j (among (nat_eq j n) (is_among j ns) m))) k
    ∙ ap (λ t. t || is_among k ns) (set_true u n k here) ∙ by (unset_at u k) (nat_eq k n) (is_among k ns)
  where
    among : (e m : Bool) → m ≡ true → (e || m) ≡ true
    among true m h = refl
    among false m h = h

    by : (a e m : Bool) → ((a || e) || m) ≡ (a || (e || m))
    by true e m = refl
    by false e m = refl

-- what was taken away is put back
pub put_back : (before u : List Bool) (ns : List ℕ) → AreSet ns before u → length before ≡ length u → (k : ℕ) → unset_at (marked u ns true) k ≡ unset_at before k
put_back before u ns are size k =
    marked_on u ns (λ j m. subst (λ l. j < l) size (marked_below before j (are.was j m))) k
    ∙ ap (λ t. t || is_among k ns) (are.is k) ∙ by (unset_at before k) (is_among k ns) (are.was k)
  where
    by : (b m : Bool) → (m ≡ true → b ≡ true) → ((b && not m) || m) ≡ b
    by true true h = refl
    by true false h = refl
    by false true h = sym (h refl)
    by false false h = refl

-- ---- numbers that are set

among_append : (k : ℕ) (xs ys : List ℕ) → is_among k (xs ++ ys) ≡ (is_among k xs || is_among k ys)
among_append k [] ys = refl
among_append k (x ∷ xs) ys = ap (λ t. nat_eq k x || t) (among_append k xs ys) ∙ by (nat_eq k x) (is_among k xs) (is_among k ys)
  where
    by : (a b c : Bool) → (a || (b || c)) ≡ ((a || b) || c)
    by true b c = refl
    by false b c = refl

pub none_set : (old new : List Bool) → ((k : ℕ) → unset_at new k ≡ unset_at old k) → AreSet [] old new
none_set old new same = record {
  was = λ k e. absurd (false≢true e);
  is = λ k. same k ∙ and_true (unset_at old k);
}

pub set_append : (xs ys : List ℕ) (a b c : List Bool) → AreSet xs a b → AreSet ys b c → AreSet (xs ++ ys) a c
set_append xs ys a b c p q = record {
  was = λ k e. was (is_among k xs) (is_among k ys) (unset_at a k) (unset_at b k) (sym (among_append k xs ys) ∙ e) (p.was k) (p.is k) (q.was k);
  is = λ k. q.is k ∙ ap (λ t. t && not (is_among k ys)) (p.is k) ∙ by (unset_at a k) (is_among k xs) (is_among k ys) ∙ ap (λ t. unset_at a k && not t) (sym (among_append k xs ys));
}
  where
    by : (a x y : Bool) → ((a && not x) && not y) ≡ (a && not (x || y))
    by true true y = refl
    by true false y = refl
    by false x y = refl

    was : (x y a b : Bool) → (x || y) ≡ true → (x ≡ true → a ≡ true) → b ≡ (a && not x) → (y ≡ true → b ≡ true) → a ≡ true
    was true y a b e p is q = p refl
    was false true true b e p is q = refl
    was false true false b e p is q = sym is ∙ q refl
    was false false a b e p is q = absurd (false≢true e)

pub set_one : (old : List Bool) (n : ℕ) → unset_at old n ≡ true → AreSet (n ∷ []) old (set old n false)
set_one old n e = record {
  was = λ k m. ap (unset_at old) (eqb-true k n (or_false (nat_eq k n) ∙ m)) ∙ e;
  is = λ k. set_false old n k ∙ ap (λ t. unset_at old k && not t) (or_false (nat_eq k n));
}

-- what is among those that are set was taken away
pub among_set : (ns : List ℕ) (before now : List Bool) → AreSet ns before now → (k : ℕ) → is_among k ns ≡ (unset_at before k && not (unset_at now k))
among_set ns before now are k = by (is_among k ns) (unset_at before k) (unset_at now k) (are.was k) (are.is k)
  where
    by : (m b n : Bool) → (m ≡ true → b ≡ true) → n ≡ (b && not m) → m ≡ (b && not n)
    by true true true w e = e
    by true true false w e = refl
    by true false n w e = sym (w refl)
    by false true true w e = refl
    by false true false w e = e
    by false false n w e = refl

-- ---- marks as they are written

-- of those before, those that this one sets too
pub by_all_is : (all set set' : List ℕ) (before unset unset' : List Bool) (common : Option (Vec ℕ Global)) → set' ≡ set → unset' ≡ unset → AreSet set before unset
    → ((b : List Bool) → AreSet set' b unset' → (k : ℕ) → is_among k all ≡ (unset_among common b k && not (unset_at unset' k)))
    → (k : ℕ) → is_among k all ≡ (unset_among common before k && not (unset_at unset k))
by_all_is all set set' before unset unset' common same same' are h k =
    h before (subst (λ u. AreSet set' before u) (sym same') (subst (λ s. AreSet s before unset) (sym same) are)) k
    ∙ ap (λ u. unset_among common before k && not (unset_at u k)) same'

pub backs : (before unset new : List Bool) (set set' : List ℕ) → AreSet set before unset → length unset ≡ length before → set' ≡ set → new ≡ marked unset set' true
    → (k : ℕ) → unset_at new k ≡ unset_at before k
backs before unset new set set' are size same is k =
    ap (λ u. unset_at u k) (is ∙ ap (λ s. marked unset s true) same) ∙ put_back before unset set are (sym size) k

pub takes : (before unset new : List Bool) (all all' : List ℕ) → ((k : ℕ) → unset_at unset k ≡ unset_at before k) → all' ≡ all → new ≡ marked unset all' false
    → (k : ℕ) → unset_at new k ≡ (unset_at before k && not (is_among k all))
takes before unset new all all' back same is k =
    ap (λ u. unset_at u k) (is ∙ ap (λ s. marked unset s false) same) ∙ marked_off unset all k ∙ ap (λ t. t && not (is_among k all)) (back k)

pub marked_size : (unset new : List Bool) (set : List ℕ) (value : Bool) → new ≡ marked unset set value → length new ≡ length unset
marked_size unset new set value is = ap length is ∙ length_marked unset set value
