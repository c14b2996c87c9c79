-- How often a bit of the flat netlist stands in a list: nothing stands twice just where each stands at most once.
use Rattle.std.proofs.Common.{◌≡◌, ℕ, ◌+◌, ◌≤◌, Bool, true, false, cond, List, [], ◌∷◌, ◌++◌, map, inl, inr, refl, sym, ◌∙◌, ap, subst, arith}
use Rattle.rtl_ir.specs.Flat.Driver.{Driven}
use Rattle.rtl_ir.specs.Flat.Place.{Path, Place, OfWire, place_same}
use Rattle.net_model.specs.Lists.{Apart, Distinct, In}
use Rattle.net_model.specs.Refine.{places_of}
use Rattle.net_model.proofs.Members.{apart_at, apart_from, In-mapped, map-append}
use Rattle.net_model.proofs.Places.{place_same-same}
use Rattle.flat_pass.proofs.Moving.{Move, moved}

pub place_yes : (q : Place) → place_same q q ≡ true
place_yes q = (place_same-same q q).1 refl

pub place_no : (q r : Place) → (q ≡ r → ⊥) → place_same q r ≡ false
place_no q r n = by (place_same q r) refl
  where
    by : (t : Bool) → place_same q r ≡ t → t ≡ false
    by true e = absurd (n ((place_same-same q r).0 e))
    by false e = refl

abbrev pub once : Place → Place → ℕ
once q r = cond (place_same q r) 1 0

abbrev pub often : Place → List Place → ℕ
often q [] = 0
often q (r ∷ rs) = once q r + often q rs

pub often-append : (q : Place) (xs ys : List Place) → often q (xs ++ ys) ≡ often q xs + often q ys
often-append q [] ys = omega arith
often-append q (x ∷ xs) ys = let later = often-append q xs ys in omega (arith, later)

often_none : (q : Place) (xs : List Place) → Apart q xs → often q xs ≡ 0
often_none q [] a = refl
often_none q (x ∷ xs) a =
    let here : once q x ≡ 0 = ap (λ t. cond t 1 0) (place_no q x a.0) in
    let later = often_none q xs a.1 in
    omega (arith, here, later)

often_some : (q : Place) (xs : List Place) → In q xs → 1 ≤ often q xs
often_some q [] i = absurd i
often_some q (x ∷ xs) (inl e) =
    let here : once q x ≡ 1 = ap (λ t. cond t 1 0) (ap (place_same q) (sym e) ∙ place_yes q) in
    omega (arith, here)
often_some q (x ∷ xs) (inr i) = let later = often_some q xs i in omega (arith, later)

pub often_of_distinct : (q : Place) (xs : List Place) → Distinct xs → often q xs ≤ 1
often_of_distinct q [] d = omega arith
often_of_distinct q (x ∷ xs) d = by (place_same q x) refl (often_of_distinct q xs d.1)
  where
    by : (t : Bool) → place_same q x ≡ t → often q xs ≤ 1 → cond t 1 0 + often q xs ≤ 1
    by true e later =
        let none : often q xs ≡ 0 = often_none q xs (subst (λ z. Apart z xs) (sym ((place_same-same q x).0 e)) d.0) in
        omega (arith, none)
    by false e later = omega (arith, later)

pub distinct_of_often : (xs : List Place) → ((q : Place) → often q xs ≤ 1) → Distinct xs
distinct_of_often [] h = tt
distinct_of_often (x ∷ xs) h = (
  apart_from x xs (λ y i e.
      let some : 1 ≤ often x xs = often_some x xs (subst (λ z. In z xs) (sym e) i) in
      let one : once x x ≡ 1 = ap (λ t. cond t 1 0) (place_yes x) in
      let all = h x in
      omega (arith, some, one, all)),
  distinct_of_often xs (λ q. let all = h q in omega (arith, all)),
)

-- what stands often enough stands there
pub in_of_often : (q : Place) (xs : List Place) → 1 ≤ often q xs → In q xs
in_of_often q [] h = absurd (omega (arith, h))
in_of_often q (x ∷ xs) h = by (place_same q x) refl h (λ k. in_of_often q xs k)
  where
    by : (t : Bool) → place_same q x ≡ t → 1 ≤ cond t 1 0 + often q xs → (1 ≤ often q xs → In q xs) → In q (x ∷ xs)
    by true e k later = inl ((place_same-same q x).0 e)
    by false e k later = inr (later (omega (arith, k)))

-- two lists in which each place stands as often
pub distinct_same : (xs ys : List Place) → ((q : Place) → often q xs ≡ often q ys) → Distinct ys → Distinct xs
distinct_same xs ys h d =
    distinct_of_often xs (λ q. let same = h q in
    let few = often_of_distinct q ys d in
    omega (arith, same, few))

pub in_same : (xs ys : List Place) → ((q : Place) → often q xs ≡ often q ys) → (q : Place) → In q xs → In q ys
in_same xs ys h q i =
    let same = h q in
    let some = often_some q xs i in
    in_of_often q ys (omega (arith, same, some))

-- a map that tells the places of a list apart
pub map_distinct : (go : Move) (xs : List Place) → ((q r : Place) → In q xs → In r xs → go q ≡ go r → q ≡ r) → Distinct xs → Distinct (map go xs)
map_distinct go [] h d = tt
map_distinct go (x ∷ xs) h d = (
  apart_from (go x) (map go xs) (λ y i e.
      let k = In-mapped go y xs i in
      apart_at x xs d.0 k.0 k.1 (h x k.0 (inl refl) (inr k.1) (e ∙ k.2))),
  map_distinct go xs (λ q r i j e. h q r (inr i) (inr j) e) d.1,
)

pub places_moved : (go : Move) (xs : List Driven) → places_of (map (moved go) xs) ≡ map go (places_of xs)
places_moved go [] = refl
places_moved go (x ∷ xs) = ap (λ z. go x.place ∷ z) (places_moved go xs)

-- whether two paths are one
abbrev pub path_is : Path → Path → Bool
path_is p q = place_same (record { path = p; spot = OfWire [] 0 }) (record { path = q; spot = OfWire [] 0 })

pub path_yes : (p : Path) → path_is p p ≡ true
path_yes p = place_yes (record { path = p; spot = OfWire [] 0 })

pub path_no : (p q : Path) → (p ≡ q → ⊥) → path_is p q ≡ false
path_no p q n =
    place_no (record { path = p; spot = OfWire [] 0 }) (record { path = q; spot = OfWire [] 0 }) (λ e. n (ap (λ z. z.path) e))

pub path_by : (p q : Path) → path_is p q ≡ true → p ≡ q
path_by p q e =
    ap (λ z. z.path) ((place_same-same (record { path = p; spot = OfWire [] 0 }) (record { path = q; spot = OfWire [] 0 })).0 e)

-- the rows of several lists
pub rows_often : (q : Place) (xs ys : List Driven) → often q (places_of (xs ++ ys)) ≡ often q (places_of xs) + often q (places_of ys)
rows_often q xs ys =
    ap (often q) (map-append (λ row. row.place) xs ys) ∙ often-append q (places_of xs) (places_of ys)

pub seven_often : (q : Place) (a b c d e f g : List Driven) → often q (places_of ((a ++ b) ++ ((c ++ (d ++ e)) ++ (f ++ g)))) ≡ often q (places_of a) + often q (places_of b) + (often q (places_of c) + (often q (places_of d) + often q (places_of e))) + (often q (places_of f) + often q (places_of g))
seven_often q a b c d e f g =
    let all = rows_often q (a ++ b) ((c ++ (d ++ e)) ++ (f ++ g)) in
    let ab = rows_often q a b in
    let rest = rows_often q (c ++ (d ++ e)) (f ++ g) in
    let cde = rows_often q c (d ++ e) in
    let de = rows_often q d e in
    let fg = rows_often q f g in
    omega (arith, all, ab, rest, cde, de, fg)

-- rows once they move
pub moved_often : (go : Move) (q : Place) (xs ys : List Driven) → often q (places_of (map (moved go) (xs ++ ys))) ≡ often q (places_of (map (moved go) xs)) + often q (places_of (map (moved go) ys))
moved_often go q xs ys =
    ap (λ z. often q (places_of z)) (map-append (moved go) xs ys) ∙ rows_often q (map (moved go) xs) (map (moved go) ys)
