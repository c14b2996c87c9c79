-- Rows that are added one after another.
use Rattle.std.proofs.Common.{◌≡◌, ℕ, zero, suc, ◌+◌, ◌<◌, ◌≤◌, List, [], ◌∷◌, ◌++◌, length, get_or, take, drop, min, refl, sym, ◌∙◌, ap, subst, arith, append_assoc, Result, OnOk, add-one}
use Rattle.std.proofs.Math.Seq.{drop-cons}
use Rattle.std.proofs.Math.ListN.{drop_of_length-le}
use Rattle.std.proofs.lemmas.List.{map-append, take_more, append-nil, length-map, length-take}
use Rattle.rtl_ir.specs.Flat.Driver.{Driven, Joined}
use Rattle.rtl_ir.specs.Flat.Link.{joins}
use Rattle.rtl_ir.specs.Flat.Place.{Place}
use Rattle.rtl_ir.specs.Flat.Point as rtl
use Rattle.flat_net.specs.declared.builder.Builder.{Builder}
use Rattle.flat_net.specs.declared.net.Part.{Part}
use Rattle.flat_net.specs.declared.net.Point.{Point}
use Rattle.flat_net.specs.Adds.{Adds, Joins}
use Rattle.flat_net.specs.Known.{Known, Extends}
use Rattle.flat_net.specs.Parts.{part_rows, parts_rows}
use Rattle.flat_net.specs.Points.{point_of, points_of}
use Rattle.flat_net.specs.Reads.{ArePoints, AreParts}
use Rattle.flat_net.specs.Within.{ArePointsWithin, IsPartWithin}
use Rattle.flat_net.proofs.Reading.{Extends-refl, Extends-then, ArePoints-kept, AreParts-kept, AreParts-end}
use Rattle.flat_net.proofs.Results.{if_ok}

pub Adds-none : (a : Builder) → Adds a a []
Adds-none a = record { numbers = Extends-refl a.places; parts = λ before h. subst (AreParts a.places.places a.parts.items) (sym (append-nil before)) h }

pub Adds-then : (a b c : Builder) (xs ys : List Driven) → Adds a b xs → Adds b c ys → Adds a c (xs ++ ys)
Adds-then a b c xs ys f g = record {
  numbers = Extends-then _ _ _ f.numbers g.numbers;
  parts = λ before h. subst (AreParts c.places.places c.parts.items) (append_assoc before xs ys) (g.parts (before ++ xs) (f.parts before h));
}

-- more bits have a number, and the parts stay
pub Adds-numbers : (a b : Builder) → Extends a.places b.places → b.parts.items ≡ a.parts.items → Adds a b []
Adds-numbers a b e same = record {
  numbers = e;
  parts = λ before h. subst (AreParts b.places.places b.parts.items) (sym (append-nil before)) (rw same (AreParts-kept _ _ e.places _ before h));
}

-- what is to be added at a later moment is what is left of what was to be added at an earlier one
pub record Leads (a b : Builder) (all rest : List Driven) : Type 0 where
  pub then_all : (end : Builder) → Adds b end rest → Adds a end all

pub Leads-none : (a : Builder) (all : List Driven) → Leads a a all all
Leads-none a all = record { then_all = λ end h. h }

pub Leads-next : (a b c : Builder) (all here rest : List Driven) → Leads a b all (here ++ rest) → Adds b c here → Leads a c all rest
Leads-next a b c all here rest l h = record { then_all = λ end k. l.then_all end (Adds-then b c end here rest h k) }

pub Leads-end : (a b : Builder) (all : List Driven) → Leads a b all [] → Adds a b all
Leads-end a b all l = l.then_all b (Adds-none b)

-- joins, one more at the end

joins-append : (xs ys more others : List rtl.Point) → length xs ≡ length ys → joins (xs ++ more) (ys ++ others) ≡ joins xs ys ++ joins more others
joins-append [] [] more others h = refl
joins-append [] (y ∷ ys) more others h = absurd (omega arith)
joins-append (x ∷ xs) [] more others h = absurd (omega arith)
joins-append (rtl.At q ∷ xs) (y ∷ ys) more others h = ap (λ rows. record { place = q; driver = Joined y } ∷ rows) (joins-append xs ys more others (omega arith))
joins-append (rtl.Constant b ∷ xs) (y ∷ ys) more others h = joins-append xs ys more others (omega arith)

-- no more than both have is joined
joins-take : (n : ℕ) (xs ys : List rtl.Point) → min (length xs) (length ys) ≤ n → joins (take n xs) (take n ys) ≡ joins xs ys
joins-take zero [] ys h = refl
joins-take zero (x ∷ xs) [] h = refl
joins-take zero (x ∷ xs) (y ∷ ys) h = absurd (omega arith)
joins-take (suc n) [] ys h = refl
joins-take (suc n) (x ∷ xs) [] h = refl
joins-take (suc n) (rtl.At q ∷ xs) (y ∷ ys) h = ap (λ rows. record { place = q; driver = Joined y } ∷ rows) (joins-take n xs ys (omega arith))
joins-take (suc n) (rtl.Constant b ∷ xs) (y ∷ ys) h = joins-take n xs ys (omega arith)

pub points_of-take : (ps : List Place) (n : ℕ) (xs : List Point) → points_of ps (take n xs) ≡ take n (points_of ps xs)
points_of-take ps zero xs = refl
points_of-take ps (suc n) [] = refl
points_of-take ps (suc n) (x ∷ xs) = ap (λ qs. point_of ps x ∷ qs) (points_of-take ps n xs)

pub within-take : (count n : ℕ) (xs : List Point) → ArePointsWithin count xs → ArePointsWithin count (take n xs)
within-take count zero xs h = tt
within-take count (suc n) [] h = tt
within-take count (suc n) (x ∷ xs) h = (h.0, within-take count n xs h.1)

pub within-before : (count : ℕ) (xs ys : List Point) → ArePointsWithin count (xs ++ ys) → ArePointsWithin count xs
within-before count [] ys h = tt
within-before count (x ∷ xs) ys h = (h.0, within-before count xs ys h.1)

pub within-behind : (count : ℕ) (xs ys : List Point) → ArePointsWithin count (xs ++ ys) → ArePointsWithin count ys
within-behind count [] ys h = h
within-behind count (x ∷ xs) ys h = within-behind count xs ys h.1

pub Joins-none : (old : List Part) → Joins old old [] []
Joins-none old = record { rows = λ ps. sym (append-nil (parts_rows ps old)); within = λ count l r h. h }

pub Joins-next : (old new next : List Part) (left right : List Point) (i : ℕ) (d f : Point) → i < length left → i < length right → Joins old new (take i left) (take i right)
    → Joins new next (get_or left i d ∷ []) (get_or right i f ∷ []) → Joins old next (take (i + 1) left) (take (i + 1) right)
Joins-next old new next left right i d f a b h k =
    let lefts : take (i + 1) left ≡ take i left ++ get_or left i d ∷ [] = take_more left i d a in
    let rights : take (i + 1) right ≡ take i right ++ get_or right i f ∷ [] = take_more right i f b in
    let even : (ps : List Place) → length (points_of ps (take i left)) ≡ length (points_of ps (take i right)) =
    (λ ps. rw (length-map, length-map, length-take, length-take) (omega arith)) in
    rw (lefts, rights) (record {
      rows = λ ps.
          k.rows ps ∙ ap (λ rows. rows ++ joins (points_of ps (get_or left i d ∷ [])) (points_of ps (get_or right i f ∷ []))) (h.rows ps)
          ∙ append_assoc (parts_rows ps old) _ _
          ∙ ap (λ rows. parts_rows ps old ++ rows) (sym (joins-append (points_of ps (take i left)) (points_of ps (take i right)) (points_of ps (get_or left i d ∷ [])) (points_of ps (get_or right i f ∷ [])) (even ps)))
          ∙ (λ x. parts_rows ps old ++ joins (sym (map-append (point_of ps) (take i left) (get_or left i d ∷ [])) x) (sym (map-append (point_of ps) (take i right) (get_or right i f ∷ [])) x));
      within = λ count l r before. k.within count (within-behind count (take i left) _ l) (within-behind count (take i right) _ r)
          (h.within count (within-before count (take i left) _ l) (within-before count (take i right) _ r) before);
    })

pub Adds-joins : (a b : Builder) (left right : List Point) (n : ℕ) → b.places ≡ a.places → min (length left) (length right) ≤ n → Joins a.parts.items b.parts.items (take n left) (take n right)
    → (lefts rights : List rtl.Point) → ArePoints a.places.places left lefts → ArePoints a.places.places right rights → Adds a b (joins lefts rights)
Adds-joins a b left right n places end j lefts rights l r =
    let short : min (length (points_of a.places.places left)) (length (points_of a.places.places right)) ≤ n = rw (length-map, length-map) end in
    let all : joins (points_of a.places.places (take n left)) (points_of a.places.places (take n right)) ≡ joins lefts rights =
    (λ x. joins (points_of-take a.places.places n left x) (points_of-take a.places.places n right x)) ∙ joins-take n _ _ short ∙ (λ x. joins (l.are x) (r.are x)) in
    record {
      numbers = rw places (Extends-refl a.places);
      parts = λ before h. rw places (record {
        are = j.rows a.places.places ∙ (λ x. h.are x ++ all x);
        within = j.within (length a.places.places) (within-take _ n left l.within) (within-take _ n right r.within) h.within;
      });
    }

-- what is read at two moments is joined
pub joined : (f : List rtl.Point → List rtl.Point → List Driven) (a b : Builder) (one two : Known) (left right ls rs : List Point) (lefts rights : List rtl.Point) → Extends a.places one → Extends one two
    → ArePoints one.places left lefts → ArePoints two.places right rights → ls ≡ left → rs ≡ right → {E : Type 0} (r : Result (Unit {0}) E)
    → ((ms ns : List rtl.Point) → ArePoints two.places ls ms → ArePoints two.places rs ns → OnOk r (Adds (record { places = two; parts = a.parts }) b (f ms ns))) → OnOk r (Adds a b (f lefts rights))
joined f a b one two left right ls rs lefts rights g g' l k e h r call =
    let here : ArePoints two.places ls lefts = subst (λ xs. ArePoints two.places xs lefts) (sym e) (ArePoints-kept one.places two.places g'.places left lefts l) in
    let there : ArePoints two.places rs rights = subst (λ xs. ArePoints two.places xs rights) (sym h) k in
    if_ok r (call lefts rights here there) (λ _ added. Adds-then a (record { places = two; parts = a.parts }) b [] (f lefts rights) (Adds-numbers a _ (Extends-then _ _ _ g g') refl) added)

any_default : {X : Type 0} (xs : List X) (i : ℕ) (d e : X) → i < length xs → get_or xs i d ≡ get_or xs i e
any_default [] i d e h = absurd (omega arith)
any_default (x ∷ xs) zero d e h = refl
any_default (x ∷ xs) (suc i) d e h = any_default xs i d e (omega arith)

-- rows of a list, item by item
module _ {X : Type 0} (f : List X → List Driven) (here : X → List Driven) (each : (x : X) (xs : List X) → f (x ∷ xs) ≡ here x ++ f xs) (none : f [] ≡ []) (xs : List X) (a : Builder) (all : List Driven) where
  pub Leads-item : (b c : Builder) (i : ℕ) (x : X) → i < length xs → x ≡ get_or xs i x → Leads a b all (f (drop i xs)) → Adds b c (here x) → Leads a c all (f (drop (i + 1) xs))
  Leads-item b c i x h is l k =
      let left : drop i xs ≡ x ∷ drop (i + 1) xs = drop-cons xs i x h ∙ (λ j. sym is j ∷ drop (sym (add-one i) j) xs) in
      let whole : f (drop i xs) ≡ here x ++ f (drop (i + 1) xs) = ap f left ∙ each x (drop (i + 1) xs) in
      Leads-next a b c all (here x) (f (drop (i + 1) xs)) (subst (Leads a b all) whole l) k

  -- the same of an item that is read by any default
  pub Leads-read : (b c : Builder) (i : ℕ) (d : X) → i < length xs → Leads a b all (f (drop i xs)) → Adds b c (here (get_or xs i d)) → Leads a c all (f (drop (i + 1) xs))
  Leads-read b c i d h l k = Leads-item b c i (get_or xs i d) h (any_default xs i d (get_or xs i d) h) l k

  pub Leads-last : (b : Builder) (i : ℕ) → length xs ≤ i → Leads a b all (f (drop i xs)) → Adds a b all
  Leads-last b i h l =
      let left : drop i xs ≡ [] = drop_of_length-le xs h in
      Leads-end a b all (subst (Leads a b all) (ap f left ∙ none) l)

-- a part more, over more bits
pub Adds-part : (a b : Builder) (x : Part) (rows : List Driven) → Extends a.places b.places → b.parts.items ≡ a.parts.items ++ x ∷ [] → part_rows b.places.places x ≡ rows → IsPartWithin (length b.places.places) x → Adds a b rows
Adds-part a b x rows e put are within = record {
  numbers = e;
  parts = λ before h. rw put (AreParts-end b.places.places a.parts.items before x rows (AreParts-kept a.places.places b.places.places e.places a.parts.items before h) are within);
}
