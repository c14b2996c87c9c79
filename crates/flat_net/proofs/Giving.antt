-- The bits of ports, and the parts of inputs.
use Rattle.std.proofs.Common.{◌≡◌, ℕ, suc, ◌+◌, ◌<◌, ◌≤◌, List, [], ◌∷◌, ◌++◌, length, get_or, take, Bor, refl, sym, ◌∙◌, ap, subst, arith, map, append_assoc}
use Rattle.std.specs.List.{AllByRecursion}
use Rattle.std.proofs.lemmas.Grind.{flat_map-append}
use Rattle.std.proofs.lemmas.List.{map-append, take_more, take_all, append-nil, length-map, length-take-le}
use Rattle.rtl_ir.specs.declared.ports.PortLine.{PortLine}
use Rattle.rtl_ir.specs.declared.wire.Role.{Role}
use Rattle.rtl_ir.specs.declared.wire.Wire.{Wire}
use Rattle.rtl_ir.specs.Flat.Driver.{Given}
use Rattle.rtl_ir.specs.Flat.Place.{Path, Place}
use Rattle.rtl_ir.specs.Flat.Point as rtl
use Rattle.rtl_ir.specs.Flat.Point.{wire_points}
use Rattle.rtl_ir.specs.Flat.Tree.{given_rows, if_role, places, role_points}
use Rattle.rtl_ir.specs.Ports.{line_of}
use Rattle.flat_net.specs.declared.builder.Builder.{Builder}
use Rattle.flat_net.specs.declared.net.Part.{Part}
use Rattle.flat_net.specs.declared.net.Part.TheVariants as part
use Rattle.flat_net.specs.declared.net.Point.{Point}
use Rattle.flat_net.specs.Adds.{Adds, Gives, PutsNumbers}
use Rattle.flat_net.specs.Known.{Keeps}
use Rattle.flat_net.specs.Parts.{part_rows, parts_rows}
use Rattle.flat_net.specs.Points.{place_at, point_of, points_of}
use Rattle.flat_net.specs.Reads.{AreNumbers, ArePoints}
use Rattle.flat_net.specs.Tables.{all_now}
use Rattle.flat_net.specs.Within.{ArePointsWithin, IsPartWithin}
use Rattle.flat_net.proofs.Adding.{within-before, within-behind}
use Rattle.flat_net.proofs.Reading.{Extends-refl, ArePoints-kept, all_end}

-- numbers among points

places-append : (xs ys : List rtl.Point) → places (xs ++ ys) ≡ places xs ++ places ys
places-append [] ys = refl
places-append (rtl.At q ∷ xs) ys = ap (λ qs. q ∷ qs) (places-append xs ys)
places-append (rtl.Constant b ∷ xs) ys = places-append xs ys

pub PutsNumbers-next : (old new next : List ℕ) (points : List Point) (i : ℕ) (d : Point) → i < length points → PutsNumbers old new (take i points) → PutsNumbers new next (get_or points i d ∷ []) → PutsNumbers old next (take (i + 1) points)
PutsNumbers-next old new next points i d a h k =
    let more : take (i + 1) points ≡ take i points ++ get_or points i d ∷ [] = take_more points i d a in
    rw more (record {
      rows = λ ps.
          k.rows ps ∙ ap (λ qs. qs ++ places (points_of ps (get_or points i d ∷ []))) (h.rows ps) ∙ append_assoc (map (place_at ps) old) _ _
          ∙ ap (λ qs. map (place_at ps) old ++ qs) (sym (places-append (points_of ps (take i points)) (points_of ps (get_or points i d ∷ []))) ∙ ap places (sym (map-append (point_of ps) (take i points) (get_or points i d ∷ []))));
      within = λ count w before. k.within count (within-behind count (take i points) _ w) (h.within count (within-before count (take i points) _ w) before);
    })

pub PutsNumbers-all : (old new : List ℕ) (points : List Point) (n : ℕ) → length points ≤ n → PutsNumbers old new (take n points) → PutsNumbers old new points
PutsNumbers-all old new points n end h = subst (PutsNumbers old new) (take_all n points end) h

pub numbers_read : (ps : List Place) (numbers : List ℕ) (points read : List Point) (they : List rtl.Point) → points ≡ read → ArePoints ps read they → PutsNumbers [] numbers points → AreNumbers ps numbers (places they)
numbers_read ps numbers points read they same h put = record {
  are = put.rows ps ∙ ap places (ap (points_of ps) same ∙ h.are);
  within = put.within (length ps) (subst (ArePointsWithin (length ps)) (sym same) h.within) tt;
}

-- the bits of ports

within-append : (count : ℕ) (xs ys : List Point) → ArePointsWithin count xs → ArePointsWithin count ys → ArePointsWithin count (xs ++ ys)
within-append count [] ys h k = k
within-append count (x ∷ xs) ys h k = (h.0, within-append count xs ys h.1 k)

role_points-append : (role : Role) (p : Path) (xs ys : List PortLine) → role_points role p (xs ++ ys) ≡ role_points role p xs ++ role_points role p ys
role_points-append role p [] ys = refl
role_points-append role p (x ∷ xs) ys =
    ap (λ qs. if_role role x.role (wire_points p x.name 0 x.width) ++ qs) (role_points-append role p xs ys)
    ∙ sym (append_assoc (if_role role x.role (wire_points p x.name 0 x.width)) (role_points role p xs) (role_points role p ys))

pub role_points-next : (role : Role) (p : Path) (ports : List (Bor Wire)) (i : ℕ) (w : Bor Wire) → i < length ports → w ≡ get_or ports i w
    → role_points role p (map line_of (all_now (take (i + 1) ports))) ≡ role_points role p (map line_of (all_now (take i ports))) ++ if_role role w.now.role (wire_points p w.now.name 0 w.now.width)
role_points-next role p ports i w h is =
    let more : take (i + 1) ports ≡ take i ports ++ w ∷ [] = take_more ports i w h ∙ ap (λ x. take i ports ++ x ∷ []) (sym is) in
    ap (λ ws. role_points role p (map line_of (all_now ws))) more
    ∙ ap (λ ws. role_points role p (map line_of ws)) (map-append (λ (x : Bor Wire). x.now) (take i ports) (w ∷ []))
    ∙ ap (role_points role p) (map-append line_of (all_now (take i ports)) (w.now ∷ []))
    ∙ role_points-append role p (map line_of (all_now (take i ports))) (line_of w.now ∷ [])
    ∙ ap (λ qs. role_points role p (map line_of (all_now (take i ports))) ++ qs) (append-nil (if_role role w.now.role (wire_points p w.now.name 0 w.now.width)))

pub ArePoints-more : (ps qs : List Place) (xs ys all here : List Point) (they those whole : List rtl.Point) → Keeps ps qs → ArePoints ps xs they → ArePoints qs ys those → here ≡ ys → all ≡ xs ++ here → whole ≡ they ++ those
    → ArePoints qs all whole
ArePoints-more ps qs xs ys all here they those whole keeps h k g e f =
    let old = ArePoints-kept ps qs keeps xs they h in
    rw (e, f, g) (record { are = map-append (point_of qs) xs ys ∙ (λ i. old.are i ++ k.are i); within = within-append (length qs) xs ys old.within k.within })

-- inputs

given_rows-end : (qs : List Place) (q : Place) (at : ℕ) → given_rows (qs ++ q ∷ []) at ≡ given_rows qs at ++ record { place = q; driver = Given (at + length qs) } ∷ []
given_rows-end [] q at = let e : at ≡ at + 0 = omega arith in ap (λ k. record { place = q; driver = Given k } ∷ []) e
given_rows-end (x ∷ qs) q at =
    let e : suc at + length qs ≡ at + length (x ∷ qs) = omega arith in
    ap (λ rows. record { place = x; driver = Given at } ∷ rows) (given_rows-end qs q (suc at) ∙ ap (λ k. given_rows qs (suc at) ++ record { place = q; driver = Given k } ∷ []) e)

pub Gives-none : (old : List Part) → Gives old old []
Gives-none old = record { rows = λ ps. sym (append-nil (parts_rows ps old)); within = λ count w h. h }

numbers-before : (count : ℕ) (xs ys : List ℕ) → AllByRecursion (λ number. number < count) (xs ++ ys) → AllByRecursion (λ number. number < count) xs
numbers-before count [] ys h = tt
numbers-before count (x ∷ xs) ys h = (h.0, numbers-before count xs ys h.1)

numbers-behind : (count : ℕ) (xs ys : List ℕ) → AllByRecursion (λ number. number < count) (xs ++ ys) → AllByRecursion (λ number. number < count) ys
numbers-behind count [] ys h = h
numbers-behind count (x ∷ xs) ys h = numbers-behind count xs ys h.1

pub Gives-next : (old new next : List Part) (numbers : List ℕ) (i d at : ℕ) → i < length numbers → at ≡ i → Gives old new (take i numbers) → next ≡ new ++ part.Given (record { number = get_or numbers i d; at = at }) ∷ []
    → Gives old next (take (i + 1) numbers)
Gives-next old new next numbers i d at a same h e =
    let more : take (i + 1) numbers ≡ take i numbers ++ get_or numbers i d ∷ [] = take_more numbers i d a in
    let l : length (take i numbers) ≡ i = length-take-le i numbers (omega arith) in
    let so_far : (ps : List Place) → 0 + length (map (place_at ps) (take i numbers)) ≡ at = (λ ps. rw (length-map, l) (omega arith)) in
    rw (more, e) (record {
      rows = λ ps.
          flat_map-append (part_rows ps) new (part.Given (record { number = get_or numbers i d; at = at }) ∷ [])
          ∙ ap (λ rows. rows ++ record { place = place_at ps (get_or numbers i d); driver = Given at } ∷ []) (h.rows ps)
          ∙ append_assoc (parts_rows ps old) _ _
          ∙ ap (λ rows. parts_rows ps old ++ rows)
          (ap (λ k. given_rows (map (place_at ps) (take i numbers)) 0 ++ record { place = place_at ps (get_or numbers i d); driver = Given k } ∷ []) (sym (so_far ps))
          ∙ sym (given_rows-end (map (place_at ps) (take i numbers)) (place_at ps (get_or numbers i d)) 0)
          ∙ ap (λ qs. given_rows qs 0) (sym (map-append (place_at ps) (take i numbers) (get_or numbers i d ∷ []))));
      within = λ count w before.
          all_end (IsPartWithin count) new (part.Given (record { number = get_or numbers i d; at = at })) (h.within count (numbers-before count (take i numbers) _ w) before)
          (numbers-behind count (take i numbers) _ w).0;
    })

pub Adds-gives : (a b : Builder) (numbers : List ℕ) (n : ℕ) → b.places ≡ a.places → length numbers ≤ n → Gives a.parts.items b.parts.items (take n numbers) → (qs : List Place) → AreNumbers a.places.places numbers qs → Adds a b (given_rows qs 0)
Adds-gives a b numbers n same end g qs h =
    let all : Gives a.parts.items b.parts.items numbers = subst (Gives a.parts.items b.parts.items) (take_all n numbers end) g in
    record {
      numbers = rw same (Extends-refl a.places);
      parts = λ before k. rw same (record {
        are = all.rows a.places.places ∙ (λ i. k.are i ++ given_rows (h.are i) 0);
        within = all.within (length a.places.places) h.within k.within;
      });
    }
