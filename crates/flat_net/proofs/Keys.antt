-- What keys stand for stays so with more names and keys.
use Rattle.std.proofs.Common.{◌≡◌, ℕ, zero, suc, ◌+◌, ◌<◌, ◌≤◌, Bool, true, false, ◌&&◌, List, [], ◌∷◌, ◌++◌, length, Option, Some, None, slice_get, refl, sym, ◌∙◌, ap, subst, arith, map, eqb, length-append, option_map, true≢false}
use Rattle.std.specs.List.{list_any, IsDistinct}
use Rattle.std.specs.Option.{option_eq}
use Rattle.std.proofs.lemmas.List.{map-append}
use Rattle.std.proofs.lemmas.Option.{get_or_from_slice_get, slice_get-map}
use Rattle.std.proofs.lemmas.Bool.{eqb-true}
use Rattle.indexmap.specs.IndexSet.{insert_key}
use Rattle.rtl_sig.specs.Names.{AreDistinct}
use Rattle.rtl_ir.specs.Flat.Place.{Path, frame}
use Rattle.flat_net.specs.declared.places.FrameKey.{FrameKey}
use Rattle.flat_net.specs.declared.places.SpotKey.{SpotKey}
use Rattle.flat_net.specs.Keys.{name_at, path_at, path_of, paths_from, paths_of, place_of, known_of, spot_of, AreFrames, AreSpots, Fits, frame_eq}
use Rattle.flat_net.specs.Known.{Known, Keeps, Extends}
use Rattle.flat_net.proofs.Kept.{Keeps-refl, Keeps-append, get_or-Keeps, length-Keeps}

and_parts : (a b : Bool) → (a && b) ≡ true → (a ≡ true) × (b ≡ true)
and_parts true b h = (refl, h)
and_parts false b h = absurd (true≢false (sym h))

-- the test of keys of bits
abbrev pub spot_eq : SpotKey → SpotKey → Bool
spot_eq a b = eqb a.path b.path && (eqb a.name b.name && (option_eq eqb a.address b.address && eqb a.at b.at))

-- addresses that are taken for one are one
same_address : (a b : Option ℕ) → option_eq eqb a b ≡ true → a ≡ b
same_address None None h = refl
same_address None (Some y) h = absurd (true≢false (sym h))
same_address (Some x) None h = absurd (true≢false (sym h))
same_address (Some x) (Some y) h = ap Some (eqb-true x y h)

-- keys that are taken for one are one
pub same_spot : (a b : SpotKey) → spot_eq a b ≡ true → a ≡ b
same_spot a b h =
    let l = and_parts _ _ h in
    let r = and_parts _ _ l.1 in
    let path : a.path ≡ b.path = eqb-true _ _ l.0 in
    let name : a.name ≡ b.name = eqb-true _ _ r.0 in
    let rest = and_parts _ _ r.1 in
    let address : a.address ≡ b.address = same_address _ _ rest.0 in
    let at : a.at ≡ b.at = eqb-true _ _ rest.1 in
    (λ i. record { path = path i; name = name i; address = address i; at = at i })

pub same_frame : (a b : FrameKey) → frame_eq a b ≡ true → a ≡ b
same_frame a b h =
    let l = and_parts _ _ h in
    let r = and_parts _ _ l.1 in
    let around : a.around ≡ b.around = eqb-true _ _ l.0 in
    let name : a.name ≡ b.name = eqb-true _ _ r.0 in
    let id : a.module_name ≡ b.module_name = eqb-true _ _ r.1 in
    (λ i. record { around = around i; name = name i; module_name = id i })

-- more names

pub AreFrames-more : (n m p : ℕ) (fs : List FrameKey) → n ≤ m → AreFrames n p fs → AreFrames m p fs
AreFrames-more n m p [] le h = tt
AreFrames-more n m p (k ∷ fs) le h = ((h.0.0, omega arith, omega arith), AreFrames-more n m (suc p) fs le h.1)

pub AreSpots-more : (n m p q : ℕ) (ss : List SpotKey) → n ≤ m → p ≤ q → AreSpots n p ss → AreSpots m q ss
AreSpots-more n m p q [] le le' h = tt
AreSpots-more n m p q (k ∷ ss) le le' h = ((omega arith, omega arith), AreSpots-more n m p q ss le le' h.1)

pub paths_from-names : (ns ms : List (List ℕ)) (ps : List Path) (fs : List FrameKey) → Keeps ns ms → AreFrames (length ns) (length ps) fs → paths_from ms ps fs ≡ paths_from ns ps fs
paths_from-names ns ms ps [] k h = refl
paths_from-names ns ms ps (f ∷ fs) k h =
    let name : name_at ms f.name ≡ name_at ns f.name = get_or-Keeps ns ms [] f.name k h.0.1 in
    let id : name_at ms f.module_name ≡ name_at ns f.module_name = get_or-Keeps ns ms [] f.module_name k h.0.2 in
    let same : path_of ms ps f ≡ path_of ns ps f = (λ i. frame (name i) (id i) ∷ path_at ps f.around) in
    let longer : length (ps ++ path_of ns ps f ∷ []) ≡ suc (length ps) = length-append ps (path_of ns ps f ∷ []) ∙ omega arith in
    rw same (paths_from-names ns ms (ps ++ path_of ns ps f ∷ []) fs k (rw longer h.1))

pub places-kept : (ns ms : List (List ℕ)) (ps qs : List Path) (ss : List SpotKey) → Keeps ns ms → Keeps ps qs → AreSpots (length ns) (length ps) ss → map (place_of ms qs) ss ≡ map (place_of ns ps) ss
places-kept ns ms ps qs [] k l h = refl
places-kept ns ms ps qs (s ∷ ss) k l h =
    let name : name_at ms s.name ≡ name_at ns s.name = get_or-Keeps ns ms [] s.name k h.0.1 in
    let path : path_at qs s.path ≡ path_at ps s.path = get_or-Keeps ps qs [] s.path l h.0.0 in
    let rest = places-kept ns ms ps qs ss k l h.1 in
    (λ i. record { path = path i; spot = spot_of (name i) s.address s.at } ∷ rest i)

pub length-paths_from : (ns : List (List ℕ)) (ps : List Path) (fs : List FrameKey) → length (paths_from ns ps fs) ≡ length ps + length fs
length-paths_from ns ps [] = omega arith
length-paths_from ns ps (f ∷ fs) =
    let longer : length (ps ++ path_of ns ps f ∷ []) ≡ suc (length ps) = length-append ps (path_of ns ps f ∷ []) ∙ omega arith in
    let rest = length-paths_from ns (ps ++ path_of ns ps f ∷ []) fs in
    omega arith

pub length-paths_of : (ns : List (List ℕ)) (fs : List FrameKey) → length (paths_of ns fs) ≡ suc (length fs)
length-paths_of ns fs = length-paths_from ns ([] ∷ []) fs ∙ omega arith

-- more keys

pub paths_from-append : (ns : List (List ℕ)) (ps : List Path) (fs gs : List FrameKey) → paths_from ns ps (fs ++ gs) ≡ paths_from ns (paths_from ns ps fs) gs
paths_from-append ns ps [] gs = refl
paths_from-append ns ps (f ∷ fs) gs = paths_from-append ns (ps ++ path_of ns ps f ∷ []) fs gs

pub Keeps-paths_from : (ns : List (List ℕ)) (ps : List Path) (fs : List FrameKey) → Keeps ps (paths_from ns ps fs)
Keeps-paths_from ns ps [] = Keeps-refl ps
Keeps-paths_from ns ps (f ∷ fs) = λ n x h. Keeps-paths_from ns (ps ++ path_of ns ps f ∷ []) fs n x (Keeps-append ps (path_of ns ps f ∷ []) n x h)

AreFrames-append : (n p : ℕ) (fs : List FrameKey) (k : FrameKey) → AreFrames n p fs → k.around < p + length fs → k.name < n → k.module_name < n → AreFrames n p (fs ++ k ∷ [])
AreFrames-append n p [] k h a b c = ((omega arith, b, c), tt)
AreFrames-append n p (f ∷ fs) k h a b c = (h.0, AreFrames-append n (suc p) fs k h.1 (omega arith) b c)

AreSpots-append : (n p : ℕ) (ss : List SpotKey) (k : SpotKey) → AreSpots n p ss → k.path < p → k.name < n → AreSpots n p (ss ++ k ∷ [])
AreSpots-append n p [] k h a b = ((a, b), tt)
AreSpots-append n p (s ∷ ss) k h a b = (h.0, AreSpots-append n p ss k h.1 a b)

-- keys with more names
pub Fits-names : (ns ms : List (List ℕ)) (fs : List FrameKey) (ss : List SpotKey) → Keeps ns ms → AreDistinct ms → Fits ns fs ss → Fits ms fs ss
Fits-names ns ms fs ss k d h =
    let more : length ns ≤ length ms = length-Keeps ns ms k in
    record {
      names_apart = d;
      frames_apart = h.frames_apart;
      frames = AreFrames-more (length ns) (length ms) 1 fs more h.frames;
      spots = AreSpots-more (length ns) (length ms) (suc (length fs)) (suc (length fs)) ss more (omega arith) h.spots;
    }

pub known_of-names : (ns ms : List (List ℕ)) (fs : List FrameKey) (ss : List SpotKey) → Keeps ns ms → Fits ns fs ss → known_of ms fs ss ≡ known_of ns fs ss
known_of-names ns ms fs ss k h =
    let paths : paths_of ms fs ≡ paths_of ns fs = paths_from-names ns ms ([] ∷ []) fs k h.frames in
    let spots : AreSpots (length ns) (length (paths_of ns fs)) ss = rw length-paths_of h.spots in
    let places = places-kept ns ms (paths_of ns fs) (paths_of ns fs) ss k (Keeps-refl (paths_of ns fs)) spots in
    let both : map (place_of ms (paths_of ms fs)) ss ≡ map (place_of ns (paths_of ns fs)) ss = ap (λ ps. map (place_of ms ps) ss) paths ∙ places in
    (λ i. record { paths = paths i; places = both i })

-- keys with one more path
pub Fits-frame : (ns : List (List ℕ)) (fs : List FrameKey) (ss : List SpotKey) (k : FrameKey) → Fits ns fs ss
    → k.around < suc (length fs) → k.name < length ns → k.module_name < length ns → IsDistinct frame_eq (insert_key frame_eq fs k) → Fits ns (insert_key frame_eq fs k) ss
Fits-frame ns fs ss k h a b c = by (list_any (frame_eq k) fs) refl
  where
    by : (t : Bool) → list_any (frame_eq k) fs ≡ t → IsDistinct frame_eq (insert_key frame_eq fs k) → Fits ns (insert_key frame_eq fs k) ss
    by true e d = rw e h
    by false e d =
        let longer : length (fs ++ k ∷ []) ≡ suc (length fs) = length-append fs (k ∷ []) ∙ omega arith in
        let apart : IsDistinct frame_eq (fs ++ k ∷ []) = rw e at d in
        rw e (record {
          names_apart = h.names_apart;
          frames_apart = apart;
          frames = AreFrames-append (length ns) 1 fs k h.frames (omega arith) b c;
          spots = AreSpots-more (length ns) (length ns) (suc (length fs)) (suc (length (fs ++ k ∷ []))) ss (omega arith) (omega arith) h.spots;
        })

-- keys with one more bit
pub Fits-spot : (eq : SpotKey → SpotKey → Bool) (ns : List (List ℕ)) (fs : List FrameKey) (ss : List SpotKey) (k : SpotKey) → Fits ns fs ss
    → k.path < suc (length fs) → k.name < length ns → Fits ns fs (insert_key eq ss k)
Fits-spot eq ns fs ss k h a b = by (list_any (eq k) ss) refl
  where
    by : (t : Bool) → list_any (eq k) ss ≡ t → Fits ns fs (insert_key eq ss k)
    by true e = rw e h
    by false e = rw e (record { names_apart = h.names_apart; frames_apart = h.frames_apart; frames = h.frames; spots = AreSpots-append (length ns) (suc (length fs)) ss k h.spots a b })

Keeps-paths_of : (eq : FrameKey → FrameKey → Bool) (ns : List (List ℕ)) (fs : List FrameKey) (k : FrameKey) → Keeps (paths_of ns fs) (paths_of ns (insert_key eq fs k))
Keeps-paths_of eq ns fs k = by (list_any (eq k) fs) refl
  where
    by : (t : Bool) → list_any (eq k) fs ≡ t → Keeps (paths_of ns fs) (paths_of ns (insert_key eq fs k))
    by true e = rw e (Keeps-refl (paths_of ns fs))
    by false e = rw (e, paths_from-append ns ([] ∷ []) fs (k ∷ [])) (Keeps-paths_from ns (paths_of ns fs) (k ∷ []))

pub Extends-frame : (eq : FrameKey → FrameKey → Bool) (ns : List (List ℕ)) (fs : List FrameKey) (ss : List SpotKey) (k : FrameKey) → Fits ns fs ss
    → Extends (known_of ns fs ss) (known_of ns (insert_key eq fs k) ss)
Extends-frame eq ns fs ss k h =
    let paths = Keeps-paths_of eq ns fs k in
    let spots : AreSpots (length ns) (length (paths_of ns fs)) ss = rw length-paths_of h.spots in
    record {
      paths = paths;
      places = rw (places-kept ns ns (paths_of ns fs) (paths_of ns (insert_key eq fs k)) ss (Keeps-refl ns) paths spots) (Keeps-refl (map (place_of ns (paths_of ns fs)) ss));
    }

pub Extends-spot : (eq : SpotKey → SpotKey → Bool) (ns : List (List ℕ)) (fs : List FrameKey) (ss : List SpotKey) (k : SpotKey)
    → Extends (known_of ns fs ss) (known_of ns fs (insert_key eq ss k))
Extends-spot eq ns fs ss k = record { paths = Keeps-refl (paths_of ns fs); places = by (list_any (eq k) ss) refl }
  where
    by : (t : Bool) → list_any (eq k) ss ≡ t → Keeps (map (place_of ns (paths_of ns fs)) ss) (map (place_of ns (paths_of ns fs)) (insert_key eq ss k))
    by true e = rw e (Keeps-refl (map (place_of ns (paths_of ns fs)) ss))
    by false e = rw (e, map-append (place_of ns (paths_of ns fs)) ss (k ∷ [])) (Keeps-append (map (place_of ns (paths_of ns fs)) ss) (place_of ns (paths_of ns fs) k ∷ []))

slice_get-end : {A : Type 0} (xs : List A) (x : A) → slice_get (xs ++ x ∷ []) (length xs + 0) ≡ Some x
slice_get-end [] x = refl
slice_get-end (y ∷ xs) x =
    let at : length (y ∷ xs) + 0 ≡ suc (length xs + 0) = omega arith in
    rw at (slice_get-end xs x)

-- the path of a key
path-at-from : (ns : List (List ℕ)) (ps : List Path) (fs : List FrameKey) (n at : ℕ) (k : FrameKey) → AreFrames n (length ps) fs → slice_get fs at ≡ Some k
    → slice_get (paths_from ns ps fs) (length ps + at) ≡ Some (path_of ns (paths_from ns ps fs) k)
path-at-from ns ps [] n at k h s = absurd (let none : None ≡ Some k = s in cc)
path-at-from ns ps (f ∷ fs) n zero k h s =
    let same : f ≡ k = cc in
    let end : slice_get (ps ++ path_of ns ps f ∷ []) (length ps + 0) ≡ Some (path_of ns ps f) = slice_get-end ps (path_of ns ps f) in
    let there = Keeps-paths_from ns (ps ++ path_of ns ps f ∷ []) fs (length ps + 0) (path_of ns ps f) end in
    let around : path_at (paths_from ns ps (f ∷ fs)) f.around ≡ path_at ps f.around = get_or-Keeps ps (paths_from ns ps (f ∷ fs)) [] f.around (Keeps-paths_from ns ps (f ∷ fs)) h.0.0 in
    there ∙ (λ i. Some (frame (name_at ns f.name) (name_at ns f.module_name) ∷ sym around i)) ∙ ap (λ (k : FrameKey). Some (frame (name_at ns k.name) (name_at ns k.module_name) ∷ path_at (paths_from ns ps (f ∷ fs)) k.around)) same
path-at-from ns ps (f ∷ fs) n (suc at) k h s =
    let longer : length (ps ++ path_of ns ps f ∷ []) ≡ suc (length ps) = length-append ps (path_of ns ps f ∷ []) ∙ omega arith in
    let there = path-at-from ns (ps ++ path_of ns ps f ∷ []) fs n at k (rw longer h.1) s in
    let place : length (ps ++ path_of ns ps f ∷ []) + at ≡ length ps + suc at = omega arith in
    subst (λ i. slice_get (paths_from ns ps (f ∷ fs)) i ≡ Some (path_of ns (paths_from ns ps (f ∷ fs)) k)) place there

pub path-at : (ns : List (List ℕ)) (fs : List FrameKey) (n at : ℕ) (k : FrameKey) → AreFrames n 1 fs → slice_get fs at ≡ Some k
    → slice_get (paths_of ns fs) (1 + at) ≡ Some (path_of ns (paths_of ns fs) k)
path-at ns fs n at k h s = path-at-from ns ([] ∷ []) fs n at k h s

-- the key stands where it was put
pub spot_there : (ts : List SpotKey) (k : SpotKey) (n : ℕ) → (x : SpotKey) × (slice_get ts n ≡ Some x) × (spot_eq k x ≡ true) → slice_get ts n ≡ Some k
spot_there ts k n s = s.1 ∙ ap Some (sym (same_spot k s.0 s.2))

pub frame_there : (gs : List FrameKey) (k : FrameKey) (n : ℕ) → (x : FrameKey) × (slice_get gs n ≡ Some x) × (frame_eq k x ≡ true) → slice_get gs n ≡ Some k
frame_there gs k n s = s.1 ∙ ap Some (sym (same_frame k s.0 s.2))

-- a number more for a bit
module _ (ns ms : List (List ℕ)) (fs : List FrameKey) (ss ts : List SpotKey) (h : Fits ns fs ss) (keeps : Keeps ns ms) (d : AreDistinct ms) (known : Known) (is : known_of ns fs ss ≡ known) (k : SpotKey) (put : ts ≡ insert_key spot_eq ss k) where
  pub spot_extends : Extends known (known_of ms fs ts)
  spot_extends = rw (put, ← is, ← known_of-names ns ms fs ss keeps h) (Extends-spot spot_eq ms fs ss k)

  pub spot_fits : k.path < length known.paths → k.name < length ms → Fits ms fs ts
  spot_fits inside named =
      let paths : length known.paths ≡ suc (length fs) = sym (ap (λ (x : Known). length x.paths) is) ∙ length-paths_of ns fs in
      rw put (Fits-spot spot_eq ms fs ss k (Fits-names ns ms fs ss keeps d h) (omega arith) named)

  pub spot_stands : (name : List ℕ) (p : Path) (n : ℕ) → slice_get known.paths k.path ≡ Some p → slice_get ms k.name ≡ Some name → slice_get ts n ≡ Some k
      → slice_get (known_of ms fs ts).places n ≡ Some (record { path = p; spot = spot_of name k.address k.at })
  spot_stands name p n path named there =
      let e = spot_extends in
      let around : path_at (paths_of ms fs) k.path ≡ p = get_or_from_slice_get (paths_of ms fs) k.path p [] (e.paths k.path p path) in
      let called : name_at ms k.name ≡ name = get_or_from_slice_get ms k.name name [] named in
      slice_get-map (place_of ms (paths_of ms fs)) ts n ∙ ap (option_map (place_of ms (paths_of ms fs))) there ∙ (λ i. Some (record { path = around i; spot = spot_of (called i) k.address k.at }))

-- a number more for a path
module _ (ns ms : List (List ℕ)) (fs gs : List FrameKey) (ss : List SpotKey) (h : Fits ns fs ss) (keeps : Keeps ns ms) (d : AreDistinct ms) (known : Known) (is : known_of ns fs ss ≡ known) (k : FrameKey) (put : gs ≡ insert_key frame_eq fs k) where
  pub frame_extends : Extends known (known_of ms gs ss)
  frame_extends = rw (put, ← is, ← known_of-names ns ms fs ss keeps h) (Extends-frame frame_eq ms fs ss k (Fits-names ns ms fs ss keeps d h))

  pub frame_fits : k.around < length known.paths → k.name < length ms → k.module_name < length ms → IsDistinct frame_eq gs → Fits ms gs ss
  frame_fits inside named named' apart =
      let paths : length known.paths ≡ suc (length fs) = sym (ap (λ (x : Known). length x.paths) is) ∙ length-paths_of ns fs in
      rw put (Fits-frame ms fs ss k (Fits-names ns ms fs ss keeps d h) (omega arith) named named' (rw put at apart))

  pub frame_stands : Fits ms gs ss → (name id : List ℕ) (p : Path) (n : ℕ) → slice_get known.paths k.around ≡ Some p → slice_get ms k.name ≡ Some name → slice_get ms k.module_name ≡ Some id
      → slice_get gs n ≡ Some k → slice_get (known_of ms gs ss).paths (1 + n) ≡ Some (frame name id ∷ p)
  frame_stands fits name id p n path named named' there =
      let e = frame_extends in
      let around : path_at (paths_of ms gs) k.around ≡ p = get_or_from_slice_get (paths_of ms gs) k.around p [] (e.paths k.around p path) in
      let called : name_at ms k.name ≡ name = get_or_from_slice_get ms k.name name [] named in
      let of : name_at ms k.module_name ≡ id = get_or_from_slice_get ms k.module_name id [] named' in
      path-at ms gs (length ms) n k fits.frames there ∙ (λ i. Some (frame (called i) (of i) ∷ around i))

-- no keys
pub Fits-none : (fs : List FrameKey) (ss : List SpotKey) → length fs ≡ 0 → length ss ≡ 0 → Fits [] fs ss
unfolding IsDistinct
Fits-none [] [] a b = record { names_apart = tt; frames_apart = tt; frames = tt; spots = tt }
Fits-none (f ∷ fs) ss a b = absurd (omega arith)
Fits-none [] (s ∷ ss) a b = absurd (omega arith)
