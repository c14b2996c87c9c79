-- No path and no bit has two numbers.
use Rattle.std.proofs.Common.{◌≡◌, ℕ, zero, suc, ◌+◌, ◌<◌, Bool, true, false, List, [], ◌∷◌, length, Option, Some, None, slice_get, refl, sym, ◌∙◌, ap, subst, arith, map, eqb, true≢false, option_map}
use Rattle.std.proofs.lemmas.List.{length-map}
use Rattle.std.specs.List.{AllByRecursion, IsDistinct}
use Rattle.std.specs.Option.{option_eq}
use Rattle.std.specs.Str.{bytes_eq}
use Rattle.std.proofs.lemmas.Slice.Eq.{bytes_eq-Decides}
use Rattle.std.proofs.lemmas.Bool.{eq-eqb}
use Rattle.std.proofs.lemmas.Option.{slice_get-get_or, get_or_from_slice_get, slice_get-map}
use Rattle.rtl_sig.specs.Names.{AreDistinct}
use Rattle.rtl_ir.specs.Flat.Place.{Path, Place, Spot, OfWire, OfWord, Frame, frame}
use Rattle.flat_net.specs.declared.places.FrameKey.{FrameKey}
use Rattle.flat_net.specs.declared.places.SpotKey.{SpotKey}
use Rattle.flat_net.specs.Keys.{spot_of, name_at, path_at, path_of, paths_of, place_of, AreFrames, AreSpots, Fits, frame_eq}
use Rattle.flat_net.specs.Points.{place_at, AreApart}
use Rattle.flat_net.proofs.Keys.{spot_eq, path-at, Keeps-paths_from}

-- what stands at two numbers is not taken for one
module _ {K : Type 0} (eq : K → K → Bool) (same : (k : K) → eq k k ≡ true) where
  differs : (k : K) (ks : List K) (i : ℕ) → AllByRecursion (λ y. eq k y ≡ false) ks → slice_get ks i ≡ Some k → ⊥
  differs k [] i h s = cc
  differs k (x ∷ ks) zero h s = let is : x ≡ k = cc in true≢false (sym (same k) ∙ subst (λ y. eq k y ≡ false) is h.0)
  differs k (x ∷ ks) (suc i) h s = differs k ks i h.1 s

  pub one_number : (ks : List K) → IsDistinct eq ks → (i j : ℕ) (k : K) → slice_get ks i ≡ Some k → slice_get ks j ≡ Some k → i ≡ j
  unfolding IsDistinct
  one_number [] d i j k s t = absurd (let none : None ≡ Some k = s in cc)
  one_number (x ∷ ks) d zero zero k s t = refl
  one_number (x ∷ ks) d zero (suc j) k s t = let is : x ≡ k = cc in absurd (differs k ks j (subst (λ y. AllByRecursion (λ z. eq y z ≡ false) ks) is d.0) t)
  one_number (x ∷ ks) d (suc i) zero k s t = let is : x ≡ k = cc in absurd (differs k ks i (subst (λ y. AllByRecursion (λ z. eq y z ≡ false) ks) is d.0) s)
  one_number (x ∷ ks) d (suc i) (suc j) k s t = ap suc (one_number ks d.1 i j k s t)

eqb-self : (n : ℕ) → eqb n n ≡ true
eqb-self n = eq-eqb n n refl

address_same : (a : Option ℕ) → option_eq eqb a a ≡ true
address_same None = refl
address_same (Some x) = eqb-self x

spot_same : (k : SpotKey) → spot_eq k k ≡ true
spot_same k = rw (eqb-self k.path, eqb-self k.name, address_same k.address, eqb-self k.at) refl

frame_same : (k : FrameKey) → frame_eq k k ≡ true
frame_same k = rw (eqb-self k.around, eqb-self k.name, eqb-self k.module_name) refl

-- two numbers of one name are one
one_name : (ns : List (List ℕ)) → AreDistinct ns → (i j : ℕ) → i < length ns → j < length ns → name_at ns i ≡ name_at ns j → i ≡ j
one_name ns d i j a b e =
    one_number bytes_eq (λ n. (bytes_eq-Decides n n).1 refl) ns d i j (name_at ns i) (slice_get-get_or ns i [] a) (slice_get-get_or ns j [] b ∙ ap Some (sym e))

-- the parts of a path with an instance
path_parts : (name id : List ℕ) (around : Path) (q : Frame) (p : Path) → frame name id ∷ around ≡ q ∷ p → (name ≡ q.name) × (id ≡ q.module_name) × (around ≡ p)
path_parts name id around q p h =
    let here : frame name id ≡ q = cc in
    (ap (λ (f : Frame). f.name) here, ap (λ (f : Frame). f.module_name) here, cc)

abbrev name_in : Spot → List ℕ
name_in (OfWire name at) = name
name_in (OfWord name address at) = name

abbrev address_in : Spot → Option ℕ
address_in (OfWire name at) = None
address_in (OfWord name address at) = Some address

abbrev at_in : Spot → ℕ
at_in (OfWire name at) = at
at_in (OfWord name address at) = at

-- the parts of the spot of a key
name_is : (name : List ℕ) (address : Option ℕ) (at : ℕ) → name_in (spot_of name address at) ≡ name
name_is name None at = refl
name_is name (Some address) at = refl

address_is : (name : List ℕ) (address : Option ℕ) (at : ℕ) → address_in (spot_of name address at) ≡ address
address_is name None at = refl
address_is name (Some address) at = refl

at_is : (name : List ℕ) (address : Option ℕ) (at : ℕ) → at_in (spot_of name address at) ≡ at
at_is name None at = refl
at_is name (Some address) at = refl

-- the frame at a place
frame_in : (n p : ℕ) (fs : List FrameKey) (at : ℕ) (k : FrameKey) → AreFrames n p fs → slice_get fs at ≡ Some k → (k.around < p + length fs) × (k.name < n) × (k.module_name < n)
frame_in n p [] at k h s = absurd (let none : None ≡ Some k = s in cc)
frame_in n p (f ∷ fs) zero k h s = let is : f ≡ k = cc in subst (λ (k : FrameKey). (k.around < p + length (f ∷ fs)) × (k.name < n) × (k.module_name < n)) is (omega arith, h.0.1, h.0.2)
frame_in n p (f ∷ fs) (suc at) k h s = let r = frame_in n (suc p) fs at k h.1 s in (omega arith, r.1, r.2)

spot_in : (n p : ℕ) (ss : List SpotKey) (at : ℕ) (k : SpotKey) → AreSpots n p ss → slice_get ss at ≡ Some k → (k.path < p) × (k.name < n)
spot_in n p [] at k h s = absurd (let none : None ≡ Some k = s in cc)
spot_in n p (f ∷ ss) zero k h s = let is : f ≡ k = cc in subst (λ (k : SpotKey). (k.path < p) × (k.name < n)) is h.0
spot_in n p (f ∷ ss) (suc at) k h s = spot_in n p ss at k h.1 s

pub at_least : {A : Type 0} (xs : List A) (at : ℕ) → at < length xs → (x : A) × (slice_get xs at ≡ Some x)
at_least [] at h = absurd (omega arith)
at_least (x ∷ xs) zero h = (x, refl)
at_least (x ∷ xs) (suc at) h = at_least xs at (omega arith)

module _ (ns : List (List ℕ)) (fs : List FrameKey) (ss : List SpotKey) (h : Fits ns fs ss) where
  path_is : (at : ℕ) (k : FrameKey) → slice_get fs at ≡ Some k → path_at (paths_of ns fs) (suc at) ≡ path_of ns (paths_of ns fs) k
  path_is at k s =
      let next : 1 + at ≡ suc at = omega arith in
      subst (λ n. path_at (paths_of ns fs) n ≡ path_of ns (paths_of ns fs) k) next (get_or_from_slice_get (paths_of ns fs) (1 + at) _ [] (path-at ns fs (length ns) at k h.frames s))

  no_path : path_at (paths_of ns fs) 0 ≡ []
  no_path = get_or_from_slice_get (paths_of ns fs) 0 [] [] (Keeps-paths_from ns ([] ∷ []) fs 0 [] refl)

  -- two numbers of one path are one
  one_path : (p : Path) (i j : ℕ) → i < suc (length fs) → j < suc (length fs) → path_at (paths_of ns fs) i ≡ p → path_at (paths_of ns fs) j ≡ p → i ≡ j
  one_path p zero zero a b e f = refl
  one_path p zero (suc j) a b e f = absurd (let k = at_least fs j (omega arith) in let l = path_is j k.0 k.1 in let m = no_path in cc)
  one_path p (suc i) zero a b e f = absurd (let k = at_least fs i (omega arith) in let l = path_is i k.0 k.1 in let m = no_path in cc)
  one_path [] (suc i) (suc j) a b e f = absurd (let k = at_least fs i (omega arith) in let l = path_is i k.0 k.1 in cc)
  one_path (q ∷ p) (suc i) (suc j) a b e f =
      let k = at_least fs i (omega arith) in
      let l = at_least fs j (omega arith) in
      let this = path_parts _ _ _ q p (sym (path_is i k.0 k.1) ∙ e) in
      let that = path_parts _ _ _ q p (sym (path_is j l.0 l.1) ∙ f) in
      let this_in = frame_in (length ns) 1 fs i k.0 h.frames k.1 in
      let that_in = frame_in (length ns) 1 fs j l.0 h.frames l.1 in
      let names : name_at ns k.0.name ≡ name_at ns l.0.name = this.0 ∙ sym that.0 in
      let ids : name_at ns k.0.module_name ≡ name_at ns l.0.module_name = this.1 ∙ sym that.1 in
      let around : k.0.around ≡ l.0.around = one_path p k.0.around l.0.around (omega arith) (omega arith) this.2 that.2 in
      let name : k.0.name ≡ l.0.name = one_name ns h.names_apart _ _ this_in.1 that_in.1 names in
      let id : k.0.module_name ≡ l.0.module_name = one_name ns h.names_apart _ _ this_in.2 that_in.2 ids in
      let keys : k.0 ≡ l.0 = (λ x. record { around = around x; name = name x; module_name = id x }) in
      ap suc (one_number frame_eq frame_same fs h.frames_apart i j k.0 k.1 (l.1 ∙ ap Some (sym keys)))

  place_is : (at : ℕ) (k : SpotKey) → slice_get ss at ≡ Some k → place_at (map (place_of ns (paths_of ns fs)) ss) at ≡ place_of ns (paths_of ns fs) k
  place_is at k s =
      get_or_from_slice_get (map (place_of ns (paths_of ns fs)) ss) at _ _ (slice_get-map (place_of ns (paths_of ns fs)) ss at ∙ ap (option_map (place_of ns (paths_of ns fs))) s)

  -- two numbers of one bit are one
  pub spots_apart : IsDistinct spot_eq ss → AreApart (map (place_of ns (paths_of ns fs)) ss)
  spots_apart d i j a b e =
      let k = at_least ss i (rw length-map at a) in
      let l = at_least ss j (rw length-map at b) in
      let this_in = spot_in (length ns) (suc (length fs)) ss i k.0 h.spots k.1 in
      let that_in = spot_in (length ns) (suc (length fs)) ss j l.0 h.spots l.1 in
      let this : place_at (map (place_of ns (paths_of ns fs)) ss) i ≡ place_of ns (paths_of ns fs) k.0 = place_is i k.0 k.1 in
      let that : place_at (map (place_of ns (paths_of ns fs)) ss) j ≡ place_of ns (paths_of ns fs) l.0 = place_is j l.0 l.1 in
      let places : place_of ns (paths_of ns fs) k.0 ≡ place_of ns (paths_of ns fs) l.0 = sym this ∙ e ∙ that in
      let path : k.0.path ≡ l.0.path = one_path (path_at (paths_of ns fs) k.0.path) k.0.path l.0.path this_in.0 that_in.0 refl (sym (ap (λ (q : Place). q.path) places)) in
      let spots : spot_of (name_at ns k.0.name) k.0.address k.0.at ≡ spot_of (name_at ns l.0.name) l.0.address l.0.at = ap (λ (q : Place). q.spot) places in
      let names : name_at ns k.0.name ≡ name_at ns l.0.name = sym (name_is _ k.0.address k.0.at) ∙ ap name_in spots ∙ name_is _ l.0.address l.0.at in
      let name : k.0.name ≡ l.0.name = one_name ns h.names_apart _ _ this_in.1 that_in.1 names in
      let address : k.0.address ≡ l.0.address = sym (address_is _ k.0.address k.0.at) ∙ ap address_in spots ∙ address_is _ l.0.address l.0.at in
      let at : k.0.at ≡ l.0.at = sym (at_is _ k.0.address k.0.at) ∙ ap at_in spots ∙ at_is _ l.0.address l.0.at in
      let keys : k.0 ≡ l.0 = (λ x. record { path = path x; name = name x; address = address x; at = at x }) in
      one_number spot_eq spot_same ss d i j k.0 k.1 (l.1 ∙ ap Some (sym keys))
