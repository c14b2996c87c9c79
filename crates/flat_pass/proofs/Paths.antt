-- Where bits go when an instance melts into its module: its own bits to those of their copies, and all below it under the names of
-- the copies of its instances.
use Rattle.std.proofs.Common.{◌≡◌, ℕ, Bool, true, false, cond, ◌&&◌, ◌||◌, List, [], ◌∷◌, refl, ◌∙◌, ap, true≢false}
use Rattle.std.specs.Str.{bytes_eq}
use Rattle.std.proofs.lemmas.Slice.Eq.{bytes_eq-Decides}
use Rattle.rtl_ir.specs.Flat.Place.{Frame, frame, Path, Place, Spot, OfWire, OfWord, frame_same}
use Rattle.net_model.specs.Relate.{OwnerIs}
use Rattle.flat_pass.specs.Copies.{renamed}
use Rattle.flat_pass.proofs.Moving.{Move}

-- an instance that melts into the module of a name: the names of what its module has, and those of the copies
pub record Melt : Type 0 where
  pub id : List ℕ
  pub instance : Frame
  pub wires : List (List ℕ)
  pub wire_copies : List (List ℕ)
  pub stores : List (List ℕ)
  pub store_copies : List (List ℕ)
  pub cells : List (List ℕ)
  pub cell_copies : List (List ℕ)

module _ (m : Melt) where
  -- the innermost instance of a path is of the module
  abbrev pub is_of : Path → Bool
  is_of [] = false
  is_of (g ∷ p) = bytes_eq g.module_name m.id

  -- it is the one that melts
  abbrev pub is_inside : Path → Bool
  is_inside [] = false
  is_inside (g ∷ p) = frame_same g m.instance && is_of p

  -- some instance of the path is
  abbrev pub is_beneath : Path → Bool
  is_beneath [] = false
  is_beneath (g ∷ p) = is_inside (g ∷ p) || is_beneath p

  abbrev pub copied_frame : Frame → Frame
  copied_frame g = frame (renamed m.cells m.cell_copies g.name) g.module_name

  abbrev pub copied_spot : Spot → Spot
  copied_spot (OfWire name at) = OfWire (renamed m.wires m.wire_copies name) at
  copied_spot (OfWord name address at) = OfWord (renamed m.stores m.store_copies name) address at

  -- an instance that melts is left out, and those in it go under the names of their copies
  abbrev pub go_path : Path → Path
  go_path [] = []
  go_path (g ∷ p) = cond (is_inside (g ∷ p)) (go_path p) (cond (is_inside p) (copied_frame g) g ∷ go_path p)

  abbrev pub go : Move
  go q = record { path = go_path q.path; spot = cond (is_inside q.path) (copied_spot q.spot) q.spot }

  pub of_owner : (p : Path) → OwnerIs m.id p → is_of p ≡ true
  of_owner [] o = absurd o
  of_owner (g ∷ p) o = (bytes_eq-Decides g.module_name m.id).1 o

  pub not_owner : (p : Path) → (OwnerIs m.id p → ⊥) → is_of p ≡ false
  not_owner [] n = refl
  not_owner (g ∷ p) n = by (bytes_eq g.module_name m.id) refl
    where
      by : (b : Bool) → bytes_eq g.module_name m.id ≡ b → b ≡ false
      by true e = absurd (n ((bytes_eq-Decides g.module_name m.id).0 e))
      by false e = refl

  -- in an instance of another module nothing melts
  pub outside : (g : Frame) (p : Path) → is_of p ≡ false → is_inside (g ∷ p) ≡ false
  outside g p e = by (frame_same g m.instance) (is_of p) e
    where
      by : (a b : Bool) → b ≡ false → (a && b) ≡ false
      by true b e = e
      by false b e = refl

  -- nor does another instance
  pub other : (g : Frame) (p : Path) → frame_same g m.instance ≡ false → is_inside (g ∷ p) ≡ false
  other g p e = ap (λ b. b && is_of p) e

  -- the instance that melts
  pub inside : (p : Path) → is_of p ≡ true → is_inside (m.instance ∷ p) ≡ true
  inside p e =
      λ i. ((bytes_eq-Decides m.instance.name m.instance.name).1 refl i && (bytes_eq-Decides m.instance.module_name m.instance.module_name).1 refl i) && e i

  pub path_inside : (p : Path) → is_of p ≡ true → go_path (m.instance ∷ p) ≡ go_path p
  path_inside p e = ap (λ b. cond b (go_path p) (cond (is_inside p) (copied_frame m.instance) m.instance ∷ go_path p)) (inside p e)

  -- a path that goes on outside
  pub path_outside : (g : Frame) (p : Path) → is_inside (g ∷ p) ≡ false → is_inside p ≡ false → go_path (g ∷ p) ≡ g ∷ go_path p
  path_outside g p e f =
      ap (λ b. cond b (go_path p) (cond (is_inside p) (copied_frame g) g ∷ go_path p)) e ∙ ap (λ b. cond b (copied_frame g) g ∷ go_path p) f

  -- one that goes on from what melts
  pub path_below : (g : Frame) (p : Path) → is_of p ≡ true → is_of (m.instance ∷ p) ≡ false → go_path (g ∷ m.instance ∷ p) ≡ copied_frame g ∷ go_path p
  path_below g p e n =
      ap (λ b. cond b (go_path (m.instance ∷ p)) (cond (is_inside (m.instance ∷ p)) (copied_frame g) g ∷ go_path (m.instance ∷ p))) (outside g (m.instance ∷ p) n)
      ∙ (λ i. cond (inside p e i) (copied_frame g) g ∷ path_inside p e i)

  -- bits outside stay in their module
  pub go_outside : (p : Path) (s : Spot) → is_inside p ≡ false → go (record { path = p; spot = s }) ≡ record { path = go_path p; spot = s }
  go_outside p s e = ap (λ b. record { path = go_path p; spot = cond b (copied_spot s) s }) e

  -- bits of the instance that melts become those of copies
  pub go_inside : (p : Path) (s : Spot) → is_of p ≡ true → go (record { path = m.instance ∷ p; spot = s }) ≡ record { path = go_path p; spot = copied_spot s }
  go_inside p s e = λ i. record { path = path_inside p e i; spot = cond (inside p e i) (copied_spot s) s }

  inside_above : (g : Frame) (p : Path) → is_beneath (g ∷ p) ≡ false → (is_inside (g ∷ p) ≡ false) × (is_beneath p ≡ false)
  inside_above g p e = by (is_inside (g ∷ p)) (is_beneath p) e
    where
      by : (a b : Bool) → (a || b) ≡ false → (a ≡ false) × (b ≡ false)
      by true b f = absurd (true≢false f)
      by false b f = (refl, f)

  -- paths above what melts stay
  pub not_inside : (p : Path) → is_beneath p ≡ false → is_inside p ≡ false
  not_inside [] e = refl
  not_inside (g ∷ p) e = (inside_above g p e).0

  pub path_stays : (p : Path) → is_beneath p ≡ false → go_path p ≡ p
  path_stays [] e = refl
  path_stays (g ∷ p) e =
      let k = inside_above g p e in
      path_outside g p k.0 (not_inside p k.1) ∙ ap (λ z. g ∷ z) (path_stays p k.1)

  pub place_stays : (q : Place) → is_beneath q.path ≡ false → go q ≡ q
  place_stays q e = go_outside q.path q.spot (not_inside q.path e) ∙ (λ i. record { path = path_stays q.path e i; spot = q.spot })
