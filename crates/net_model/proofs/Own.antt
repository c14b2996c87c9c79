-- Rows of a module that have its own bits and read its own bits alone: those of all but instances.
use Rattle.std.proofs.Common.{◌≡◌, ◌+◌, ◌<◌, ℕ, zero, suc, Bool, true, false, List, [], ◌∷◌, ◌++◌, inl, inr, ⊎_elim, refl, sym, ap, subst, arith}
use Rattle.std.specs.Prelude.{map, flat_map, if◌then◌else◌}
use Rattle.rtl_sig.specs.declared.sig.SigBit.{SigBit}
use Rattle.rtl_sig.specs.declared.sig.SigBit.TheVariants.{Fixed, Wire as OnWire}
use Rattle.rtl_ir.specs.declared.ports.PortLine.{PortLine}
use Rattle.rtl_ir.specs.declared.wire.Wire.{Wire}
use Rattle.rtl_ir.specs.Flat.Driver.{Driven}
use Rattle.rtl_ir.specs.Flat.Place.{OfWire, Path, Place}
use Rattle.rtl_ir.specs.Flat.Point.{Point, Constant, At, point, points, point_at, wire_points}
use Rattle.rtl_ir.specs.Flat.Reads.{read_points}
use Rattle.rtl_ir.specs.Flat.Tree.{places}
use Rattle.net_model.specs.Lists.{In}
use Rattle.net_model.specs.Relate.{IsBitOf}
use Rattle.net_model.proofs.Members.{In-cases, In-mapped}

-- a point is a constant or one of the module's own bits
abbrev pub IsOwn : Path → Point → Type 0
IsOwn p (Constant b) = Unit {0}
IsOwn p (At q) = q.path ≡ p

-- each of them is
abbrev pub AreOwn : Path → List Point → Type 0
AreOwn p [] = Unit {0}
AreOwn p (s ∷ ps) = IsOwn p s × AreOwn p ps

-- a row has the module's own bit, and reads own bits alone
pub record IsOwnRow (p : Path) (x : Driven) : Type 0 where
  pub place : x.place.path ≡ p
  pub read : AreOwn p (read_points x.driver)

abbrev pub AreOwnRows : Path → List Driven → Type 0
AreOwnRows p xs = (x : Driven) → In x xs → IsOwnRow p x

module _ (p : Path) where
  pub own_places : (ps : List Point) → AreOwn p ps → (q : Place) → In q (places ps) → q.path ≡ p
  own_places [] h q i = absurd i
  own_places (Constant b ∷ ps) h q i = own_places ps h.1 q i
  own_places (At r ∷ ps) h q (inl e) = subst (λ z. z.path ≡ p) (sym e) h.0
  own_places (At r ∷ ps) h q (inr i) = own_places ps h.1 q i

  pub own_at : (ps : List Point) → AreOwn p ps → (at : ℕ) → IsOwn p (point_at ps at)
  own_at [] h at = tt
  own_at (s ∷ ps) h zero = h.0
  own_at (s ∷ ps) h (suc at) = own_at ps h.1 at

  pub own_append : (ps qs : List Point) → AreOwn p ps → AreOwn p qs → AreOwn p (ps ++ qs)
  own_append [] qs h i = i
  own_append (s ∷ ps) qs h i = (h.0, own_append ps qs h.1 i)

  pub own_point : (wires : List Wire) (s : SigBit) → IsOwn p (point p wires s)
  own_point wires (Fixed b) = tt
  own_point wires (OnWire b) = refl

  pub own_points : (wires : List Wire) (ss : List SigBit) → AreOwn p (points p wires ss)
  own_points wires [] = tt
  own_points wires (s ∷ ss) = (own_point wires s, own_points wires ss)

  pub own_patterns : (wires : List Wire) (sss : List (List SigBit)) → AreOwn p (flat_map (λ z. z) (map (points p wires) sss))
  own_patterns wires [] = tt
  own_patterns wires (ss ∷ sss) = own_append (points p wires ss) _ (own_points wires ss) (own_patterns wires sss)

  -- lists of rows
  pub own_both : (xs ys : List Driven) → AreOwnRows p xs → AreOwnRows p ys → AreOwnRows p (xs ++ ys)
  own_both xs ys h i x j = ⊎_elim (λ l. h x l) (λ r. i x r) (In-cases x xs ys j)

  pub own_map : {A : Type 0} (f : A → Driven) → ((a : A) → IsOwnRow p (f a)) → (as' : List A) → AreOwnRows p (map f as')
  own_map f h as' x i = let m = In-mapped f x as' i in subst (IsOwnRow p) (sym m.2) (h m.0)

  pub own_flat_map : {A : Type 0} (f : A → List Driven) → ((a : A) → AreOwnRows p (f a)) → (as' : List A) → AreOwnRows p (flat_map f as')
  own_flat_map f h [] = λ x i. absurd i
  own_flat_map f h (a ∷ as') = own_both (f a) (flat_map f as') (h a) (own_flat_map f h as')

  pub own_if : (t : Bool) (xs ys : List Driven) → AreOwnRows p xs → AreOwnRows p ys → AreOwnRows p (if t then xs else ys)
  own_if true xs ys h i = h
  own_if false xs ys h i = i

-- the bits of a wire, from this one on, so many
pub wire_own : (p : Path) (name : List ℕ) (at n : ℕ) (q : Place) → In q (places (wire_points p name at n)) → (q.path ≡ p) × ((k : ℕ) × (k < at + n) × (q.spot ≡ OfWire name k))
wire_own p name at zero q i = absurd i
wire_own p name at (suc n) q (inl e) = (ap (λ z. z.path) e, (at, omega arith, ap (λ z. z.spot) e))
wire_own p name at (suc n) q (inr i) =
    let later = wire_own p name (suc at) n q i in
    (later.0, (later.1.0, omega (arith, later.1.1), later.1.2))

-- the bits of a port
pub port_own : (p : Path) (n : PortLine) (q : Place) → In q (places (wire_points p n.name 0 n.width)) → (q.path ≡ p) × IsBitOf n q.spot
port_own p n q i =
    let own = wire_own p n.name 0 n.width q i in
    (own.0, (own.1.0, omega (arith, own.1.1), own.1.2))
