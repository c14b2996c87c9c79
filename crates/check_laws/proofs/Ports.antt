-- The bits of the input ports of a module: each stands once.
use Rattle.std.proofs.Common.{◌≡◌, ℕ, zero, suc, ◌≤◌, List, [], ◌∷◌, ◌++◌, inl, inr, refl, sym, ◌∙◌, ap, subst, arith}
use Rattle.std.specs.Prelude.{map}
use Rattle.rtl_ir.specs.declared.ports.PortLine.{PortLine}
use Rattle.rtl_ir.specs.declared.wire.Role.{Role}
use Rattle.rtl_ir.specs.declared.wire.Role.TheVariants.{Inner, Input, Output, Inout}
use Rattle.rtl_ir.specs.Flat.Place.{Path, Place, OfWire, wire_place}
use Rattle.rtl_ir.specs.Flat.Point.{Point, Constant, At, wire_points}
use Rattle.rtl_ir.specs.Flat.Tree.{if_role, role_points, places}
use Rattle.net_model.specs.Lists.{In, Distinct}
use Rattle.net_model.proofs.Members.{In-map, apart_at, apart_from}
use Rattle.net_model.proofs.Relating.{role_is}
use Rattle.check_laws.proofs.Parts.{apart_join}

pub places-join : (xs ys : List Point) → places (xs ++ ys) ≡ places xs ++ places ys
places-join [] ys = refl
places-join (Constant b ∷ xs) ys = places-join xs ys
places-join (At q ∷ xs) ys = ap (λ z. q ∷ z) (places-join xs ys)

-- a bit of a wire from a place on
pub record FromPlace (p : Path) (name : List ℕ) (from : ℕ) (q : Place) : Type 0 where
  pub at : ℕ
  pub order : from ≤ at
  pub is : q ≡ wire_place p name at

wire_from : (p : Path) (name : List ℕ) (from n : ℕ) (q : Place) → In q (places (wire_points p name from n)) → FromPlace p name from q
wire_from p name from zero q i = absurd i
wire_from p name from (suc n) q (inl e) = record { at = from; order = omega arith; is = e }
wire_from p name from (suc n) q (inr i) =
    let k = wire_from p name (suc from) n q i in
    let l = k.order in
    record { at = k.at; order = omega (arith, l); is = k.is }

pub wire_once : (p : Path) (name : List ℕ) (from n : ℕ) → Distinct (places (wire_points p name from n))
wire_once p name from zero = tt
wire_once p name from (suc n) = (
  apart_from (wire_place p name from) (places (wire_points p name (suc from) n)) (λ q i e.
      let k = wire_from p name (suc from) n q i in
      let l = k.order in
      let both : OfWire name from ≡ OfWire name k.at = ap (λ (z : Place). z.spot) (e ∙ k.is) in
      let same : from ≡ k.at = cc in
      absurd (omega (arith, l, same))),
  wire_once p name (suc from) n,
)

pub role_once : (p : Path) (ns : List PortLine) → Distinct (map (λ (n : PortLine). n.name) ns) → Distinct (places (role_points Input p ns))
role_once p [] u = tt
role_once p (n ∷ ns) u =
    subst Distinct (sym (places-join (if_role Input n.role (wire_points p n.name 0 n.width)) (role_points Input p ns)))
    (apart_join (places (if_role Input n.role (wire_points p n.name 0 n.width))) (places (role_points Input p ns)) (record {
      first = one n.role;
      second = role_once p ns u.1;
      both = λ q i j.
          let k = role_is Input p ns q j in
          let f = named n.role q i in
          let both : OfWire n.name f.at ≡ OfWire k.0.name k.3.0 = sym (ap (λ (z : Place). z.spot) f.is) ∙ k.3.2 in
          let same : n.name ≡ k.0.name = cc in
          apart_at n.name (map (λ (z : PortLine). z.name) ns) u.0 k.0.name (In-map (λ (z : PortLine). z.name) k.0 ns k.1) same;
    }))
  where
    one : (r : Role) → Distinct (places (if_role Input r (wire_points p n.name 0 n.width)))
    one Inner = tt
    one Input = wire_once p n.name 0 n.width
    one Output = tt
    one Inout = tt

    named : (r : Role) (q : Place) → In q (places (if_role Input r (wire_points p n.name 0 n.width))) → FromPlace p n.name 0 q
    named Inner q i = absurd i
    named Input q i = wire_from p n.name 0 n.width q i
    named Output q i = absurd i
    named Inout q i = absurd i
