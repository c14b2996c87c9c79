-- The test of whether two bits of the flat netlist are the same.
use Rattle.std.proofs.Common.{◌≡◌, ◌&&◌, ap}
use Rattle.std.specs.Prelude.{nat_eq}
use Rattle.std.specs.Cmp.Lexicographic.{pointwise, pointwise_decides}
use Rattle.std.specs.Str.{bytes_eq}
use Rattle.std.specs.Bool.{Decides}
use Rattle.std.proofs.lemmas.Slice.Eq.{bytes_eq-Decides}
use Rattle.std.proofs.lemmas.Bool.Decides.{Decides-eqb}
use Rattle.std.proofs.lemmas.Bool.{and_parts, and_from}
use Rattle.rtl_ir.specs.Flat.Place.{Frame, frame_same, Spot, OfWire, OfWord, spot_same, place_same}
use Rattle.net_model.specs.Settle.{IsSame}

frame_same-same : (a b : Frame) → Decides (frame_same a b) (a ≡ b)
frame_same-same a b =
    let n = bytes_eq-Decides a.name b.name in
    let m = bytes_eq-Decides a.module_name b.module_name in (
      λ e. let q = and_parts (bytes_eq a.name b.name) (bytes_eq a.module_name b.module_name) e in
          λ i. record { name = n.0 q.0 i; module_name = m.0 q.1 i },
      λ e. and_from (bytes_eq a.name b.name) (bytes_eq a.module_name b.module_name) (n.1 (ap (λ z. z.name) e)) (m.1 (ap (λ z. z.module_name) e)),
    )

spot_same-same : (a b : Spot) → Decides (spot_same a b) (a ≡ b)
spot_same-same (OfWire a i) (OfWire b j) =
    let n = bytes_eq-Decides a b in
    let k = Decides-eqb i j in (
      λ e. let q = and_parts (bytes_eq a b) (nat_eq i j) e in λ l. OfWire (n.0 q.0 l) (k.0 q.1 l),
      λ e. and_from (bytes_eq a b) (nat_eq i j) (n.1 (cc)) (k.1 (cc)),
    )
spot_same-same (OfWord a x i) (OfWord b y j) =
    let n = bytes_eq-Decides a b in
    let m = Decides-eqb x y in
    let k = Decides-eqb i j in (
      λ e. let q = and_parts (bytes_eq a b) (nat_eq x y && nat_eq i j) e in
          let r = and_parts (nat_eq x y) (nat_eq i j) q.1 in
          λ l. OfWord (n.0 q.0 l) (m.0 r.0 l) (k.0 r.1 l),
      λ e. and_from (bytes_eq a b) (nat_eq x y && nat_eq i j) (n.1 (cc)) (and_from (nat_eq x y) (nat_eq i j) (m.1 (cc)) (k.1 (cc))),
    )
spot_same-same (OfWire a i) (OfWord b y j) = (λ e. absurd (cc), λ e. absurd (cc))
spot_same-same (OfWord a x i) (OfWire b j) = (λ e. absurd (cc), λ e. absurd (cc))

pub place_same-same : IsSame place_same
place_same-same a b =
    let s = pointwise_decides frame_same-same a.path b.path in
    let n = spot_same-same a.spot b.spot in (
      λ e. let q = and_parts (pointwise frame_same a.path b.path) (spot_same a.spot b.spot) e in
          λ i. record { path = s.0 q.0 i; spot = n.0 q.1 i },
      λ e. and_from (pointwise frame_same a.path b.path) (spot_same a.spot b.spot) (s.1 (ap (λ z. z.path) e)) (n.1 (ap (λ z. z.spot) e)),
    )
