-- The bits of a module and the places where they stand.
use Rattle.std.proofs.Common.{◌≡◌, ℕ, zero, suc, ◌<◌, List, [], ◌∷◌, Option, Some, None, IsSomeAnd, inl, inr, refl, sym, ◌∙◌, ap}
use Rattle.std.specs.Prelude.{map, slice_get}
use Rattle.rtl_sig.specs.declared.sig.SigBit.{SigBit}
use Rattle.rtl_sig.specs.declared.sig.SigBit.TheVariants.{Fixed, Wire as OnWire}
use Rattle.rtl_sig.specs.declared.sig.WireBit.{WireBit}
use Rattle.rtl_ir.specs.declared.wire.Wire.{Wire}
use Rattle.rtl_ir.specs.Flat.Place.{Path, Place, OfWire}
use Rattle.rtl_ir.specs.Flat.Point.{name_or_empty, bit_place, points}
use Rattle.rtl_ir.specs.Flat.Tree.{places}
use Rattle.rtl_ir.specs.Signals.{wire_bits}
use Rattle.net_model.specs.Lists.{In, Distinct}
use Rattle.net_model.proofs.Members.{In-map, apart_at}
use Rattle.check_laws.specs.Sound.{HasBit}

pub slice_in : {A : Type 0} (xs : List A) (i : ℕ) (x : A) → slice_get xs i ≡ Some x → In x xs
slice_in [] i x e = absurd (cc)
slice_in (y ∷ ys) zero x e = let same : x ≡ y = cc in inl same
slice_in (y ∷ ys) (suc i) x e = inr (slice_in ys i x e)

-- where f tells all items apart, it tells their places
pub same_at : {A B : Type 0} (f : A → B) (xs : List A) → Distinct (map f xs) → (i j : ℕ) (x y : A) → slice_get xs i ≡ Some x → slice_get xs j ≡ Some y → f x ≡ f y → i ≡ j
same_at f [] u i j x y p q e = absurd (cc)
same_at f (z ∷ zs) u zero zero x y p q e = refl
same_at f (z ∷ zs) u zero (suc j) x y p q e =
    let same : z ≡ x = cc in
    absurd (apart_at (f z) (map f zs) u.0 (f y) (In-map f y zs (slice_in zs j y q)) (ap f same ∙ e))
same_at f (z ∷ zs) u (suc i) zero x y p q e =
    let same : z ≡ y = cc in
    absurd (apart_at (f z) (map f zs) u.0 (f x) (In-map f x zs (slice_in zs i x p)) (ap f same ∙ sym e))
same_at f (z ∷ zs) u (suc i) (suc j) x y p q e = ap suc (same_at f zs u.1 i j x y p q e)

-- the wire of a bit
pub record Found (wires : List Wire) (b : WireBit) : Type 0 where
  pub wire : Wire
  pub is : slice_get wires b.wire ≡ Some wire
  pub inside : b.at < wire.width

pub found : (wires : List Wire) (b : WireBit) → HasBit wires b → Found wires b
found wires b h = by (slice_get wires b.wire) refl h
  where
    by : (o : Option Wire) → slice_get wires b.wire ≡ o → IsSomeAnd o (λ w. b.at < w.width) → Found wires b
    by None e k = absurd k
    by (Some w) e k = record { wire = w; is = e; inside = k }

pub place_name : (p : Path) (wires : List Wire) (b : WireBit) (f : Found wires b) (q : Place) (name : List ℕ) (at : ℕ) → q ≡ bit_place p wires b → q.spot ≡ OfWire name at → f.wire.name ≡ name
place_name p wires b f q name at e s =
    let n : name_or_empty (slice_get wires b.wire) ≡ f.wire.name = ap name_or_empty f.is in
    let both : OfWire (name_or_empty (slice_get wires b.wire)) b.at ≡ OfWire name at = sym (ap (λ z. z.spot) e) ∙ s in
    let same : name_or_empty (slice_get wires b.wire) ≡ name = cc in
    sym n ∙ same

-- no two bits stand at one place, where no two wires have one name
pub one_place : (p : Path) (wires : List Wire) → Distinct (map (λ (w : Wire). w.name) wires) → (b c : WireBit) → HasBit wires b → HasBit wires c → bit_place p wires b ≡ bit_place p wires c → b ≡ c
one_place p wires u b c h k e =
    let f = found wires b h in
    let g = found wires c k in
    let spots : OfWire (name_or_empty (slice_get wires b.wire)) b.at ≡ OfWire (name_or_empty (slice_get wires c.wire)) c.at = ap (λ z. z.spot) e in
    let ats : b.at ≡ c.at = cc in
    let names : name_or_empty (slice_get wires b.wire) ≡ name_or_empty (slice_get wires c.wire) = cc in
    let same : f.wire.name ≡ g.wire.name = sym (ap name_or_empty f.is) ∙ (names ∙ ap name_or_empty g.is) in
    let wire : b.wire ≡ c.wire = same_at (λ (w : Wire). w.name) wires u b.wire c.wire f.wire g.wire f.is g.is same in
    λ i. record { wire = wire i; at = ats i }

-- the places of a signal are those of its bits
pub signal_places : (p : Path) (wires : List Wire) (ss : List SigBit) → places (points p wires ss) ≡ map (bit_place p wires) (wire_bits ss)
signal_places p wires [] = refl
signal_places p wires (Fixed c ∷ ss) = signal_places p wires ss
signal_places p wires (OnWire b ∷ ss) = ap (λ z. bit_place p wires b ∷ z) (signal_places p wires ss)
