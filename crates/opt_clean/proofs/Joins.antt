-- The rows of connections, place by place.
use Rattle.std.proofs.Common.{◌≡◌, Bool, true, false, if◌then◌else◌, List, [], ◌∷◌, ◌++◌, Some, inl, inr, ⊎_elim, refl, sym, ◌∙◌, ap, subst}
use Rattle.std.specs.Prelude.{map}
use Rattle.rtl_sig.specs.declared.sig.SigBit.{SigBit}
use Rattle.rtl_sig.specs.declared.sig.SigBit.TheVariants.{Fixed, Wire as OnWire}
use Rattle.rtl_sig.specs.declared.sig.WireBit.{WireBit}
use Rattle.rtl_ir.specs.Flat.Driver.{Driven, Joined}
use Rattle.rtl_ir.specs.Flat.Link as flat
use Rattle.rtl_ir.specs.Flat.Link.{link_rows}
use Rattle.rtl_ir.specs.Flat.Place.{Path}
use Rattle.rtl_ir.specs.Flat.Point.{bit_place, point, points}
use Rattle.rtl_ir.specs.Follow.{all_joins, joins, source_at}
use Rattle.rtl_ir.specs.declared.follow.Join.{Join}
use Rattle.rtl_ir.specs.Signals.{same_bit, wire_bits}
use Rattle.rtl_ir.specs.declared.module.Link.{Link}
use Rattle.rtl_ir.specs.declared.wire.Wire.{Wire}
use Rattle.net_index.proofs.IndexTables.{same_bit-refl, same_bit-true}
use Rattle.net_model.specs.Lists.{In, Distinct}
use Rattle.net_model.proofs.Members.{In-cases, In-left, In-map, In-right, apart_at, map-append}
use Rattle.pass_laws.specs.Bits.{links_bits}
use Rattle.opt_clean.specs.Kept.{right_bits}

-- the row of a place of a connection
abbrev pub join_row : Path → List Wire → Join → Driven
join_row p wires j = record { place = bit_place p wires j.bit; driver = Joined (point p wires j.source) }

module _ (p : Path) (wires : List Wire) where
  one_link : (left right : List SigBit) → flat.joins (points p wires left) (points p wires right) ≡ map (join_row p wires) (joins left right)
  one_link [] right = refl
  one_link (l ∷ left) [] = refl
  one_link (Fixed c ∷ left) (r ∷ right) = one_link left right
  one_link (OnWire b ∷ left) (r ∷ right) = ap (λ z. join_row p wires (record { bit = b; source = r }) ∷ z) (one_link left right)

  pub joins_rows : (links : List Link) → link_rows p wires links ≡ map (join_row p wires) (all_joins links)
  joins_rows [] = refl
  joins_rows (l ∷ links) =
      (λ i. one_link l.left l.right i ++ joins_rows links i) ∙ sym (map-append (join_row p wires) (joins l.left l.right) (all_joins links))

  -- where no bit has two places, that of a bit gives its source
  pub only_source : (js : List Join) → Distinct (map (λ (j : Join). bit_place p wires j.bit) js) → (j : Join) → In j js → source_at js j.bit ≡ Some j.source
  only_source [] h j i = absurd i
  only_source (k ∷ js) h j (inl e) =
      subst (λ (z : Join). (if same_bit k.bit z.bit then Some k.source else source_at js z.bit) ≡ Some z.source) (sym e) (ap (λ t. if t then Some k.source else source_at js k.bit) (same_bit-refl k.bit))
  only_source (k ∷ js) h j (inr i) = by (only_source js h.1 j i) (same_bit k.bit j.bit) refl
    where
      by : source_at js j.bit ≡ Some j.source → (t : Bool) → same_bit k.bit j.bit ≡ t → (if t then Some k.source else source_at js j.bit) ≡ Some j.source
      by later true e = absurd (apart_at (bit_place p wires k.bit) (map (λ (z : Join). bit_place p wires z.bit) js) h.0 (bit_place p wires j.bit) (In-map (λ (z : Join). bit_place p wires z.bit) j js i) (ap (bit_place p wires) (same_bit-true k.bit j.bit e)))
      by later false e = later

-- what is found for a bit stands among the places
pub source_in : (js : List Join) (b : WireBit) (r : SigBit) → source_at js b ≡ Some r → In (record { bit = b; source = r }) js
source_in [] b r e = absurd (cc)
source_in (j ∷ js) b r e = by (source_in js b r) (same_bit j.bit b) refl e
  where
    by : (source_at js b ≡ Some r → In (record { bit = b; source = r }) js) → (t : Bool) → same_bit j.bit b ≡ t → (if t then Some j.source else source_at js b) ≡ Some r → In (record { bit = b; source = r }) (j ∷ js)
    by later true f g =
        let bit : b ≡ j.bit = sym (same_bit-true j.bit b f) in
        let source : r ≡ j.source = cc in
        inl (λ i. record { bit = bit i; source = source i })
    by later false f g = inr (later g)

-- the bits of a place stand on the two sides of a connection
joined_left : (left right : List SigBit) (j : Join) → In j (joins left right) → In j.bit (wire_bits left)
joined_left [] right j i = absurd i
joined_left (l ∷ left) [] j i = absurd i
joined_left (Fixed c ∷ left) (r ∷ right) j i = joined_left left right j i
joined_left (OnWire b ∷ left) (r ∷ right) j (inl e) = inl (ap (λ (z : Join). z.bit) e)
joined_left (OnWire b ∷ left) (r ∷ right) j (inr i) = inr (joined_left left right j i)

joined_right : (left right : List SigBit) (j : Join) → In j (joins left right) → (b : WireBit) → j.source ≡ OnWire b → In b (wire_bits right)
joined_right [] right j i b e = absurd i
joined_right (l ∷ left) [] j i b e = absurd i
joined_right (Fixed c ∷ left) (r ∷ right) j i b e = later r (joined_right left right j i b e)
  where
    later : (r : SigBit) → In b (wire_bits right) → In b (wire_bits (r ∷ right))
    later (Fixed d) k = k
    later (OnWire d) k = inr k
joined_right (OnWire a ∷ left) (r ∷ right) j i b e = by r i (λ k. joined_right left right j k b e)
  where
    by : (r : SigBit) → In j (joins (OnWire a ∷ left) (r ∷ right)) → (In j (joins left right) → In b (wire_bits right)) → In b (wire_bits (r ∷ right))
    by (Fixed d) (inl f) later = let no : Fixed d ≡ OnWire b = sym (ap (λ (z : Join). z.source) f) ∙ e in absurd (cc)
    by (OnWire d) (inl f) later = let same : OnWire d ≡ OnWire b = sym (ap (λ (z : Join). z.source) f) ∙ e in let is : b ≡ d = cc in inl is
    by (Fixed d) (inr k) later = later k
    by (OnWire d) (inr k) later = inr (later k)

pub lefts_in : (links : List Link) (j : Join) → In j (all_joins links) → In j.bit (links_bits links)
lefts_in [] j i = absurd i
lefts_in (l ∷ links) j i =
    ⊎_elim
    (λ a. In-left j.bit (wire_bits l.left) (links_bits links) (joined_left l.left l.right j a))
    (λ b. In-right j.bit (wire_bits l.left) (links_bits links) (lefts_in links j b))
    (In-cases j (joins l.left l.right) (all_joins links) i)

pub rights_in : (links : List Link) (j : Join) → In j (all_joins links) → (b : WireBit) → j.source ≡ OnWire b → In b (right_bits links)
rights_in [] j i b e = absurd i
rights_in (l ∷ links) j i b e =
    ⊎_elim
    (λ a. In-left b (wire_bits l.right) (right_bits links) (joined_right l.left l.right j a b e))
    (λ k. In-right b (wire_bits l.right) (right_bits links) (rights_in links j k b e))
    (In-cases j (joins l.left l.right) (all_joins links) i)
