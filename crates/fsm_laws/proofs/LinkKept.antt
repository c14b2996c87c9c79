-- Both sides of a connection carry the same, so what is said of its right side is said of its left one.
use Rattle.std.proofs.Common.{◌≡◌, ◌<◌, List, [], ◌∷◌, ◌++◌, length, map, Option, Some, None, inl, inr, ⊎_elim, refl, sym, ◌∙◌, subst}
use Rattle.std.specs.Prelude.{slice_get, slice_index_or}
use Rattle.rtl_bits.proofs.Orders.{Below_trans}
use Rattle.rtl_bits.specs.Knowledge.{Below}
use Rattle.rtl_bits.specs.declared.bit.Bit.{Bit}
use Rattle.rtl_bits.specs.declared.bit.Bit.TheVariants.{S0, S1, X}
use Rattle.rtl_sig.specs.declared.sig.SigBit.{SigBit}
use Rattle.rtl_sig.specs.declared.sig.SigBit.TheVariants.{Fixed, Wire as OnWire}
use Rattle.rtl_ir.specs.declared.module.Link.{Link}
use Rattle.rtl_ir.specs.declared.wire.Wire.{Wire}
use Rattle.rtl_ir.specs.Flat.Cell.{Ports}
use Rattle.rtl_ir.specs.Flat.Driver.{Driven, Joined}
use Rattle.rtl_ir.specs.Flat.Link as flat
use Rattle.rtl_ir.specs.Flat.Place.{Frame, OfWire, Path, Place}
use Rattle.rtl_ir.specs.Flat.Point.{name_or_empty, point, points}
use Rattle.rtl_ir.specs.Follow.{all_joins, back, follow, joins}
use Rattle.rtl_ir.specs.declared.follow.Join.{Join}
use Rattle.net_model.proofs.Members.{In-cases, In-left, In-right}
use Rattle.net_model.specs.Fsm.Code.{Output}
use Rattle.net_model.specs.Lists.{Distinct, In}
use Rattle.net_model.specs.Refine.{IsMet}
use Rattle.net_model.specs.Relate.{Related}
use Rattle.net_model.specs.Run.{Time}
use Rattle.net_model.specs.Valuation.{Valuation, passed_of, read}
use Rattle.net_model.specs.Value.{value_of}
use Rattle.pass_laws.proofs.Giving.{passed_on}
use Rattle.follow_laws.proofs.Following.{join_row}
use Rattle.fsm_laws.specs.Carried.{Carrier, carrier_of, carries, code_says, spot_carrier}
use Rattle.fsm_laws.proofs.Carrying.{IsOwn, carried_apart, free_below, same_carrier, spot_is}
use Rattle.fsm_laws.proofs.Coded.{apart_mono}

pass_low : (a : Bit) → Below (passed_of a) a
pass_low S0 = refl
pass_low S1 = refl
pass_low a = tt

-- the rows of a connection are those of its places
joins_row : (p : Path) (wires : List Wire) (left right : List SigBit) (x : Driven) → In x (flat.joins (points p wires left) (points p wires right)) → (j : Join) × (In j (joins left right) × (x ≡ join_row p wires j))
joins_row p wires [] right x i = absurd i
joins_row p wires (l ∷ left) [] x i = absurd i
joins_row p wires (Fixed c ∷ left) (r ∷ right) x i = joins_row p wires left right x i
joins_row p wires (OnWire b ∷ left) (r ∷ right) x (inl e) = (record { bit = b; source = r }, (inl refl, e))
joins_row p wires (OnWire b ∷ left) (r ∷ right) x (inr i) =
    let k = joins_row p wires left right x i in
    (k.0, (inr k.1.0, k.1.1))

pub row_join : (p : Path) (wires : List Wire) (links : List Link) (x : Driven) → In x (flat.link_rows p wires links) → (j : Join) × (In j (all_joins links) × (x ≡ join_row p wires j))
row_join p wires [] x i = absurd i
row_join p wires (l ∷ links) x i =
    ⊎_elim
    (λ a. let k = joins_row p wires l.left l.right x a in (k.0, (In-left k.0 (joins l.left l.right) (all_joins links) k.1.0, k.1.1)))
    (λ b. let k = row_join p wires links x b in (k.0, (In-right k.0 (joins l.left l.right) (all_joins links) k.1.0, k.1.1)))
    (In-cases x (flat.joins (points p wires l.left) (points p wires l.right)) (flat.link_rows p wires links) i)

module _ (links : List Link) (wires fresh : List Wire) (named : Distinct (map (λ (w : Wire). w.name) wires)) (outputs : List Output) (stop : (s r : SigBit) → back (all_joins links) s ≡ Some r → carrier_of outputs s ≡ None) (states : List (List Bit)) (over : Ports) (frames : List Frame) (p : Path) (v w : Valuation) (rel : Related over frames (code_says states links wires (wires ++ fresh) outputs) p v w) where
  abbrev grown : List Wire
  grown = wires ++ fresh

  -- a place of a connection, whose row is met
  pub link_kept : (j : Join) → back (all_joins links) (OnWire j.bit) ≡ Some j.source → j.bit.wire < length wires → IsOwn links wires fresh named outputs j.source → (t u : Time Place) → IsMet (join_row p grown j) u w
      → carries states grown (spot_carrier links wires outputs (OfWire (name_or_empty (slice_get grown j.bit.wire)) j.bit.at)) p w (OfWire (name_or_empty (slice_get grown j.bit.wire)) j.bit.at) (value_of (Joined (point p grown j.source)) t v)
  link_kept j first lt own t u met = by (carrier_of outputs (follow links (OnWire j.bit))) refl
    where
      given : Bit
      given = read v (point p grown j.source)

      same : carrier_of outputs (follow links (OnWire j.bit)) ≡ carrier_of outputs (follow links j.source)
      same = same_carrier (all_joins links) (carrier_of outputs) stop (OnWire j.bit) j.source first

      by : (o : Option Carrier) → carrier_of outputs (follow links (OnWire j.bit)) ≡ o → carries states grown (spot_carrier links wires outputs (OfWire (name_or_empty (slice_get grown j.bit.wire)) j.bit.at)) p w (OfWire (name_or_empty (slice_get grown j.bit.wire)) j.bit.at) (passed_of given)
      by None e =
          let low : Below given (read w (point p grown j.source)) = free_below links wires fresh named outputs states over frames p v w rel j.source own (sym same ∙ e) in
          let passed : Below (passed_of given) (passed_of (read w (point p grown j.source))) = passed_on (passed_of given) (read w (point p grown j.source)) (Below_trans (passed_of given) given (read w (point p grown j.source)) (pass_low given) low) in
          subst (λ y. carries states grown y p w (OfWire (name_or_empty (slice_get grown j.bit.wire)) j.bit.at) (passed_of given)) (sym (spot_is links wires fresh named outputs j.bit lt ∙ e))
          (Below_trans (passed_of given) (passed_of (read w (point p grown j.source))) _ passed met)
      by (Some y) e =
          subst (λ y. carries states grown y p w (OfWire (name_or_empty (slice_get grown j.bit.wire)) j.bit.at) (passed_of given)) (sym (spot_is links wires fresh named outputs j.bit lt ∙ e))
          (λ i r at. Below_trans _ _ _ (apart_mono (passed_of given) given (slice_index_or r y.bit X) (pass_low given))
          (carried_apart links wires fresh named outputs states over frames p v w rel j.source own y (sym same ∙ e) i r at))
