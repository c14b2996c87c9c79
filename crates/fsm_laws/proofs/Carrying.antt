-- What bits carry, through connections and in two valuations.
use Rattle.std.proofs.Common.{◌≡◌, ◌<◌, ℕ, zero, suc, ◌+◌, Bool, true, false, cond, List, [], ◌∷◌, ◌++◌, length, map, Option, Some, None, refl, sym, ◌∙◌, ap, subst, arith}
use Rattle.std.specs.Prelude.{option_and_then, slice_get, slice_index_or, unwrap_or}
use Rattle.std.specs.Str.{bytes_eq}
use Rattle.std.proofs.lemmas.Slice.Eq.{bytes_eq-Decides}
use Rattle.rtl_bits.proofs.Orders.{Below_refl, Below_trans}
use Rattle.rtl_bits.specs.Knowledge.{Below}
use Rattle.rtl_bits.specs.declared.bit.Bit.{Bit}
use Rattle.rtl_bits.specs.declared.bit.Bit.TheVariants.{X}
use Rattle.rtl_sig.specs.declared.sig.SigBit.{SigBit}
use Rattle.rtl_sig.specs.declared.sig.SigBit.TheVariants.{Fixed, Wire as OnWire}
use Rattle.rtl_sig.specs.declared.sig.WireBit.{WireBit}
use Rattle.rtl_ir.specs.declared.module.Link.{Link}
use Rattle.rtl_ir.specs.declared.wire.Wire.{Wire}
use Rattle.rtl_ir.specs.Flat.Cell.{Ports}
use Rattle.rtl_ir.specs.Flat.Place.{Frame, OfWire, Path}
use Rattle.rtl_ir.specs.Flat.Point.{bit_place, name_or_empty, point, point_at, points}
use Rattle.rtl_ir.specs.Follow.{all_joins, back, end_within, follow, follow_joins}
use Rattle.rtl_ir.specs.declared.follow.Join.{Join}
use Rattle.net_index.proofs.IndexEnds.{ends_all, ends_here, ends_later, ends_on, fixed_follows}
use Rattle.net_model.specs.Fsm.Code.{Output}
use Rattle.net_model.specs.Lists.{Apart, Distinct}
use Rattle.net_model.specs.Relate.{Related}
use Rattle.net_model.specs.Valuation.{Valuation, read}
use Rattle.follow_laws.specs.Alike.{Alike}
use Rattle.fsm_laws.specs.Carried.{Carrier, carrier_of, carries, code_says, spot_carrier, wire_named}
use Rattle.fsm_laws.specs.Codes.{apart}
use Rattle.fsm_laws.specs.Recodes.{IsOf}

-- where no bit that a connection drives carries anything, both sides of a connection carry the same
pub same_carrier : {A : Type 0} (js : List Join) (c : SigBit → Option A) → ((s r : SigBit) → back js s ≡ Some r → c s ≡ None) → (s r : SigBit) → back js s ≡ Some r → c (follow_joins js s) ≡ c (follow_joins js r)
unfolding follow_joins
same_carrier js c stop s r e = by (end_within js (length js) s) refl (end_within js (length js) r) refl
  where
    later : (q : SigBit) → end_within js (suc (length js)) s ≡ Some q → end_within js (length js) s ≡ Some q
    later q f = ends_all js (suc (length js)) s q f

    by : (o : Option SigBit) → end_within js (length js) s ≡ o → (u : Option SigBit) → end_within js (length js) r ≡ u → c (unwrap_or o s) ≡ c (unwrap_or u r)
    by (Some q) f u g =
        let more : end_within js (suc (length js)) s ≡ Some q = ends_later js (length js) (suc (length js)) s q (omega arith) f in
        let same : end_within js (length js) r ≡ Some q = sym (ends_on js (length js) s r e) ∙ more in
        ap (λ o. c (unwrap_or o r)) (sym (sym g ∙ same))
    by None f (Some q) g =
        let found : end_within js (length js) s ≡ Some q = later q (ends_on js (length js) s r e ∙ g) in
        let no : None ≡ Some q = sym f ∙ found in
        absurd (cc)
    by None f None g = stop s r e ∙ sym (loop (back js r) refl)
      where
        loop : (o : Option SigBit) → back js r ≡ o → c r ≡ None
        loop (Some q) h = stop r q h
        loop None h =
            let found : end_within js (length js) r ≡ Some r = ends_here js (length js) r h in
            let no : None ≡ Some r = sym g ∙ found in
            absurd (cc)

-- the wire of a name
name_apart : (wires : List Wire) (name : List ℕ) (x : ℕ) (w : Wire) → Apart name (map (λ (w : Wire). w.name) wires) → slice_get wires x ≡ Some w → name ≡ w.name → ⊥
name_apart [] name x w a e f = absurd (cc)
name_apart (v ∷ wires) name zero w a e f = let same : v ≡ w = cc in a.0 (f ∙ ap (λ (w : Wire). w.name) (sym same))
name_apart (v ∷ wires) name (suc x) w a e f = name_apart wires name x w a.1 e f

pub named_at : (wires : List Wire) (at x : ℕ) (w : Wire) → Distinct (map (λ (w : Wire). w.name) wires) → slice_get wires x ≡ Some w → wire_named wires at w.name ≡ Some (at + x)
named_at [] at x w d e = absurd (cc)
named_at (v ∷ wires) at zero w d e =
    let same : v ≡ w = cc in
    let here : at ≡ at + 0 = omega arith in
    ap (λ t. cond t (Some at) (wire_named wires (at + 1) w.name)) ((bytes_eq-Decides v.name w.name).1 (ap (λ (w : Wire). w.name) same)) ∙ ap Some here
named_at (v ∷ wires) at (suc x) w d e = by (named_at wires (at + 1) x w d.1 e) (bytes_eq v.name w.name) refl
  where
    by : wire_named wires (at + 1) w.name ≡ Some ((at + 1) + x) → (t : Bool) → bytes_eq v.name w.name ≡ t → cond t (Some at) (wire_named wires (at + 1) w.name) ≡ Some (at + suc x)
    by later true f = absurd (name_apart wires v.name x w d.0 e ((bytes_eq-Decides v.name w.name).0 f))
    by later false f =
        let next : (at + 1) + x ≡ at + suc x = omega arith in
        later ∙ ap Some next

got_there : {A : Type 0} (xs : List A) (x : ℕ) → x < length xs → (w : A) × (slice_get xs x ≡ Some w)
got_there [] x lt = absurd (omega (arith, lt))
got_there (y ∷ xs) zero lt = (y, refl)
got_there (y ∷ xs) (suc x) lt = got_there xs x (omega (arith, lt))

got_left : {A : Type 0} (xs ys : List A) (x : ℕ) (w : A) → slice_get xs x ≡ Some w → slice_get (xs ++ ys) x ≡ Some w
got_left [] ys x w e = absurd (cc)
got_left (y ∷ xs) ys zero w e = e
got_left (y ∷ xs) ys (suc x) w e = got_left xs ys x w e

module _ (links : List Link) (wires fresh : List Wire) (named : Distinct (map (λ (w : Wire). w.name) wires)) (outputs : List Output) where
  -- the spot of a bit of the module carries what the bit follows to
  pub spot_is : (b : WireBit) → b.wire < length wires → spot_carrier links wires outputs (OfWire (name_or_empty (slice_get (wires ++ fresh) b.wire)) b.at) ≡ carrier_of outputs (follow links (OnWire b))
  spot_is b lt =
      let got = got_there wires b.wire lt in
      let name : name_or_empty (slice_get (wires ++ fresh) b.wire) ≡ got.0.name = ap name_or_empty (got_left wires fresh b.wire got.0 got.1) in
      let zero_more : 0 + b.wire ≡ b.wire = omega arith in
      let at : wire_named wires 0 got.0.name ≡ Some b.wire = named_at wires 0 b.wire got.0 named got.1 ∙ ap Some zero_more in
      ap (λ n. option_and_then (λ x. carrier_of outputs (follow links (OnWire (record { wire = x; at = b.at })))) (wire_named wires 0 n)) name
      ∙ ap (option_and_then (λ x. carrier_of outputs (follow links (OnWire (record { wire = x; at = b.at }))))) at

  -- a bit is of a wire of the module
  abbrev pub IsOwn : SigBit → Type 0
  IsOwn s = IsOf wires s

  module _ (states : List (List Bit)) (over : Ports) (frames : List Frame) (p : Path) (v w : Valuation) (rel : Related over frames (code_says states links wires (wires ++ fresh) outputs) p v w) where
    abbrev grown : List Wire
    grown = wires ++ fresh

    said : (b : WireBit) → b.wire < length wires → (o : Option Carrier) → carrier_of outputs (follow links (OnWire b)) ≡ o → carries states grown o p w (OfWire (name_or_empty (slice_get grown b.wire)) b.at) (v (bit_place p grown b))
    said b lt o e =
        subst (λ y. carries states grown y p w (OfWire (name_or_empty (slice_get grown b.wire)) b.at) (v (bit_place p grown b))) (spot_is b lt ∙ e) (rel.own (OfWire (name_or_empty (slice_get grown b.wire)) b.at))

    -- a bit that carries nothing is below itself
    pub free_below : (s : SigBit) → IsOwn s → carrier_of outputs (follow links s) ≡ None → Below (read v (point p grown s)) (read w (point p grown s))
    free_below (Fixed c) own e = Below_refl c
    free_below (OnWire b) own e = said b own None e

    -- of a bit that carries one of the state, the code says where it is apart
    pub carried_apart : (s : SigBit) → IsOwn s → (y : Carrier) → carrier_of outputs (follow links s) ≡ Some y → (i : ℕ) (r : List Bit) → slice_get states i ≡ Some r → Below (apart (read v (point p grown s)) (slice_index_or r y.bit X)) (read w (point_at (points p grown y.code) i))
    carried_apart (Fixed c) own y e =
        let fixed : follow links (Fixed c) ≡ Fixed c = sym (fixed_follows (all_joins links) c) in
        let no : None ≡ Some y = ap (carrier_of outputs) (sym fixed) ∙ e in
        absurd (cc)
    carried_apart (OnWire b) own y e = said b own (Some y) e

    -- a bit that leads to a constant is below it
    module _ (alike : (s : SigBit) → Alike w (point p grown s) (point p grown (follow links s))) where
      pub fixed_below : (s : SigBit) → IsOwn s → (c : Bit) → follow links s ≡ Fixed c → Below (read v (point p grown s)) c
      fixed_below s own c e =
          Below_trans (read v (point p grown s)) (read w (point p grown s)) c (free_below s own (ap (carrier_of outputs) e))
          (subst (λ z. Below (read w (point p grown s)) (read w (point p grown z))) e (alike s).there)
