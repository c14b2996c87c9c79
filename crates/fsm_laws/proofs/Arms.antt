-- What stands for a signal in the code is no less than where the signal is apart from a state.
use Rattle.std.proofs.Common.{◌≡◌, ◌<◌, ℕ, zero, suc, List, [], ◌∷◌, ◌++◌, map, Option, Some, None, inl, inr, ⊎_elim, refl, sym, ◌∙◌, ap, subst}
use Rattle.std.specs.Prelude.{slice_get, slice_index_or}
use Rattle.rtl_bits.proofs.Orders.{Below_trans}
use Rattle.rtl_bits.specs.Knowledge.{Below, IsKnown}
use Rattle.rtl_bits.specs.Numbers.{number_of}
use Rattle.rtl_bits.specs.declared.bit.Bit.{Bit}
use Rattle.rtl_bits.specs.declared.bit.Bit.TheVariants.{S0, S1, X}
use Rattle.rtl_sig.specs.declared.sig.SigBit.{SigBit}
use Rattle.rtl_sig.specs.declared.sig.SigBit.TheVariants.{Fixed}
use Rattle.rtl_ir.specs.declared.module.Link.{Link}
use Rattle.rtl_ir.specs.declared.wire.Wire.{Wire}
use Rattle.rtl_ir.specs.Flat.Cell.{Ports}
use Rattle.rtl_ir.specs.Flat.Place.{Frame, Path}
use Rattle.rtl_ir.specs.Flat.Point.{point, points}
use Rattle.rtl_ir.specs.Follow.{follow}
use Rattle.net_model.specs.Fsm.Code.{Output, code_of}
use Rattle.net_model.specs.Lists.{Distinct}
use Rattle.net_model.specs.Relate.{Related}
use Rattle.net_model.specs.Valuation.{Valuation, read, read_all}
use Rattle.net_model.specs.Within.{Each}
use Rattle.follow_laws.specs.Alike.{Alike}
use Rattle.fsm_laws.specs.Arms.{IsCarried, IsConstant, IsUnknown, StandsFor}
use Rattle.fsm_laws.specs.Carried.{code_says}
use Rattle.fsm_laws.specs.Codes.{apart}
use Rattle.fsm_laws.specs.States.{AreStates}
use Rattle.fsm_laws.proofs.Carrying.{IsOwn, carried_apart, fixed_below}
use Rattle.fsm_laws.proofs.Coded.{apart_mono, apart_unknown}
use Rattle.fsm_laws.proofs.Forks.{read_at}
use Rattle.fsm_laws.proofs.States.{constant_coded}

-- what a signal has at a place
abbrev pub has : Path → List Wire → Valuation → List SigBit → ℕ → Bit
has p wires w signal k = slice_index_or (read_all w (points p wires signal)) k X

pub has_none : (p : Path) (wires : List Wire) (w : Valuation) (signal : List SigBit) (k : ℕ) → slice_get signal k ≡ None → has p wires w signal k ≡ X
has_none p wires w [] k e = refl
has_none p wires w (s ∷ signal) zero e = absurd (cc)
has_none p wires w (s ∷ signal) (suc k) e = has_none p wires w signal k e

pub has_some : (p : Path) (wires : List Wire) (w : Valuation) (signal : List SigBit) (k : ℕ) (s : SigBit) → slice_get signal k ≡ Some s → has p wires w signal k ≡ read w (point p wires s)
has_some p wires w [] k s e = absurd (cc)
has_some p wires w (r ∷ signal) zero s e = let same : r ≡ s = cc in ap (λ z. read w (point p wires z)) same
has_some p wires w (r ∷ signal) (suc k) s e = has_some p wires w signal k s e

pub has_fixed : (p : Path) (wires : List Wire) (w : Valuation) (bits : List Bit) (k : ℕ) → has p wires w (map Fixed bits) k ≡ slice_index_or bits k X
has_fixed p wires w [] k = refl
has_fixed p wires w (b ∷ bits) zero = refl
has_fixed p wires w (b ∷ bits) (suc k) = has_fixed p wires w bits k

below_unknown : (a c : Bit) → (IsKnown c → ⊥) → Below a c → IsKnown a → ⊥
below_unknown S0 c never h known = never (subst IsKnown (sym h) tt)
below_unknown S1 c never h known = never (subst IsKnown (sym h) tt)
below_unknown a c never h known = absurd known

in_place : {A : Type 0} (P : A → Type 0) (xs : List A) → Each P xs → (k : ℕ) (x : A) → slice_get xs k ≡ Some x → P x
in_place P [] h k x e = absurd (cc)
in_place P (y ∷ xs) h zero x e = let same : y ≡ x = cc in subst P same (h y (inl refl))
in_place P (y ∷ xs) h (suc k) x e = in_place P xs (λ z i. h z (inr i)) k x e

module _ (links : List Link) (wires fresh : List Wire) (named : Distinct (map (λ (w : Wire). w.name) wires)) (outputs : List Output) (width : ℕ) (states : List (List Bit)) (are : AreStates width states) where
  module _ (over : Ports) (frames : List Frame) (p : Path) (v w : Valuation) (rel : Related over frames (code_says states links wires (wires ++ fresh) outputs) p v w) (alike : (s : SigBit) → Alike w (point p (wires ++ fresh) s) (point p (wires ++ fresh) (follow links s))) where
    abbrev grown : List Wire
    grown = wires ++ fresh

    -- bit by bit
    bit_coded : (s : SigBit) → IsOwn links wires fresh named outputs s → (k : ℕ) (new : List SigBit) → k < width → IsCarried links outputs s k new → (i : ℕ) (r : List Bit) → slice_get states i ≡ Some r → Below (apart (read v (point p grown s)) (slice_index_or r k X)) (has p grown w new i)
    bit_coded s own k new lt c i r at =
        subst (Below (apart (read v (point p grown s)) (slice_index_or r k X))) (sym (read_at w (points p grown new) i))
        (carried_apart links wires fresh named outputs states over frames p v w rel s own (record { code = new; bit = k }) c i r at)

    constant_bit : (s : SigBit) → IsOwn links wires fresh named outputs s → (k : ℕ) (new : List SigBit) → k < width → IsConstant width states links s k new → (i : ℕ) (r : List Bit) → slice_get states i ≡ Some r → Below (apart (read v (point p grown s)) (slice_index_or r k X)) (has p grown w new i)
    constant_bit s own k new lt c i r at =
        let low = fixed_below links wires fresh named outputs states over frames p v w rel alike s own (slice_index_or c.constant k X) c.leads in
        let value : has p grown w new i ≡ slice_index_or (code_of states (number_of c.constant)) i X = ap (λ z. has p grown w z i) c.code ∙ has_fixed p grown w (code_of states (number_of c.constant)) i in
        subst (Below (apart (read v (point p grown s)) (slice_index_or r k X))) (sym value)
        (Below_trans _ _ _ (apart_mono (read v (point p grown s)) (slice_index_or c.constant k X) (slice_index_or r k X) low)
        (constant_coded width states are c.constant r i at c.known c.wide k lt))

    unknown_bit : (s : SigBit) → IsOwn links wires fresh named outputs s → IsUnknown links s → (e b : Bit) → Below (apart (read v (point p grown s)) e) b
    unknown_bit s own u e b =
        let low = fixed_below links wires fresh named outputs states over frames p v w rel alike s own u.value u.leads in
        subst (λ z. Below z b) (sym (apart_unknown (read v (point p grown s)) e (below_unknown (read v (point p grown s)) u.value u.unknown low))) tt

    -- what stands for a signal
    pub arm_apart : (old new : List SigBit) → Each (IsOwn links wires fresh named outputs) old → StandsFor width states links outputs old new → (k : ℕ) → k < width → (i : ℕ) (r : List Bit) → slice_get states i ≡ Some r → Below (apart (has p grown v old k) (slice_index_or r k X)) (has p grown w new i)
    arm_apart old new own stands k lt i r at = by (slice_get old k) refl
      where
        e : Bit
        e = slice_index_or r k X

        by : (o : Option SigBit) → slice_get old k ≡ o → Below (apart (has p grown v old k) e) (has p grown w new i)
        by None f = subst (λ z. Below (apart z e) (has p grown w new i)) (sym (has_none p grown v old k f)) tt
        by (Some s) f =
            let here : IsOwn links wires fresh named outputs s = in_place (IsOwn links wires fresh named outputs) old own k s f in
            subst (λ z. Below (apart z e) (has p grown w new i)) (sym (has_some p grown v old k s f))
            (⊎_elim (λ c. bit_coded s here k new lt c i r at) (λ q. ⊎_elim (λ c. constant_bit s here k new lt c i r at) (λ u. unknown_bit s here u e (has p grown w new i)) q) (stands k s f lt))
