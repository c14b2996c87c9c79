-- Each bit of the state: the code is no less than where it is apart from a state, from the start on.
use Rattle.std.proofs.Common.{◌≡◌, ◌<◌, ℕ, Bool, List, ◌++◌, length, map, Some, refl, sym, ◌∙◌, subst}
use Rattle.std.specs.Prelude.{slice_get, slice_index_or}
use Rattle.cell_gate.specs.Control.{active_of}
use Rattle.cell_types.specs.Given.{value_in}
use Rattle.cell_types.specs.Levels.{level_in}
use Rattle.cell_types.specs.declared.kind.CellKind.TheVariants.{Storage}
use Rattle.cell_types.specs.declared.level.Level.{Level}
use Rattle.cell_types.specs.declared.param_name.ParamName.TheVariants.{ArstPolarity, ArstValue, ClkPolarity}
use Rattle.cell_types.specs.declared.pin_name.PinName.TheVariants.{Arst, Clk, D}
use Rattle.cell_types.specs.declared.storage.StorageKind.TheVariants.{Adff, Dff}
use Rattle.rtl_bits.proofs.Orders.{Below_trans}
use Rattle.rtl_bits.specs.Knowledge.{AreKnown, Below}
use Rattle.rtl_bits.specs.Numbers.{number_of}
use Rattle.rtl_bits.specs.declared.bit.Bit.{Bit}
use Rattle.rtl_bits.specs.declared.bit.Bit.TheVariants.{X}
use Rattle.rtl_sig.specs.declared.sig.SigBit.{SigBit}
use Rattle.rtl_sig.specs.declared.sig.SigBit.TheVariants.{Wire as OnWire}
use Rattle.rtl_sig.specs.declared.sig.WireBit.{WireBit}
use Rattle.rtl_ir.specs.declared.cell.Cell.{Cell}
use Rattle.rtl_ir.specs.declared.module.Link.{Link}
use Rattle.rtl_ir.specs.declared.wire.Wire.{Wire}
use Rattle.rtl_ir.specs.Flat.Cell.{Ports, kind_rows}
use Rattle.rtl_ir.specs.Flat.Driver.{Driven}
use Rattle.rtl_ir.specs.Flat.Place.{Frame, Path}
use Rattle.rtl_ir.specs.Flat.Point.{bit_place, point, points}
use Rattle.rtl_ir.specs.Follow.{follow}
use Rattle.rtl_ir.specs.Parameters.{given_params}
use Rattle.net_model.specs.Fsm.Code.{Output, code_of}
use Rattle.net_model.specs.Fsm.Find.{at_pin}
use Rattle.net_model.specs.Lists.{Distinct, In}
use Rattle.net_model.specs.Refine.{IsMet}
use Rattle.net_model.specs.Relate.{Related}
use Rattle.net_model.specs.Order.{Manner}
use Rattle.net_model.specs.Run.{Step}
use Rattle.net_model.specs.Valuation.{Valuation, read}
use Rattle.net_model.specs.Value.{value_of}
use Rattle.net_model.specs.Within.{Each}
use Rattle.pass_laws.proofs.Driving.{own_driver, own_in, row_of}
use Rattle.follow_laws.specs.Alike.{Alike}
use Rattle.fsm_laws.specs.Arms.{StandsFor}
use Rattle.fsm_laws.specs.Carried.{carrier_of, code_says}
use Rattle.fsm_laws.specs.Flops.{adff_like, dff_like}
use Rattle.fsm_laws.specs.Codes.{apart}
use Rattle.fsm_laws.specs.States.{AreStates}
use Rattle.fsm_laws.proofs.Arms.{arm_apart, has, has_some}
use Rattle.fsm_laws.proofs.Carrying.{IsOwn, carried_apart}
use Rattle.fsm_laws.proofs.Flops.{adff_like_takes, adff_takes, control_mono, dff_like_takes, dff_takes, edge_mono, edge_to, point_of, registered, registered_apart, reset_apart, taken_apart, taken_in, was_active, was_active_mono}
use Rattle.fsm_laws.proofs.ForkKept.{IsFree, free_has}
use Rattle.fsm_laws.proofs.Forks.{read_at}
use Rattle.fsm_laws.proofs.States.{constant_coded}

module _ (links : List Link) (wires fresh : List Wire) (named : Distinct (map (λ (w : Wire). w.name) wires)) (outputs : List Output) (width : ℕ) (states : List (List Bit)) (are : AreStates width states) (over : Ports) (frames : List Frame) (p : Path) (start : SigBit → Bit) where
  abbrev grown : List Wire
  grown = wires ++ fresh

  abbrev Relates : Valuation → Valuation → Type 0
  Relates v w = Related over frames (code_says states links wires (wires ++ fresh) outputs) p v w

  -- the first step
  module _ (w : Valuation) where
    pub starts_kept : (k i : ℕ) (r : List Bit) (q o : WireBit) → Below (apart (start (OnWire q)) (slice_index_or r k X)) (start (OnWire o)) → Below (start (OnWire o)) (w (bit_place p grown o)) → Below (apart (start (OnWire q)) (slice_index_or r k X)) (read w (point p grown (OnWire o)))
    starts_kept k i r q o begins met = Below_trans (apart (start (OnWire q)) (slice_index_or r k X)) (start (OnWire o)) (w (bit_place p grown o)) begins met

  -- each further step
  module _ (a z v w : Valuation) (old : Relates a z) (rel : Relates v w) (alike : (s : SigBit) → Alike z (point p (wires ++ fresh) s) (point p (wires ++ fresh) (follow links s))) (f g : Manner) (same : f ≡ g) (xs ys : List Bit) where
    edge_kept : (level : Level) (clock : List SigBit) → Each (IsFree links wires fresh named outputs width states are) clock
        → Below (edge_to level f.first (point_of start p grown clock 0 a) (point_of start p grown clock 0 v)) (edge_to level g.first (point_of start p grown clock 0 z) (point_of start p grown clock 0 w))
    edge_kept level clock free =
        let before : Below (point_of start p grown clock 0 a) (point_of start p grown clock 0 z) = free_points a z old in
        let now : Below (point_of start p grown clock 0 v) (point_of start p grown clock 0 w) = free_points v w rel in
        subst (λ h. Below (edge_to level f.first (point_of start p grown clock 0 a) (point_of start p grown clock 0 v)) (edge_to level h.first (point_of start p grown clock 0 z) (point_of start p grown clock 0 w))) same
        (edge_mono level f.first (point_of start p grown clock 0 a) (point_of start p grown clock 0 z) (point_of start p grown clock 0 v) (point_of start p grown clock 0 w) before now)
      where
        free_points : (x y : Valuation) → Relates x y → Below (point_of start p grown clock 0 x) (point_of start p grown clock 0 y)
        free_points x y h =
            subst (λ b. Below b (point_of start p grown clock 0 y)) (read_at x (points p grown clock) 0)
            (subst (Below (has p grown x clock 0)) (read_at y (points p grown clock) 0) (free_has links wires fresh named outputs width states are over frames p x y h clock free 0))

    -- the data, and the old value
    data_kept : (old_d d : List SigBit) → Each (IsOwn links wires fresh named outputs) old_d → StandsFor width states links outputs old_d d → (k : ℕ) → k < width → (i : ℕ) (r : List Bit) → slice_get states i ≡ Some r → Below (apart (point_of start p grown old_d k a) (slice_index_or r k X)) (point_of start p grown d i z)
    data_kept old_d d own stands k lt i r there =
        subst (λ b. Below (apart b (slice_index_or r k X)) (point_of start p grown d i z)) (read_at a (points p grown old_d) k)
        (subst (Below (apart (has p grown a old_d k) (slice_index_or r k X))) (read_at z (points p grown d) i) (arm_apart links wires fresh named outputs width states are over frames p a z old alike old_d d own stands k lt i r there))

    state_kept : (code : List SigBit) (k i : ℕ) (q o : WireBit) → IsOwn links wires fresh named outputs (OnWire q) → carrier_of outputs (follow links (OnWire q)) ≡ Some (record { code = code; bit = k }) → slice_get code i ≡ Some (OnWire o) → (r : List Bit) → slice_get states i ≡ Some r → Below (apart (a (bit_place p grown q)) (slice_index_or r k X)) (z (bit_place p grown o))
    state_kept code k i q o own c at r there =
        subst (Below (apart (a (bit_place p grown q)) (slice_index_or r k X))) (sym (read_at z (points p grown code) i) ∙ has_some p grown z code i (OnWire o) at)
        (carried_apart links wires fresh named outputs states over frames p a z old (OnWire q) own (record { code = code; bit = k }) c i r there)

    module _ (c : Cell) (count : ℕ) (d code : List SigBit) (own_d : Each (IsOwn links wires fresh named outputs) (at_pin c D)) (free_clock : Each (IsFree links wires fresh named outputs width states are) (at_pin c Clk)) (stands : StandsFor width states links outputs (at_pin c D) d)
        (k : ℕ) (lt : k < width) (i : ℕ) (r : List Bit) (there : slice_get states i ≡ Some r) (q o : WireBit) (own_q : IsOwn links wires fresh named outputs (OnWire q)) (carried : carrier_of outputs (follow links (OnWire q)) ≡ Some (record { code = code; bit = k })) (at : slice_get code i ≡ Some (OnWire o)) where
      abbrev level : Level
      level = level_in (given_params c.params) ClkPolarity

      register_kept : (x y : Bit) → Below (apart x (slice_index_or r k X)) y
          → Below (apart (registered (edge_to level f.first (point_of start p grown (at_pin c Clk) 0 a) (point_of start p grown (at_pin c Clk) 0 v)) x (a (bit_place p grown q))) (slice_index_or r k X))
          (registered (edge_to level g.first (point_of start p grown (at_pin c Clk) 0 z) (point_of start p grown (at_pin c Clk) 0 w)) y (z (bit_place p grown o)))
      register_kept x y given =
          registered_apart (edge_to level f.first (point_of start p grown (at_pin c Clk) 0 a) (point_of start p grown (at_pin c Clk) 0 v)) (edge_to level g.first (point_of start p grown (at_pin c Clk) 0 z) (point_of start p grown (at_pin c Clk) 0 w))
          x (a (bit_place p grown q)) (slice_index_or r k X) y (z (bit_place p grown o))
          (edge_kept level (at_pin c Clk) free_clock) given (state_kept code k i q o own_q carried at r there)

      datum_kept : Below (apart (point_of start p grown (at_pin c D) k a) (slice_index_or r k X)) (point_of start p grown d i z)
      datum_kept = data_kept (at_pin c D) d own_d stands k lt i r there

      -- without a reset
      pub dff_kept : ((x : Driven) → In x (kind_rows start p grown (dff_like c count level (at_pin c Clk) d code) (Storage Dff)) → IsMet x (Step z ys g) w)
          → Below (apart (value_of (own_driver start p grown c (Storage Dff) k q) (Step a xs f) v) (slice_index_or r k X)) (read w (point p grown (OnWire o)))
      dff_kept met =
          let made : Cell = dff_like c count level (at_pin c Clk) d code in
          let row = met (row_of p grown o (own_driver start p grown made (Storage Dff) i o)) (own_in p grown start made (Storage Dff) refl i o at) in
          subst (λ b. Below (apart b (slice_index_or r k X)) (read w (point p grown (OnWire o)))) (sym (dff_takes start p grown c k q a xs f v))
          (Below_trans _ _ _ (register_kept _ _ datum_kept) (subst (λ b. Below b (read w (point p grown (OnWire o)))) (dff_like_takes start p grown c count level (at_pin c Clk) d code i o z ys g w) row))

      -- with one
      pub adff_kept : Each (IsFree links wires fresh named outputs width states are) (at_pin c Arst) → AreKnown (value_in (given_params c.params) ArstValue) → length (value_in (given_params c.params) ArstValue) ≡ width
          → ((x : Driven) → In x (kind_rows start p grown (adff_like c count level (level_in (given_params c.params) ArstPolarity) (code_of states (number_of (value_in (given_params c.params) ArstValue))) (at_pin c Clk) (at_pin c Arst) d code) (Storage Adff)) → IsMet x (Step z ys g) w)
          → Below (apart (value_of (own_driver start p grown c (Storage Adff) k q) (Step a xs f) v) (slice_index_or r k X)) (read w (point p grown (OnWire o)))
      adff_kept free_reset known wide met =
          let value : List Bit = value_in (given_params c.params) ArstValue in
          let reset : Level = level_in (given_params c.params) ArstPolarity in
          let new : List Bit = code_of states (number_of value) in
          let made : Cell = adff_like c count level reset new (at_pin c Clk) (at_pin c Arst) d code in
          let row = met (row_of p grown o (own_driver start p grown made (Storage Adff) i o)) (own_in p grown start made (Storage Adff) refl i o at) in
          let control : (x y : Valuation) → Relates x y → Below (point_of start p grown (at_pin c Arst) 0 x) (point_of start p grown (at_pin c Arst) 0 y) = λ x y h. subst (λ b. Below b (point_of start p grown (at_pin c Arst) 0 y)) (read_at x (points p grown (at_pin c Arst)) 0) (subst (Below (has p grown x (at_pin c Arst) 0)) (read_at y (points p grown (at_pin c Arst)) 0) (free_has links wires fresh named outputs width states are over frames p x y h (at_pin c Arst) free_reset 0)) in
          let coded = constant_coded width states are value r i there known wide k lt in
          let was = was_active_mono reset f.first (point_of start p grown (at_pin c Arst) 0 a) (point_of start p grown (at_pin c Arst) 0 z) (control a z old) in
          let taken : Below (apart (taken_in f.order (was_active reset f.first (point_of start p grown (at_pin c Arst) 0 a)) (slice_index_or value k X) (point_of start p grown (at_pin c D) k a)) (slice_index_or r k X)) (taken_in g.order (was_active reset g.first (point_of start p grown (at_pin c Arst) 0 z)) (slice_index_or new i X) (point_of start p grown d i z)) =
          subst (λ h. Below (apart (taken_in f.order (was_active reset f.first (point_of start p grown (at_pin c Arst) 0 a)) (slice_index_or value k X) (point_of start p grown (at_pin c D) k a)) (slice_index_or r k X)) (taken_in h.order (was_active reset h.first (point_of start p grown (at_pin c Arst) 0 z)) (slice_index_or new i X) (point_of start p grown d i z))) same
          (taken_apart f.order (was_active reset f.first (point_of start p grown (at_pin c Arst) 0 a)) (was_active reset f.first (point_of start p grown (at_pin c Arst) 0 z)) (slice_index_or value k X) (point_of start p grown (at_pin c D) k a) (slice_index_or r k X) (slice_index_or new i X) (point_of start p grown d i z) was coded datum_kept) in
          subst (λ b. Below (apart b (slice_index_or r k X)) (read w (point p grown (OnWire o)))) (sym (adff_takes start p grown c k q a xs f v))
          (Below_trans _ _ _
          (reset_apart (active_of reset (point_of start p grown (at_pin c Arst) 0 v)) (active_of reset (point_of start p grown (at_pin c Arst) 0 w)) (slice_index_or value k X) _ (slice_index_or r k X) (slice_index_or new i X) _
          (control_mono reset (point_of start p grown (at_pin c Arst) 0 v) (point_of start p grown (at_pin c Arst) 0 w) (control v w rel)) coded (register_kept _ _ taken))
          (subst (λ b. Below b (read w (point p grown (OnWire o)))) (adff_like_takes start p grown c count level reset new (at_pin c Clk) (at_pin c Arst) d code i o z ys g w) row))
