-- No bit of a port carries anything of the state.
use Rattle.std.proofs.Common.{◌≡◌, ◌<◌, ℕ, zero, suc, ◌+◌, Bool, true, false, cond, List, [], ◌∷◌, ◌++◌, length, map, filter, Option, Some, None, inl, inr, refl, sym, ◌∙◌, ap, subst, arith}
use Rattle.std.specs.Prelude.{ℤ, int_lt, pos, ◌&&◌, ◌||◌, not, option_and_then, slice_get}
use Rattle.std.specs.List.{list_any, range_with_len}
use Rattle.std.specs.Ordering.{int_eq}
use Rattle.std.proofs.lemmas.Bool.{and_parts, or_parts}
use Rattle.rtl_sig.specs.declared.sig.SigBit.{SigBit}
use Rattle.rtl_sig.specs.declared.sig.SigBit.TheVariants.{Wire as OnWire}
use Rattle.rtl_sig.specs.declared.sig.WireBit.{WireBit}
use Rattle.cell_types.specs.declared.pin_name.PinName.TheVariants.{Q, Y}
use Rattle.rtl_ir.specs.Fault.{BadPort, fault_if, spot}
use Rattle.rtl_ir.specs.Faults.Wires.{is_bad_port, is_inout, wire_faults, with_number}
use Rattle.rtl_ir.specs.Flat.Cell as flat
use Rattle.rtl_ir.specs.Flat.Cell.{cell_kind}
use Rattle.rtl_ir.specs.Flat.Driver.{Driven}
use Rattle.rtl_ir.specs.Flat.Place.{OfWire, Place}
use Rattle.rtl_ir.specs.Flat.Point.{bit_place, name_or_empty}
use Rattle.rtl_ir.specs.Flat.Rows.{rows_of}
use Rattle.rtl_ir.specs.Follow.{all_joins, back, follow, source_at}
use Rattle.rtl_ir.specs.Outputs.{is_output}
use Rattle.rtl_ir.specs.Ports.{in_number_order, is_port, line_of, ports_of}
use Rattle.rtl_ir.specs.Signals.{bits_of_wire, has_bit, same_bit, wire_bits, same_signal}
use Rattle.rtl_ir.specs.Types.{Ports}
use Rattle.rtl_ir.specs.declared.cell.Cell.{Cell}
use Rattle.rtl_ir.specs.declared.machine.Machine.{Machine}
use Rattle.rtl_ir.specs.declared.module.Module.{Module}
use Rattle.rtl_ir.specs.declared.ports.PortLine.{PortLine}
use Rattle.rtl_ir.specs.declared.wire.Role.{Role}
use Rattle.rtl_ir.specs.declared.wire.Role.TheVariants.{Inner, Input, Output, Inout}
use Rattle.rtl_ir.specs.declared.wire.Wire.{Wire}
use Rattle.net_model.proofs.Members.{In-mapped}
use Rattle.net_model.specs.Fsm.Code as code
use Rattle.net_model.specs.Fsm.Find.{at_pin, followed_bits, is_flop, is_fork, meets_any, ports_read_well, tree_outputs, whole_wire}
use Rattle.net_model.specs.Lists.{In}
use Rattle.net_model.specs.Refine.{IsWellDriven, places_of}
use Rattle.net_model.specs.Within.{Each}
use Rattle.pass_laws.proofs.Faultless.{no_faults, none_left, none_right}
use Rattle.pass_laws.specs.Ready.{IsReady}
use Rattle.follow_laws.proofs.Following.{stays}
use Rattle.rtl_ir.specs.Scope.{without_processes}
use Rattle.fsm_laws.proofs.Carrying.{named_at}
use Rattle.fsm_laws.specs.Carried.{Carrier, carrier_in, carrier_of, spot_carrier, wire_named}
use Rattle.fsm_laws.specs.Machines.{IsFoundMachine}
use Rattle.fsm_laws.specs.Recodes.{IsOf}
use Rattle.fsm_laws.proofs.Free.{asked_reads, free_signal}
use Rattle.fsm_laws.proofs.FrameFound.{carrier_there, flop_gives, fork_found, fork_gives, output_from}
use Rattle.fsm_laws.proofs.OneDriver.{Gives, cell_there, given_row, joined_row}
use Rattle.fsm_laws.proofs.Setting.{outputs, state}
use Rattle.pass_laws.proofs.Ports.{has_ordered}
use Rattle.pass_laws.proofs.SamePlaces.{signal_is}

-- a port is one of the wires
filtered : (w : Wire) (ws : List Wire) → In w (filter (λ (v : Wire). is_port v.role) ws) → (k : ℕ) × ((slice_get ws k ≡ Some w) × (is_port w.role ≡ true))
filtered w [] i = absurd i
filtered w (v ∷ ws) i = by (filtered w ws) (is_port v.role) refl i
  where
    by : (In w (filter (λ (v : Wire). is_port v.role) ws) → (k : ℕ) × ((slice_get ws k ≡ Some w) × (is_port w.role ≡ true))) → (t : Bool) → is_port v.role ≡ t → In w (cond t (v ∷ filter (λ (v : Wire). is_port v.role) ws) (filter (λ (v : Wire). is_port v.role) ws)) → (k : ℕ) × ((slice_get (v ∷ ws) k ≡ Some w) × (is_port w.role ≡ true))
    by later true e (inl f) = (0, (ap Some (sym f), ap (λ (z : Wire). is_port z.role) f ∙ e))
    by later true e (inr j) = let k = later j in (suc k.0, (k.1.0, k.1.1))
    by later false e j = let k = later j in (suc k.0, (k.1.0, k.1.1))

-- no wire has both directions
no_inout : (id : List ℕ) (numbers : List ℤ) (ws : List Wire) → wire_faults id numbers ws ≡ [] → (k : ℕ) (w : Wire) → slice_get ws k ≡ Some w → is_inout w.role ≡ false
no_inout id numbers [] e k w there = absurd (cc)
no_inout id numbers (v ∷ ws) e zero w there =
    let same : v ≡ w = cc in
    ap (λ (z : Wire). is_inout z.role) (sym same) ∙ by (is_inout v.role) (is_port v.role && (int_lt v.number (pos 1) || list_any (int_eq v.number) numbers)) (none_left (fault_if (is_bad_port numbers v) (BadPort (spot id v.name))) (wire_faults id (with_number numbers v) ws) e)
  where
    by : (t u : Bool) → fault_if (t || u) (BadPort (spot id v.name)) ≡ [] → t ≡ false
    by true u f = absurd (cc)
    by false u f = refl
no_inout id numbers (v ∷ ws) e (suc k) w there =
    no_inout id (with_number numbers v) ws (none_right (fault_if (is_bad_port numbers v) (BadPort (spot id v.name))) (wire_faults id (with_number numbers v) ws) e) k w there

-- bits that meet none of two lists meet none of either
has_both : (xs ys : List WireBit) (b : WireBit) → has_bit (xs ++ ys) b ≡ false → (has_bit xs b ≡ false) × (has_bit ys b ≡ false)
has_both [] ys b e = (refl, e)
has_both (x ∷ xs) ys b e =
    let parts = or_parts (same_bit b x) (has_bit (xs ++ ys) b) e in
    let later = has_both xs ys b parts.1 in
    ((λ i. parts.0 i || later.0 i), later.1)

meets_both : (bits xs ys : List WireBit) → meets_any bits (xs ++ ys) ≡ false → (meets_any bits xs ≡ false) × (meets_any bits ys ≡ false)
meets_both [] xs ys e = (refl, refl)
meets_both (b ∷ bits) xs ys e =
    let parts = or_parts (has_bit (xs ++ ys) b) (meets_any bits (xs ++ ys)) e in
    let here = has_both xs ys b parts.0 in
    let later = meets_both bits xs ys parts.1 in
    ((λ i. here.0 i || later.0 i), (λ i. here.1 i || later.1 i))

port_well : (m : Module) (bits : List WireBit) (from : ℕ) (ws : List Wire) → ports_read_well m bits from ws ≡ true → (k : ℕ) (w : Wire) → slice_get ws k ≡ Some w → is_output w.role ≡ true → meets_any (followed_bits m (whole_wire (from + k) w)) bits ≡ false
port_well m bits from [] e k w there out = absurd (cc)
port_well m bits from (v ∷ ws) e zero w there out =
    let both = and_parts (not (is_output v.role && meets_any (followed_bits m (whole_wire from v)) bits)) (ports_read_well m bits (from + 1) ws) e in
    let same : v ≡ w = cc in
    let here : from ≡ from + 0 = omega arith in
    subst (λ n. meets_any (followed_bits m (whole_wire n w)) bits ≡ false) here
    (subst (λ (z : Wire). meets_any (followed_bits m (whole_wire from z)) bits ≡ false) same (by (is_output v.role) (meets_any (followed_bits m (whole_wire from v)) bits) (ap (λ (z : Wire). is_output z.role) same ∙ out) both.0))
  where
    by : (t u : Bool) → t ≡ true → not (t && u) ≡ true → u ≡ false
    by true true f g = absurd (cc)
    by true false f g = refl
    by false u f g = absurd (cc)
port_well m bits from (v ∷ ws) e (suc k) w there out =
    let both = and_parts (not (is_output v.role && meets_any (followed_bits m (whole_wire from v)) bits)) (ports_read_well m bits (from + 1) ws) e in
    let next : (from + 1) + k ≡ from + suc k = omega arith in
    subst (λ n. meets_any (followed_bits m (whole_wire n w)) bits ≡ false) next (port_well m bits (from + 1) ws both.1 k w there out)

-- the bits of a whole wire
whole_has : (wire from width k : ℕ) → k < width → In (OnWire (record { wire = wire; at = from + k })) (map OnWire (map (λ at. record { wire = wire; at = at }) (range_with_len from width)))
whole_has wire from zero k h = absurd (omega (arith, h))
whole_has wire from (suc width) zero h = let here : from + 0 ≡ from = omega arith in inl (ap (λ n. OnWire (record { wire = wire; at = n })) here)
whole_has wire from (suc width) (suc k) h =
    let next : (from + 1) + k ≡ from + suc k = omega arith in
    inr (subst (λ n. In (OnWire (record { wire = wire; at = n })) (map OnWire (map (λ at. record { wire = wire; at = at }) (range_with_len (from + 1) width)))) next (whole_has wire (from + 1) width k (omega (arith, h))))

whole_own : (m : Module) (x : ℕ) (w : Wire) → x < length m.wires → Each (IsOf m.wires) (whole_wire x w)
whole_own m x w h s i =
    let k = In-mapped OnWire s (bits_of_wire x w.width) i in
    let l = In-mapped (λ at. record { wire = x; at = at }) k.0 (range_with_len 0 w.width) k.1 in
    subst (IsOf m.wires) (sym (k.2 ∙ ap OnWire l.2)) h

inside_list : {A : Type 0} (xs : List A) (k : ℕ) (x : A) → slice_get xs k ≡ Some x → k < length xs
inside_list [] k x e = absurd (cc)
inside_list (y ∷ xs) zero x e = omega arith
inside_list (y ∷ xs) (suc k) x e = omega (arith, inside_list xs k x e)

module _ (ports : Ports) (m : Module) (at : ℕ) (machine : Machine) (found : IsFoundMachine ports m at machine) (ready : IsReady ports m) (over : flat.Ports) (driven : IsWellDriven over m) where
  abbrev GivenBy : Cell → WireBit → Type 0
  GivenBy c b = Gives over m driven c b

  -- a bit that neither a connection nor a cell drives carries nothing
  undriven_free : (b : WireBit) → back (all_joins m.links) (OnWire b) ≡ None → ((c : Cell) → In c m.cells → GivenBy c b → ⊥) → carrier_of (outputs ports m at machine found) (follow m.links (OnWire b)) ≡ None
  undriven_free b none undriven =
      ap (carrier_of (outputs ports m at machine found)) (stays m.links (OnWire b) none)
      ∙ by (carrier_in (outputs ports m at machine found) b) refl
    where
      given : (o : code.Output) → In o (outputs ports m at machine found) → (j : ℕ) → slice_get o.before j ≡ Some (OnWire b) → ⊥
      given o (inl e) j there =
          let is : at_pin found.flop Q ≡ state ports m at machine found = signal_is (at_pin found.flop Q) (state ports m at machine found) (and_parts (is_flop (cell_kind found.flop)) (same_signal (at_pin found.flop Q) (state ports m at machine found)) found.flop_is).1 in
          let bit : slice_get (at_pin found.flop Q) j ≡ Some (OnWire b) = ap (λ s. slice_get s j) (is ∙ ap (λ (z : code.Output). z.before) (sym e)) ∙ there in
          undriven found.flop (cell_there m.cells found.place found.flop found.flop_there) (flop_gives ports m at machine found ready over driven j b bit)
      given o (inr i) j there =
          let from = output_from (length machine.states) m.cells (length m.wires + 1) machine.muxes o i in
          let fork = fork_found ports m at machine found ready from.0 from.1.1.0 in
          let both : Some fork.cell ≡ Some from.1.0 = sym fork.there ∙ from.1.1.1 in
          let same : fork.cell ≡ from.1.0 = cc in
          let bit : slice_get (at_pin from.1.0 Y) j ≡ Some (OnWire b) = ap (λ s. slice_get s j) (sym from.1.1.2) ∙ there in
          undriven from.1.0 (cell_there m.cells from.0 from.1.0 from.1.1.1) (fork_gives ports m at machine found ready over driven from.1.0 (ap (λ (z : Cell). is_fork (cell_kind z)) (sym same) ∙ fork.fork) j b bit)

      by : (o : Option Carrier) → carrier_in (outputs ports m at machine found) b ≡ o → o ≡ None
      by None e = refl
      by (Some y) e =
          let there = carrier_there (outputs ports m at machine found) b y e in
          absurd (given there.0 there.1.0 there.1.1.0 there.1.1.1)

  -- a bit of an input port is driven from outside
  input_free : (line : PortLine) → In line (ports_of m.wires) → line.role ≡ Input → (b : WireBit) → bit_place [] m.wires b ≡ record { path = []; spot = OfWire line.name b.at } → carrier_of (outputs ports m at machine found) (follow m.links (OnWire b)) ≡ None
  input_free line i role b is =
      undriven_free b (no_link (source_at (all_joins m.links) b) refl) (λ c j g. no_row (given_row over m driven c j b g))
    where
      no_row : In (bit_place [] m.wires b) (places_of (rows_of over [] m)) → ⊥
      no_row j =
          let k = In-mapped (λ (x : Driven). x.place) (bit_place [] m.wires b) (rows_of over [] m) j in
          let place : k.0.place ≡ record { path = []; spot = OfWire line.name b.at } = sym k.2 ∙ is in
          driven.apart [] k.0 k.1 (ap (λ (q : Place). q.path) place) line i role (b.at, ap (λ (q : Place). q.spot) place)

      no_link : (o : Option SigBit) → source_at (all_joins m.links) b ≡ o → o ≡ None
      no_link None e = refl
      no_link (Some r) e = absurd (no_row (joined_row over m driven b r e))

  -- one of an output port leads to none of these bits
  output_free : (x : ℕ) (w : Wire) → slice_get m.wires x ≡ Some w → is_output w.role ≡ true → (k : ℕ) → k < w.width → carrier_of (outputs ports m at machine found) (follow m.links (OnWire (record { wire = x; at = k }))) ≡ None
  output_free x w there out k less =
      let here : 0 + x ≡ x = omega arith in
      let spot : 0 + k ≡ k = omega arith in
      let well : meets_any (followed_bits m (whole_wire x w)) (wire_bits (state ports m at machine found) ++ tree_outputs m machine.muxes) ≡ false = subst (λ n. meets_any (followed_bits m (whole_wire n w)) (wire_bits (state ports m at machine found) ++ tree_outputs m machine.muxes) ≡ false) here (port_well m _ 0 m.wires (asked_reads ports m at machine found).1 x w there out) in
      let parts = meets_both (followed_bits m (whole_wire x w)) (wire_bits (state ports m at machine found)) (tree_outputs m machine.muxes) well in
      let free = free_signal ports m at machine found ready (whole_wire x w) (whole_own m x w (inside_list m.wires x w there)) parts.0 parts.1 in
      let bit : In (OnWire (record { wire = x; at = k })) (whole_wire x w) = subst (λ n. In (OnWire (record { wire = x; at = n })) (whole_wire x w)) spot (whole_has x 0 w.width k less) in
      (free (OnWire (record { wire = x; at = k })) bit).none

  -- a bit that a port has
  port_free : (line : PortLine) → In line (ports_of m.wires) → (x : ℕ) (w : Wire) → slice_get m.wires x ≡ Some w → line.name ≡ w.name → line.role ≡ w.role → is_port w.role ≡ true → is_inout w.role ≡ false → (k : ℕ) → k < w.width → carrier_of (outputs ports m at machine found) (follow m.links (OnWire (record { wire = x; at = k }))) ≡ None
  port_free line i x w there name role port one k less = by w.role refl port one
    where
      b : WireBit
      b = record { wire = x; at = k }

      by : (r : Role) → w.role ≡ r → is_port r ≡ true → is_inout r ≡ false → carrier_of (outputs ports m at machine found) (follow m.links (OnWire b)) ≡ None
      by Inner e p o = absurd (cc)
      by Inout e p o = absurd (cc)
      by Input e p o =
          input_free line i (role ∙ e) b
          (ap (λ z. record { path = []; spot = OfWire (name_or_empty z) k }) there ∙ ap (λ n. record { path = []; spot = OfWire n k }) (sym name))
      by Output e p o = output_free x w there (ap is_output e) k less

  pub ports_found : (line : PortLine) → In line (ports_of m.wires) → (k : ℕ) → k < line.width → spot_carrier m.links m.wires (outputs ports m at machine found) (OfWire line.name k) ≡ None
  ports_found line i k less =
      let from = In-mapped line_of line (in_number_order (filter (λ (v : Wire). is_port v.role) m.wires)) i in
      let w : Wire = from.0 in
      let there = filtered w m.wires (has_ordered (filter (λ (v : Wire). is_port v.role) m.wires) w from.1) in
      let name : line.name ≡ w.name = ap (λ (l : PortLine). l.name) from.2 in
      let role : line.role ≡ w.role = ap (λ (l : PortLine). l.role) from.2 in
      let here : 0 + there.0 ≡ there.0 = omega arith in
      let wire : wire_named m.wires 0 line.name ≡ Some there.0 = ap (wire_named m.wires 0) name ∙ named_at m.wires 0 there.0 w ready.named there.1.0 ∙ ap Some here in
      ap (option_and_then (λ x. carrier_of (outputs ports m at machine found) (follow m.links (OnWire (record { wire = x; at = k }))))) wire
      ∙ port_free line i there.0 w there.1.0 name role there.1.1 (no_inout m.id [] m.wires (no_faults without_processes ports m ready.faultless).wires there.0 w there.1.0) k (subst (λ (l : PortLine). k < l.width) from.2 less)
