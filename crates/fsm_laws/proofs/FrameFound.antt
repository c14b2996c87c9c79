-- What is asked of the module as a whole: names, states, fresh wires and connections.
use Rattle.std.proofs.Common.{◌≡◌, ◌<◌, ◌≤◌, ℕ, suc, ◌+◌, Bool, true, false, cond, List, [], ◌∷◌, length, map, Option, Some, None, inl, inr, ⊎_elim, refl, sym, ◌∙◌, ap, subst, arith}
use Rattle.std.specs.Prelude.{slice_get}
use Rattle.std.specs.List.{range_with_len}
use Rattle.std.specs.Option.{option_map_or}
use Rattle.std.proofs.lemmas.Bool.{and_parts}
use Rattle.rtl_sig.specs.declared.sig.SigBit.{SigBit}
use Rattle.rtl_sig.specs.declared.sig.SigBit.TheVariants.{Fixed, Wire as OnWire}
use Rattle.rtl_sig.specs.declared.sig.WireBit.{WireBit}
use Rattle.cell_types.specs.declared.kind.CellKind.{CellKind}
use Rattle.cell_types.specs.declared.kind.CellKind.TheVariants.{Storage, Word}
use Rattle.cell_types.specs.declared.pin_name.PinName.TheVariants.{D, Q, Y}
use Rattle.cell_types.specs.declared.storage.StorageKind.TheVariants.{Adff, Dff}
use Rattle.cell_types.specs.declared.word.WordKind.TheVariants.{Mux, Pmux}
use Rattle.rtl_ir.specs.Build.{whole}
use Rattle.rtl_ir.specs.Flat.Cell as flat
use Rattle.rtl_ir.specs.Flat.Cell.{cell_kind}
use Rattle.rtl_ir.specs.Follow.{all_joins, back, follow}
use Rattle.rtl_ir.specs.declared.follow.Join.{Join}
use Rattle.rtl_ir.specs.Signals.{same_bit, same_signal}
use Rattle.rtl_ir.specs.Types.{Ports}
use Rattle.rtl_ir.specs.declared.cell.Cell.{Cell}
use Rattle.rtl_ir.specs.declared.machine.Machine.{Machine}
use Rattle.rtl_ir.specs.declared.module.Module.{Module}
use Rattle.rtl_ir.specs.declared.wire.Wire.{Wire}
use Rattle.net_model.proofs.Members.{In-cases}
use Rattle.net_model.proofs.Ranges.{JoinIn, all_joins_in}
use Rattle.net_model.specs.Fsm.Code.{Output}
use Rattle.net_model.specs.Fsm.Find.{at_pin, has_place, is_flop, is_fork, reset_value, rising_places, start_bits}
use Rattle.net_model.specs.Lists.{Distinct, In}
use Rattle.net_model.specs.Refine.{IsWellDriven}
use Rattle.net_model.specs.Within.{AreInner, BitIn}
use Rattle.pass_laws.specs.Ready.{IsReady}
use Rattle.follow_laws.proofs.Following.{same_bit-same}
use Rattle.fsm_laws.proofs.StatesFound.{states_are}
use Rattle.fsm_laws.specs.Carried.{Carrier, carrier_in, carrier_of, place_in}
use Rattle.fsm_laws.specs.Machines.{IsFoundMachine}
use Rattle.fsm_laws.specs.Recoded.{outputs_made}
use Rattle.fsm_laws.specs.Recodes.{IsOf}
use Rattle.fsm_laws.specs.States.{AreStates}
use Rattle.fsm_laws.proofs.Asked.{asked_of}
use Rattle.fsm_laws.proofs.Formed.{inner}
use Rattle.fsm_laws.proofs.Places.{has_in, in_passed}
use Rattle.fsm_laws.proofs.Trees.{IsForkAt, tree_forks}
use Rattle.fsm_laws.proofs.OneDriver.{Gives, cell_there, no_connection, one_connection}
use Rattle.fsm_laws.proofs.Setting.{fresh, outputs, state}
use Rattle.fsm_laws.proofs.Widths.{leaves_wide, reset_known, reset_wide, start_wide}
use Rattle.pass_laws.proofs.SamePlaces.{signal_is}

-- a bit that has a place in a signal stands there
place_there : (signal : List SigBit) (b : WireBit) (at k : ℕ) → place_in signal b at ≡ Some k → (j : ℕ) × ((k ≡ at + j) × (slice_get signal j ≡ Some (OnWire b)))
place_there [] b at k e = absurd (cc)
place_there (Fixed c ∷ signal) b at k e =
    let later = place_there signal b (at + 1) k e in
    (suc later.0, (omega (arith, later.1.0), later.1.1))
place_there (OnWire x ∷ signal) b at k e = by (place_there signal b (at + 1) k) (same_bit x b) refl e
  where
    by : (place_in signal b (at + 1) ≡ Some k → (j : ℕ) × ((k ≡ (at + 1) + j) × (slice_get signal j ≡ Some (OnWire b)))) → (t : Bool) → same_bit x b ≡ t → cond t (Some at) (place_in signal b (at + 1)) ≡ Some k → (j : ℕ) × ((k ≡ at + j) × (slice_get (OnWire x ∷ signal) j ≡ Some (OnWire b)))
    by later true f g =
        let same : at ≡ k = cc in
        (0, (omega (arith, same), ap (λ z. Some (OnWire z)) (same_bit-same x b f)))
    by later false f g =
        let found = later g in
        (suc found.0, (omega (arith, found.1.0), found.1.1))

-- one that carries something stands in one of the outputs
pub carrier_there : (outs : List Output) (b : WireBit) (y : Carrier) → carrier_in outs b ≡ Some y → (o : Output) × (In o outs × ((j : ℕ) × (slice_get o.before j ≡ Some (OnWire b))))
carrier_there [] b y e = absurd (cc)
carrier_there (o ∷ outs) b y e = by (place_in o.before b 0) refl e (carrier_there outs b y)
  where
    by : (p : Option ℕ) → place_in o.before b 0 ≡ p → option_map_or (λ k. Some (record { code = o.after; bit = k })) p (carrier_in outs b) ≡ Some y → (carrier_in outs b ≡ Some y → (x : Output) × (In x outs × ((j : ℕ) × (slice_get x.before j ≡ Some (OnWire b)))))
        → (x : Output) × (In x (o ∷ outs) × ((j : ℕ) × (slice_get x.before j ≡ Some (OnWire b))))
    by None f g later = let k = later g in (k.0, (inr k.1.0, k.1.1))
    by (Some k) f g later = let there = place_there o.before b 0 k f in (o, (inl refl, (there.0, there.1.1)))

-- an output of the tree is the Y of a cell of it
pub output_from : (width : ℕ) (cells : List Cell) (wire : ℕ) (places : List ℕ) (o : Output) → In o (outputs_made width cells wire places) → (at : ℕ) × ((c : Cell) × ((In at places) × (slice_get cells at ≡ Some c) × (o.before ≡ at_pin c Y)))
output_from width cells wire [] o i = absurd i
output_from width cells wire (at ∷ places) o i =
    ⊎_elim (λ l. here (slice_get cells at) refl l) (λ r. let k = output_from width cells (wire + 1) places o r in (k.0, (k.1.0, (inr k.1.1.0, k.1.1.1, k.1.1.2))))
    (In-cases o (option_map_or (λ (c : Cell). record { before = at_pin c Y; after = whole wire width } ∷ []) (slice_get cells at) []) (outputs_made width cells (wire + 1) places) i)
  where
    here : (f : Option Cell) → slice_get cells at ≡ f → In o (option_map_or (λ (c : Cell). record { before = at_pin c Y; after = whole wire width } ∷ []) f []) → (p : ℕ) × ((c : Cell) × ((In p (at ∷ places)) × (slice_get cells p ≡ Some c) × (o.before ≡ at_pin c Y)))
    here None f j = absurd j
    here (Some c) f (inl e) = (at, (c, (inl refl, f, ap (λ (z : Output). z.before) e)))
    here (Some c) f (inr j) = absurd j

own_bit : (wires : List Wire) (s : SigBit) → BitIn (length wires) s → IsOf wires s
own_bit wires (Fixed c) h = tt
own_bit wires (OnWire b) h = h

module _ (ports : Ports) (m : Module) (at : ℕ) (machine : Machine) (found : IsFoundMachine ports m at machine) (ready : IsReady ports m) where
  pub named_found : Distinct (map (λ (w : Wire). w.name) m.wires)
  named_found = ready.named

  pub states_found : AreStates found.wire.width machine.states
  states_found =
      subst (λ (z : Machine). AreStates found.wire.width z.states) (sym found.made)
      (states_are found.wire.width found.tree.leaves (reset_value found.flop) (start_bits m (state ports m at machine found)) (leaves_wide ports m at machine found ready) (reset_known ports m at machine found ready) (reset_wide ports m at machine found ready) (start_wide ports m at machine found ready)
      (subst (λ (z : Machine). 2 ≤ length z.states) found.made (asked_of ports m at machine found).two))

  pub few_found : length machine.states ≤ 65536
  few_found = omega (arith, (asked_of ports m at machine found).few)

  pub inner_found : AreInner (fresh ports m at machine found)
  inner_found = inner m machine

  -- the cells of the tree
  pub fork_found : (p : ℕ) → In p machine.muxes → IsForkAt m p
  fork_found p i =
      let j : In p (rising_places (length m.cells) found.tree.forks) = subst (In p) (ap (λ (z : Machine). z.muxes) found.made) i in
      let has : has_place found.tree.forks p ≡ true = in_passed (has_place found.tree.forks) (range_with_len 0 (length m.cells)) p j in
      tree_forks m (state ports m at machine found) (length m.cells + 1) (map (follow m.links) (at_pin found.flop D)) found.tree found.tree_is p (has_in found.tree.forks p has)

  module _ (any : flat.Ports) (driven : IsWellDriven any m) where
    abbrev IsGiven : Cell → WireBit → Type 0
    IsGiven c b = Gives any m driven c b

    pub flop_gives : (k : ℕ) (b : WireBit) → slice_get (at_pin found.flop Q) k ≡ Some (OnWire b) → IsGiven found.flop b
    flop_gives k b e = by (cell_kind found.flop) refl (and_parts (is_flop (cell_kind found.flop)) (same_signal (at_pin found.flop Q) (state ports m at machine found)) found.flop_is).0
      where
        by : (o : Option CellKind) → cell_kind found.flop ≡ o → is_flop o ≡ true → IsGiven found.flop b
        by (Some (Storage Dff)) own f = record { kind = Storage Dff; own = own; plain = refl; place = k; there = e }
        by (Some (Storage Adff)) own f = record { kind = Storage Adff; own = own; plain = refl; place = k; there = e }
        by o own f = absurd (cc)

    pub fork_gives : (c : Cell) → is_fork (cell_kind c) ≡ true → (k : ℕ) (b : WireBit) → slice_get (at_pin c Y) k ≡ Some (OnWire b) → IsGiven c b
    fork_gives c fork k b e = by (cell_kind c) refl fork
      where
        by : (o : Option CellKind) → cell_kind c ≡ o → is_fork o ≡ true → IsGiven c b
        by (Some (Word Mux)) own f = record { kind = Word Mux; own = own; plain = refl; place = k; there = e }
        by (Some (Word Pmux)) own f = record { kind = Word Pmux; own = own; plain = refl; place = k; there = e }
        by o own f = absurd (cc)

    -- a bit of an output is driven by no connection
    pub output_stops : (o : Output) → In o (outputs ports m at machine found) → (k : ℕ) (b : WireBit) → slice_get o.before k ≡ Some (OnWire b) → back (all_joins m.links) (OnWire b) ≡ None
    output_stops o (inl e) k b there =
        let is : at_pin found.flop Q ≡ state ports m at machine found = signal_is (at_pin found.flop Q) (state ports m at machine found) (and_parts (is_flop (cell_kind found.flop)) (same_signal (at_pin found.flop Q) (state ports m at machine found)) found.flop_is).1 in
        let bit : slice_get (at_pin found.flop Q) k ≡ Some (OnWire b) = ap (λ s. slice_get s k) (is ∙ ap (λ (z : Output). z.before) (sym e)) ∙ there in
        no_connection any m driven found.flop (cell_there m.cells found.place found.flop found.flop_there) b (flop_gives k b bit)
    output_stops o (inr i) k b there =
        let from = output_from (length machine.states) m.cells (length m.wires + 1) machine.muxes o i in
        let fork = fork_found from.0 from.1.1.0 in
        let both : Some fork.cell ≡ Some from.1.0 = sym fork.there ∙ from.1.1.1 in
        let same : fork.cell ≡ from.1.0 = cc in
        let bit : slice_get (at_pin from.1.0 Y) k ≡ Some (OnWire b) = ap (λ s. slice_get s k) (sym from.1.1.2) ∙ there in
        no_connection any m driven from.1.0 (cell_there m.cells from.0 from.1.0 from.1.1.1) b (fork_gives from.1.0 (ap (λ (z : Cell). is_fork (cell_kind z)) (sym same) ∙ fork.fork) k b bit)

    pub stop_found : (s r : SigBit) → back (all_joins m.links) s ≡ Some r → carrier_of (outputs ports m at machine found) s ≡ None
    stop_found (Fixed c) r e = refl
    stop_found (OnWire b) r e = by (carrier_in (outputs ports m at machine found) b) refl
      where
        by : (o : Option Carrier) → carrier_in (outputs ports m at machine found) b ≡ o → o ≡ None
        by None f = refl
        by (Some y) f =
            let there = carrier_there (outputs ports m at machine found) b y f in
            let none : back (all_joins m.links) (OnWire b) ≡ None = output_stops there.0 there.1.0 there.1.1.0 b there.1.1.1 in
            let no : None ≡ Some r = sym none ∙ e in
            absurd (cc)

    pub links_found : (j : Join) → In j (all_joins m.links) → (back (all_joins m.links) (OnWire j.bit) ≡ Some j.source) × ((j.bit.wire < length m.wires) × IsOf m.wires j.source)
    links_found j i =
        let inside : JoinIn (length m.wires) j = all_joins_in (length m.wires) m.links ready.within.links j i in
        (one_connection any m driven j i, (inside.bit, own_bit m.wires j.source inside.source))
