-- Each race of a process is met once its reset is a level.
use Rattle.std.proofs.Common.{◌≡◌, ℕ, zero, suc, Bool, true, false, ◌||◌, List, ◌∷◌, ◌++◌, Some, ◌⊎◌, inl, inr, refl, sym, ◌∙◌, ap, subst}
use Rattle.std.specs.Prelude.{map, not}
use Rattle.rtl_bits.specs.declared.bit.Bit.{Bit}
use Rattle.rtl_bits.specs.declared.bit.Bit.TheVariants.{S0, S1}
use Rattle.rtl_bits.specs.Knowledge.{Below}
use Rattle.rtl_bits.specs.Tables.{mux_of, seen_of}
use Rattle.rtl_bits.proofs.Orders.{Below_trans}
use Rattle.rtl_sig.specs.declared.sig.SigBit.{SigBit}
use Rattle.rtl_sig.specs.declared.sig.SigBit.TheVariants.{Fixed, Wire as OnWire}
use Rattle.rtl_sig.specs.declared.sig.WireBit.{WireBit}
use Rattle.cell_gate.specs.Control.{active_of}
use Rattle.rtl_ir.specs.Assigns.{tree_bits}
use Rattle.rtl_ir.specs.Decisions.{case_decision, expanded, leaves_of}
use Rattle.rtl_ir.specs.EventTests.{switch_test}
use Rattle.rtl_ir.specs.Faults.TwoEdges.{EdgeBit, are_all, are_one_constant, decided, resets_bit}
use Rattle.rtl_ir.specs.Flat.Cell as flat
use Rattle.rtl_ir.specs.Flat.Driver.{Driven}
use Rattle.rtl_ir.specs.Flat.Link.{link_rows}
use Rattle.rtl_ir.specs.Flat.Place.{Path, Place}
use Rattle.rtl_ir.specs.Flat.Point.{bit_place}
use Rattle.rtl_ir.specs.Flat.Process.{edge_row, level_after, loaded_row, no_modules, raced_row, rules_rows, tree_bit_rows}
use Rattle.rtl_ir.specs.Flat.Start.{start_of}
use Rattle.rtl_ir.specs.Follow.{all_joins, source_at}
use Rattle.rtl_ir.specs.declared.follow.Join.{Join}
use Rattle.rtl_ir.specs.Rules.{acting_rules}
use Rattle.rtl_ir.specs.SwitchRules.{root_by_rules}
use Rattle.rtl_ir.specs.Types.{Ports}
use Rattle.rtl_ir.specs.declared.module.Module.{Module}
use Rattle.rtl_ir.specs.declared.process.Process.{Process}
use Rattle.net_model.proofs.Members.{In-right}
use Rattle.net_model.proofs.Relating.{reached_solved, solved_within}
use Rattle.net_model.specs.Lists.{Distinct, In}
use Rattle.net_model.specs.Order.{Manner}
use Rattle.net_model.specs.Proc.Reset.{active_leaves, reset_places, reset_rule, with_level}
use Rattle.net_model.specs.Refine.{Solved}
use Rattle.net_model.specs.Relate.{Reached, is_zero}
use Rattle.net_model.specs.Run.{Start, Step, Time}
use Rattle.net_model.specs.Valuation.{Valuation}
use Rattle.net_model.specs.Value.{value_of}
use Rattle.net_model.specs.declared.order.Order.{Order}
use Rattle.net_model.specs.declared.order.Order.TheVariants.{Together, Released}
use Rattle.build_laws.proofs.Staying.{SameAccesses}
use Rattle.pass_laws.proofs.Faultless.{AreFit}
use Rattle.reset_laws.proofs.AfterPlaces.{all_in, constant_leaves, own_leaves, set_at, unset_at}
use Rattle.reset_laws.proofs.AfterRace.{IsRace, SameTests}
use Rattle.reset_laws.proofs.AfterRows.{register}
use Rattle.reset_laws.proofs.AfterRules.{reset_joins}
use Rattle.reset_laws.proofs.ChoiceEven.{EvenSwitches}
use Rattle.reset_laws.proofs.ChoiceValue.{AreSeen, had}
use Rattle.reset_laws.proofs.FrameRows.{cell_there, link_there, process_there, rows_after, start}
use Rattle.reset_laws.proofs.RaceRows.{IsData, data_freed, data_seen, data_stays, held_met, raced_value, set_met, trigger, was}
use Rattle.reset_laws.proofs.TestSeen.{switch_seen}
use Rattle.reset_laws.proofs.TreeExpanded.{AreDecided, freed}

seen_less : (a c : Bit) → Below a (seen_of c) → Below a c
seen_less a S0 h = h
seen_less a S1 h = h
seen_less S0 c h = by c h
  where
    by : (c : Bit) → seen_of c ≡ S0 → c ≡ S0
    by S0 e = refl
    by S1 e = absurd (cc)
    by c e = absurd (cc)
seen_less S1 c h = by c h
  where
    by : (c : Bit) → seen_of c ≡ S1 → c ≡ S1
    by S1 e = refl
    by S0 e = absurd (cc)
    by c e = absurd (cc)
seen_less a c h = tt

-- an active control picks its value
active_sets : (b a c s : Bit) → s ≡ S1 → Below b (mux_of a c s) → Below b c
active_sets b a c s e h = seen_less b c (subst (λ z. Below b (mux_of a c z)) e h)

module _ (ports : Ports) (over : flat.Ports) (m : Module) (pre post : List Process) (q : Process) (tests : SameTests ports m) (fit : AreFit m.cells) (even : EvenSwitches q.root.switches) (race : IsRace ports m (pre ++ post) q) (distinct : Distinct (map (λ (j : Join). j.bit) (all_joins race.lines))) where
  abbrev bits : List WireBit
  bits = tree_bits q.root

  abbrev reset : EdgeBit
  reset = race.reset

  abbrev js : List Join
  js = all_joins race.lines

  abbrev leaves : Join → List SigBit
  leaves j = active_leaves ports m q.root bits reset j

  -- the process after the step
  abbrev pub r : Process
  r = with_level ports m (pre ++ post) q reset race.lines

  leaves_same : (j : Join) → leaves j ≡ active_leaves no_modules m q.root bits reset j
  leaves_same j = ap (λ t. leaves_of (decided t reset.level (expanded q.root bits j.source))) (tests reset.bit)

  module _ (p : Path) (starts : start_of m.wires (pre ++ q ∷ post) ≡ start_of m.wires (pre ++ r ∷ post)) (accesses : SameAccesses (pre ++ q ∷ post) (pre ++ r ∷ post)) where
    abbrev pub after : List Driven
    after = rows_after over m pre post q r p starts accesses

    abbrev begun : SigBit → Bit
    begun = start over m pre post q r p starts accesses

    -- what the tree bits have, while the tree stays, or once its tests of the reset are decided and no bit holds
    abbrev pub TreesStay : Type 0
    TreesStay = (t : Time Place) (v : Valuation) → Solved after t v → AreDecided p m.wires v bits (case_decision q.root)

    abbrev pub TreesFreed : Type 0
    TreesFreed =
        ((t : Time Place) (v : Valuation) → Solved after t v → AreDecided p m.wires v bits (case_decision (freed p m.wires v (switch_test no_modules m reset.bit) (not reset.level) q.root)))
        × ((j : Join) → In j js → are_all j.bit (leaves j) ≡ false)

    row_of : Join → Driven
    row_of j = register begun p m.wires m r.root (tree_bits r.root) leaves reset race.lines race.clock j

    row_there : (j : Join) → In j js → In (row_of j) after
    unfolding row_of
    row_there j i =
        process_there over m pre post q r p starts accesses (row_of j)
        (In-right (row_of j) (tree_bit_rows begun p m.wires (root_by_rules r.root) (tree_bits r.root)) (rules_rows begun p m.wires m (root_by_rules r.root) (tree_bits r.root) (acting_rules r.syncs))
        (race.after begun p m.wires (root_by_rules r.root) (tree_bits r.root) leaves j i))

    -- a bit is set to a constant, or holds
    data_of : Join → Type 0
    data_of j =
        ((c : Bit) × ((s : SigBit) → In s (active_leaves no_modules m q.root bits reset j) → s ≡ Fixed c) × (row_of j ≡ loaded_row begun p m.wires (trigger race.clock) (trigger reset) (Some (Fixed c)) j))
        ⊎ (((s : SigBit) → In s (active_leaves no_modules m q.root bits reset j) → s ≡ OnWire j.bit) × (are_all j.bit (leaves j) ≡ true) × (row_of j ≡ edge_row begun p m.wires (trigger race.clock) j))

    sort_of : (j : Join) → In j js → data_of j
    unfolding data_of row_of
    sort_of j i = by (are_one_constant (leaves j)) refl (all_in (resets_bit ports m q.root bits reset) js race.resets j i)
      where
        joins_are : all_joins (reset_rule leaves reset race.lines).updates ≡ reset_places leaves js
        joins_are = reset_joins leaves reset race.lines

        by : (t : Bool) → are_one_constant (leaves j) ≡ t → (are_one_constant (leaves j) || are_all j.bit (leaves j)) ≡ true → data_of j
        by true e h =
            let is = constant_leaves (leaves j) e in
            inl (is.value, λ s k. is.all s (subst (In s) (sym (leaves_same j)) k), ap (λ o. loaded_row begun p m.wires (trigger race.clock) (trigger reset) o j) (ap (λ z. source_at z j.bit) joins_are ∙ set_at leaves js distinct j i is e))
        by false e h =
            let all : are_all j.bit (leaves j) ≡ true = ap (λ t. t || are_all j.bit (leaves j)) (sym e) ∙ h in
            inr (λ s k. own_leaves j.bit (leaves j) all s (subst (In s) (sym (leaves_same j)) k), all, ap (λ o. loaded_row begun p m.wires (trigger race.clock) (trigger reset) o j) (ap (λ z. source_at z j.bit) joins_are ∙ unset_at leaves js distinct j i e))

    -- while the reset was active, not in the first step, a bit that it sets had its constant
    module _ (j : Join) (i : In j js) (c : Bit) (is : row_of j ≡ loaded_row begun p m.wires (trigger race.clock) (trigger reset) (Some (Fixed c)) j) where
      abbrev own : Place
      own = bit_place p m.wires j.bit

      kept : (n : ℕ) (t : Time Place) (v : Valuation) → Reached n after t v → is_zero n ≡ false → active_of (level_after reset.level) (v (bit_place p m.wires reset.bit)) ≡ S1 → Below (v own) c
      kept zero t v s e h = absurd (cc)
      kept (suc n) Start v s e h = absurd s
      kept (suc n) (Step y x manner) v s e h =
          by manner.order (subst (λ (z : Driven). Below (v z.place) (value_of z.driver (Step y x manner) v)) is (s.0.tight (row_of j) (row_there j i)))
        where
          by : (o : Order) → Below (v own) (value_of (loaded_row begun p m.wires (trigger race.clock) (trigger reset) (Some (Fixed c)) j).driver (Step y x (record { first = manner.first; order = o })) v) → Below (v own) c
          by Together = active_sets (v own) _ c (active_of (level_after reset.level) (v (bit_place p m.wires reset.bit))) h
          by Released = active_sets (v own) _ c (active_of (level_after reset.level) (v (bit_place p m.wires reset.bit))) h

    module _ (trees : TreesStay ⊎ TreesFreed) where
      -- of two times the later one
      met_step : (n : ℕ) (y w : Valuation) (x : List Bit) (manner : Manner) → Reached (suc n) after (Step y x manner) w → (j : Join) → In j js → Below (raced_value m p begun q.root bits race.clock reset j even y w x manner) (w (bit_place p m.wires j.bit))
      unfolding data_of
      met_step n y w x manner s j i = by (sort_of j i)
        where
          before : Solved after s.2.0 y
          before = reached_solved after n s.2.0 y s.2.1

          links : Solved (link_rows p m.wires m.links) s.2.0 y
          links = solved_within (link_rows p m.wires m.links) after (λ d k. link_there over m pre post q r p starts accesses d k) s.2.0 y before

          seen : AreSeen p m.wires y (switch_test no_modules m reset.bit) (y (bit_place p m.wires reset.bit))
          seen = switch_seen m p s.2.0 y begun over links (λ d k. before.met d (cell_there over m pre post q r p starts accesses d k)) fit no_modules reset.bit

          met : (d : Driven) → row_of j ≡ d → Below (value_of d.driver (Step y x manner) w) (w d.place)
          met d e = subst (λ (z : Driven). Below (value_of z.driver (Step y x manner) w) (w z.place)) e (s.0.met (row_of j) (row_there j i))

          stay : TreesStay → Below (was m p begun q.root bits race.clock reset j even y w x manner) (had p m.wires y j.source)
          stay h = data_seen m p begun q.root bits race.clock reset j even y w x manner seen (h s.2.0 y before)

          given : TreesStay ⊎ TreesFreed → IsData m p begun q.root bits race.clock reset j even y w x manner
          given (inl h) = data_stays m p begun q.root bits race.clock reset j even y w x manner (stay h)
          given (inr h) = data_freed m p begun q.root bits race.clock reset j even y w x manner (h.0 s.2.0 y before)

          no_hold : TreesStay ⊎ TreesFreed → are_all j.bit (leaves j) ≡ true → TreesStay
          no_hold (inl h) e = h
          no_hold (inr h) e = absurd (let no : true ≡ false = sym e ∙ h.1 j i in cc)

          by : data_of j → Below (raced_value m p begun q.root bits race.clock reset j even y w x manner) (w (bit_place p m.wires j.bit))
          by (inl k) =
              let row : Driven = loaded_row begun p m.wires (trigger race.clock) (trigger reset) (Some (Fixed k.0)) j in
              Below_trans _ (value_of row.driver (Step y x manner) w) (w (bit_place p m.wires j.bit))
              (set_met m p begun q.root bits race.clock reset j even y w x manner k.0 k.1 (λ e. kept j i k.0 k.2 n s.2.0 y s.2.1 (sym s.1 ∙ e)) (given trees))
              (met row k.2)
          by (inr k) =
              let row : Driven = edge_row begun p m.wires (trigger race.clock) j in
              Below_trans _ (value_of row.driver (Step y x manner) w) (w (bit_place p m.wires j.bit))
              (held_met m p begun q.root bits race.clock reset j even y w x manner k.0 (stay (no_hold trees k.1)))
              (met row k.2)

      met_start : (w : Valuation) → Solved after Start w → (j : Join) → In j js → Below (begun (OnWire j.bit)) (w (bit_place p m.wires j.bit))
      unfolding data_of
      met_start w s j i = by (sort_of j i)
        where
          met : (d : Driven) → row_of j ≡ d → Below (value_of d.driver Start w) (w d.place)
          met d e = subst (λ (z : Driven). Below (value_of z.driver Start w) (w z.place)) e (s.met (row_of j) (row_there j i))

          by : data_of j → Below (begun (OnWire j.bit)) (w (bit_place p m.wires j.bit))
          by (inl k) = met (loaded_row begun p m.wires (trigger race.clock) (trigger reset) (Some (Fixed k.0)) j) k.2
          by (inr k) = met (edge_row begun p m.wires (trigger race.clock) j) k.2

      -- each race is met
      pub race_met : (n : ℕ) (u : Time Place) (w : Valuation) → Reached n after u w → (j : Join) → In j js → Below (value_of (raced_row begun p m.wires m q.root bits race.clock reset j).driver u w) (w (bit_place p m.wires j.bit))
      race_met zero Start w s j i = met_start w s j i
      race_met (suc n) (Step y x manner) w s j i = met_step n y w x manner s j i
      race_met zero (Step y x manner) w s j i = absurd s
      race_met (suc n) Start w s j i = absurd s
