-- What a bit of a process with two edges is given is below what its register is given once the reset is a level, in either order
-- of time.
use Rattle.std.proofs.Common.{◌≡◌, Bool, true, false, List, [], ◌∷◌, length, Some, refl, sym, subst}
use Rattle.std.specs.Prelude.{if◌then◌else◌, not}
use Rattle.rtl_bits.specs.declared.bit.Bit.{Bit}
use Rattle.rtl_bits.specs.declared.bit.Bit.TheVariants.{S0, S1, X, Z, M, Dash}
use Rattle.rtl_bits.specs.Knowledge.{Below}
use Rattle.rtl_bits.specs.Tables.{merge_of}
use Rattle.rtl_bits.proofs.Orders.{Below_refl, Below_trans, merge_left, merge_right}
use Rattle.rtl_sig.specs.declared.sig.SigBit.{SigBit}
use Rattle.rtl_sig.specs.declared.sig.SigBit.TheVariants.{Fixed, Wire as OnWire}
use Rattle.rtl_sig.specs.declared.sig.WireBit.{WireBit}
use Rattle.cell_types.specs.declared.level.Level.{Level}
use Rattle.cell_gate.specs.Control.{active_of, was_of}
use Rattle.rtl_ir.specs.Decisions.{case_decision, expanded}
use Rattle.rtl_ir.specs.EventTests.{switch_test}
use Rattle.rtl_ir.specs.Faults.TwoEdges.{EdgeBit}
use Rattle.rtl_ir.specs.Flat.Driver.{Driven}
use Rattle.rtl_ir.specs.Flat.Pick.{Pick, pick_of}
use Rattle.rtl_ir.specs.Flat.Place.{Path, Place}
use Rattle.rtl_ir.specs.Flat.Point.{At, Constant, Point, bit_place, point}
use Rattle.rtl_ir.specs.Flat.Process.{Trigger, edge_row, level_after, loaded_row, no_modules, raced_row}
use Rattle.rtl_ir.specs.declared.follow.Join.{Join}
use Rattle.rtl_ir.specs.Tree.{CaseView}
use Rattle.rtl_ir.specs.declared.module.Module.{Module}
use Rattle.net_model.proofs.Choosing.{picked_kept}
use Rattle.net_model.proofs.Orders.{below}
use Rattle.net_model.proofs.Places.{place_same-same}
use Rattle.net_model.specs.Lists.{In}
use Rattle.net_model.specs.Order.{Manner}
use Rattle.net_model.specs.Picked.{own_or, picked, picked_by}
use Rattle.net_model.specs.Proc.Reset.{active_leaves}
use Rattle.net_model.specs.Run.{Step, Time}
use Rattle.net_model.specs.Valuation.{Valuation, read}
use Rattle.net_model.specs.Value.{clocked_at, edge_at, level_bit, value_of}
use Rattle.net_model.specs.declared.order.Order.{Order}
use Rattle.net_model.specs.declared.order.Order.TheVariants.{Together, Released}
use Rattle.reset_laws.proofs.ChoiceEven.{EvenSwitches, even_expanded, level_value}
use Rattle.reset_laws.proofs.ChoiceReset.{value_decided}
use Rattle.reset_laws.proofs.ChoiceValue.{AreSeen, had, picked_by_is}
use Rattle.reset_laws.proofs.RaceBits.{race_held, race_set, released_held, released_set}
use Rattle.reset_laws.proofs.TestSeen.{switch_is_test}
use Rattle.reset_laws.proofs.TreeExpanded.{AreDecided, expanded_freed, expanded_seen, freed}

level_same : (level : Bool) → level_bit (level_after level) ≡ level_value level
level_same true = refl
level_same false = refl

-- a control that is not inactive is below its level, and one that is not active below the other
not_inactive : (level : Bool) (a : Bit) → (active_of (level_after level) a ≡ S0 → ⊥) → Below a (level_value level)
not_inactive true S0 h = absurd (h refl)
not_inactive true S1 h = refl
not_inactive true X h = tt
not_inactive true Z h = tt
not_inactive true M h = tt
not_inactive true Dash h = tt
not_inactive false S0 h = refl
not_inactive false S1 h = absurd (h refl)
not_inactive false X h = tt
not_inactive false Z h = tt
not_inactive false M h = tt
not_inactive false Dash h = tt

not_active : (level : Bool) (a : Bit) → (active_of (level_after level) a ≡ S1 → ⊥) → Below a (level_value (not level))
not_active true S0 h = refl
not_active true S1 h = absurd (h refl)
not_active true X h = tt
not_active true Z h = tt
not_active true M h = tt
not_active true Dash h = tt
not_active false S0 h = absurd (h refl)
not_active false S1 h = refl
not_active false X h = tt
not_active false Z h = tt
not_active false M h = tt
not_active false Dash h = tt

unknown_apart : (level : Bool) → active_of (level_after level) X ≡ S1 → ⊥
unknown_apart true e = absurd (cc)
unknown_apart false e = absurd (cc)

was_below : (first : Bool) (a : Bit) → Below (was_of first a) a
was_below true a = tt
was_below false a = Below_refl a

-- a pick is known as well where the reset is
pick_grows : (v : Valuation) (tree : Pick) (a b : Bit) → Below a b → Below (picked v a tree) (picked v b tree)
pick_grows v tree a b h = picked_kept Below below v v a b h tree (λ s i. Below_refl (read v s))

-- the event of an edge, or of a level
abbrev pub trigger : EdgeBit → Trigger
trigger e = record { signal = OnWire e.bit ∷ []; level = level_after e.level }

module _ (m : Module) (p : Path) (start : SigBit → Bit) (root : CaseView) (bits : List WireBit) (clock reset : EdgeBit) (j : Join) (even : EvenSwitches root.switches) (v w : Valuation) (x : List Bit) (manner : Manner) where
  abbrev tree : Pick
  tree = pick_of (switch_test no_modules m reset.bit) p m.wires (expanded root bits j.source)

  abbrev own : Place
  own = bit_place p m.wires j.bit

  abbrev level : Level
  level = level_after reset.level

  abbrev was_reset : Bit
  was_reset = v (bit_place p m.wires reset.bit)

  abbrev is_reset : Bit
  is_reset = w (bit_place p m.wires reset.bit)

  -- whether the reset was active, and whether it is
  abbrev was_active : Bit
  was_active = active_of level (was_of manner.first was_reset)

  abbrev is_active : Bit
  is_active = active_of level is_reset

  abbrev pub was : Bit
  was = picked v (was_of manner.first was_reset) tree

  abbrev is : Bit
  is = picked v is_reset tree

  abbrev leaves : List SigBit
  leaves = active_leaves no_modules m root bits reset j

  -- the step, taken in an order of time
  abbrev step : Order → Time Place
  step order = Step v x (record { first = manner.first; order = order })

  abbrev raced : Driven
  raced = raced_row start p m.wires m root bits clock reset j

  abbrev pub raced_value : Bit
  raced_value = value_of raced.driver (Step v x manner) w

  abbrev edge : Bit
  edge = edge_at v w manner.first (At (bit_place p m.wires clock.bit)) (level_after clock.level)

  -- what the clock's edge makes of the bit before the reset acts
  abbrev clocked : Bit
  clocked = clocked_at v w manner.first (At (bit_place p m.wires clock.bit)) (level_after clock.level) (At (bit_place p m.wires reset.bit)) tree own

  -- what the value with the reset active comes to, of what its leaves have
  active_below : (leaf : Point → Bit) (k : Bit) → ((s : SigBit) → In s leaves → Below (leaf (point p m.wires s)) k) → Below (picked_by leaf v (level_value reset.level) tree) k
  active_below leaf k h =
      subst (λ z. Below z k) (sym (picked_by_is p m.wires v (switch_test no_modules m reset.bit) (level_value reset.level) leaf (expanded root bits j.source)))
      (value_decided p m.wires v (switch_test no_modules m reset.bit) (switch_is_test no_modules m reset.bit) reset.level (λ s. leaf (point p m.wires s)) k (expanded root bits j.source) (even_expanded root bits even (length bits) j.source) h)

  active_given : (leaf : Point → Bit) (k : Bit) → ((s : SigBit) → In s leaves → Below (leaf (point p m.wires s)) k) → Below (picked_by leaf v (level_bit level) tree) k
  active_given leaf k h =
      subst (λ z. Below (picked_by leaf v z tree) k) (sym (level_same reset.level)) (active_below leaf k h)

  -- with the reset not inactive, the value is no more than with the reset active
  active_opens : (a : Bit) → (active_of level a ≡ S0 → ⊥) → Below (picked v a tree) (picked v (level_bit level) tree)
  active_opens a h =
      subst (λ z. Below (picked v a tree) (picked v z tree)) (sym (level_same reset.level)) (pick_grows v tree a (level_value reset.level) (not_inactive reset.level a h))

  -- what the source has, where the reset is not active: below what it had with the reset as it was and as it is
  pub record IsData : Type 0 where
    pub together : (is_active ≡ S1 → ⊥) → Below (merge_of was is) (had p m.wires v j.source)
    pub released : (was_active ≡ S1 → ⊥) → Below was (had p m.wires v j.source)

  -- where the tree stays
  pub data_seen : AreSeen p m.wires v (switch_test no_modules m reset.bit) was_reset → AreDecided p m.wires v bits (case_decision root) → Below was (had p m.wires v j.source)
  data_seen seen decided =
      Below_trans was (picked v was_reset tree) (had p m.wires v j.source) (pick_grows v tree (was_of manner.first was_reset) was_reset (was_below manner.first was_reset))
      (expanded_seen p m.wires v (switch_test no_modules m reset.bit) was_reset root bits seen decided (length bits) j.source)

  data_merged : Below was (had p m.wires v j.source) → Below (merge_of was is) (had p m.wires v j.source)
  data_merged h =
      Below_trans (merge_of was is) was (had p m.wires v j.source) (merge_left was is) h

  pub data_stays : Below was (had p m.wires v j.source) → IsData
  data_stays h = record { together = λ _. data_merged h; released = λ _. h }

  -- where its tests of the reset are decided
  pub data_freed : AreDecided p m.wires v bits (case_decision (freed p m.wires v (switch_test no_modules m reset.bit) (not reset.level) root)) → IsData
  data_freed decided = record {
    together = λ h. Below_trans (merge_of was is) is (had p m.wires v j.source) (merge_right was is) (inactive is_reset h);
    released = λ h. inactive (was_of manner.first was_reset) h;
  }
    where
      inactive : (a : Bit) → (active_of level a ≡ S1 → ⊥) → Below (picked v a tree) (had p m.wires v j.source)
      inactive a h =
          Below_trans (picked v a tree) (picked v (level_value (not reset.level)) tree) (had p m.wires v j.source) (pick_grows v tree a (level_value (not reset.level)) (not_active reset.level a h))
          (expanded_freed p m.wires v (switch_test no_modules m reset.bit) (switch_is_test no_modules m reset.bit) (not reset.level) root bits even decided (length bits) j.source)

  -- a bit that the reset sets to a constant
  pub set_met : (c : Bit) → ((s : SigBit) → In s leaves → s ≡ Fixed c) → (manner.first ≡ false → active_of level was_reset ≡ S1 → Below (v own) c) → IsData → Below raced_value (value_of (loaded_row start p m.wires (trigger clock) (trigger reset) (Some (Fixed c)) j).driver (Step v x manner) w)
  set_met c all kept given = by manner.order
    where
      active : (leaf : Point → Bit) → Below (leaf (Constant c)) c → Below (picked_by leaf v (level_bit level) tree) c
      active leaf h = active_given leaf c (λ s i. subst (λ z. Below (leaf (point p m.wires z)) c) (sym (all s i)) h)

      opened : (a : Bit) → (active_of level a ≡ S0 → ⊥) → Below (picked v a tree) c
      opened a h =
          Below_trans (picked v a tree) (picked v (level_bit level) tree) c (active_opens a h) (active (read v) (Below_refl c))

      held : (f : Bool) → manner.first ≡ f → active_of level (was_of f was_reset) ≡ S1 → Below (v own) c
      held true e h = absurd (unknown_apart reset.level h)
      held false e h = kept e h

      by : (o : Order) → Below (value_of raced.driver (step o) w) (value_of (loaded_row start p m.wires (trigger clock) (trigger reset) (Some (Fixed c)) j).driver (step o) w)
      by Together =
          race_set edge was_active is_active was is (picked v (level_bit level) tree) (v own) c (had p m.wires v j.source) (active (read v) (Below_refl c)) (held manner.first refl) (opened is_reset) given.together
      by Released =
          released_set edge is_active was (picked_by (own_or own clocked v) v (level_bit level) tree) (v own) was_active c (had p m.wires v j.source) (active (own_or own clocked v) (Below_refl c)) (opened (was_of manner.first was_reset)) given.released

  -- a bit that the reset leaves
  pub held_met : ((s : SigBit) → In s leaves → s ≡ OnWire j.bit) → Below was (had p m.wires v j.source) → Below raced_value (value_of (edge_row start p m.wires (trigger clock) j).driver (Step v x manner) w)
  held_met all given = by manner.order
    where
      active : (leaf : Point → Bit) (k : Bit) → Below (leaf (At own)) k → Below (picked_by leaf v (level_bit level) tree) k
      active leaf k h = active_given leaf k (λ s i. subst (λ z. Below (leaf (point p m.wires z)) k) (sym (all s i)) h)

      own_clocked : Below (own_or own clocked v (At own)) clocked
      own_clocked =
          subst (λ t. Below (if t then clocked else v own) clocked) (sym ((place_same-same own own).1 refl)) (Below_refl clocked)

      by : (o : Order) → Below (value_of raced.driver (step o) w) (value_of (edge_row start p m.wires (trigger clock) j).driver (step o) w)
      by Together =
          race_held edge was_active is_active was is (picked v (level_bit level) tree) (v own) (had p m.wires v j.source) (active (read v) (v own) (Below_refl (v own))) (data_merged given)
      by Released =
          released_held edge is_active was (picked_by (own_or own clocked v) v (level_bit level) tree) (v own) (had p m.wires v j.source) (active (own_or own clocked v) clocked own_clocked) given
