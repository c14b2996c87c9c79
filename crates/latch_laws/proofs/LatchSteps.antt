-- Each bit that is always updated gets a latch or a connection that gives no less.
use Rattle.std.proofs.Common.{◌≡◌, ℕ, Bool, true, false, if◌then◌else◌, List, [], ◌∷◌, ◌++◌, length, inl, inr, ⊎_elim, refl, sym, subst}
use Rattle.std.proofs.lemmas.List.{append-nil}
use Rattle.cell_types.specs.declared.kind.CellKind.TheVariants.{Storage}
use Rattle.cell_types.specs.declared.storage.StorageKind.TheVariants.{Dlatch}
use Rattle.rtl_bits.proofs.Orders.{Below_trans}
use Rattle.rtl_bits.specs.Knowledge.{Below}
use Rattle.rtl_ir.specs.Assigns.{tree_bits}
use Rattle.rtl_ir.specs.Build.{Building, made_name, new_link}
use Rattle.rtl_ir.specs.Decisions.{case_decision, expanded}
use Rattle.rtl_ir.specs.Flat.Cell.{cell_kind}
use Rattle.rtl_ir.specs.Flat.Driver.{Driver, Held, Joined}
use Rattle.rtl_ir.specs.Flat.Pick.{no_test, pick_of}
use Rattle.rtl_ir.specs.Flat.Point.{bit_place, point}
use Rattle.rtl_ir.specs.Flat.Process.{always_row, may_hold}
use Rattle.rtl_ir.specs.Follow.{all_joins}
use Rattle.rtl_ir.specs.declared.follow.Join.{Join}
use Rattle.rtl_ir.specs.Rules.{acting_rules}
use Rattle.rtl_ir.specs.Signals.{has_bit}
use Rattle.rtl_ir.specs.Tree.{CaseView}
use Rattle.rtl_ir.specs.declared.process.Process.{Process}
use Rattle.rtl_ir.specs.declared.process.SyncRule.{SyncRule}
use Rattle.rtl_sig.specs.declared.sig.SigBit.{SigBit}
use Rattle.rtl_sig.specs.declared.sig.SigBit.TheVariants.{Wire as OnWire}
use Rattle.rtl_sig.specs.declared.sig.WireBit.{WireBit}
use Rattle.net_model.proofs.Ranges.{RootIn, each_more, each_none}
use Rattle.net_model.specs.Lists.{In}
use Rattle.net_model.specs.Proc.Latch.{ForData, ForEnable, always_step, always_steps, is_always, latch_cell, latch_process, latch_step, latches_step, side_value}
use Rattle.net_model.specs.Proc.Mux.{Trees}
use Rattle.net_model.specs.Refine.{IsMet}
use Rattle.net_model.specs.Value.{value_of}
use Rattle.net_model.specs.Within.{BitIn, Each}
use Rattle.mux_laws.proofs.MatchMade.{MadeStand, none_made}
use Rattle.build_laws.proofs.Growing.{Grows, IsPlainCell, grows_both, grows_link, grows_none, met_before}
use Rattle.mux_laws.proofs.TreePlaces.{switches_find}
use Rattle.mux_laws.proofs.TreeRead.{read_by}
use Rattle.build_laws.proofs.Meeting.{BodyMet, body_before, links_last}
use Rattle.build_laws.proofs.Moments.{AreMet, Moment, met_last, met_left, seen}
use Rattle.latch_laws.proofs.ChainGrows.{side_grows}
use Rattle.latch_laws.proofs.ChainLeaves.{side_stands}
use Rattle.latch_laws.proofs.Depths.{Ends}
use Rattle.latch_laws.proofs.Expanded.{seen_through}
use Rattle.latch_laws.proofs.HeldMarks.{IsAlone, data_kept, enable_turned, holds}
use Rattle.latch_laws.proofs.LatchCell.{held_met, latch_made}

-- what is added for a latch, a bit, bits, a process and processes
latch_grows : (q : WireBit) (new enable : SigBit) (b : Building) → Grows b (latch_cell q new enable b)
unfolding cell_kind
latch_grows q new enable b = record {
  cells = latch_made (made_name b.next) q new enable ∷ [];
  wires = [];
  links = [];
  body = λ i. record b.body { cells = b.body.cells ++ latch_made (made_name b.next) q new enable ∷ []; wires = sym (append-nil b.body.wires) i; links = sym (append-nil b.body.links) i };
  plain = each_more IsPlainCell _ [] (record { kind = Storage Dlatch; is = refl; plain = refl }) (each_none IsPlainCell);
  inner = λ w i. absurd i;
}

latch_step_grows : (root : CaseView) (bits : List WireBit) (j : Join) (t : Trees) → Grows t.building (latch_step root bits j t).building
latch_step_grows root bits j t =
    let new = side_value ForData root bits j t in
    let enable = side_value ForEnable root bits j new.1 in
    grows_both t.building new.1.building _ (side_grows ForData root bits j t)
    (grows_both new.1.building enable.1.building _ (side_grows ForEnable root bits j new.1) (latch_grows j.bit new.0 enable.0 enable.1.building))

-- a bit, by whether it may hold
abbrev always_by : Bool → CaseView → List WireBit → Join → Trees → Trees
always_by holds root bits j t =
    if holds
    then latch_step root bits j t
    else record { building = new_link (OnWire j.bit ∷ []) (j.source ∷ []) t.building; made = t.made }

always_grows : (root : CaseView) (bits : List WireBit) (j : Join) (t : Trees) → Grows t.building (always_step root bits j t).building
always_grows root bits j t = by (may_hold root bits j)
  where
    by : (holds : Bool) → Grows t.building (always_by holds root bits j t).building
    by true = latch_step_grows root bits j t
    by false = grows_link (OnWire j.bit ∷ []) (j.source ∷ []) t.building

steps_grow : (root : CaseView) (bits : List WireBit) (js : List Join) (t : Trees) → Grows t.building (always_steps root bits js t).building
steps_grow root bits [] t = grows_none t.building
steps_grow root bits (j ∷ js) t =
    grows_both t.building (always_step root bits j t).building _ (always_grows root bits j t) (steps_grow root bits js (always_step root bits j t))

-- a process with one rule, by whether it always acts
abbrev rule_by : Bool → Process → SyncRule → Building → Building
rule_by always p r b =
    if always
    then (always_steps p.root (tree_bits p.root) (all_joins r.updates) (record { building = b; made = [] })).building
    else b

process_grows : (p : Process) (rules : List SyncRule) (b : Building) → Grows b (latch_process p rules b)
process_grows p [] b = grows_none b
process_grows p (r ∷ []) b = by (is_always r.event)
  where
    by : (always : Bool) → Grows b (rule_by always p r b)
    by true = steps_grow p.root (tree_bits p.root) (all_joins r.updates) (record { building = b; made = [] })
    by false = grows_none b
process_grows p (r ∷ s ∷ rules) b = grows_none b

pub latches_grow : (ps : List Process) (b : Building) → Grows b (latches_step ps b)
latches_grow [] b = grows_none b
latches_grow (p ∷ ps) b =
    let next : Building = latch_process p (acting_rules p.syncs) b in
    grows_both b next _ (process_grows p (acting_rules p.syncs) b) (latches_grow ps next)

module _ (m : Moment) (count : ℕ) where
  module _ (root : CaseView) (bits : List WireBit) where
    -- what is so of a root case and its tree bits
    pub record IsTree : Type 0 where
      pub ends : (s : SigBit) → Ends root bits (length bits) s
      pub within : RootIn count root
      pub tight : (b : WireBit) → has_bit bits b ≡ true → Below (seen m (OnWire b)) (read_by m (seen m) (case_decision root b))

    -- and of a bit that is updated
    pub record IsUpdate (j : Join) : Type 0 where
      pub free : has_bit bits j.bit ≡ false
      pub alone : IsAlone m count j.bit
      pub source : BitIn count j.source

    -- the row of such a bit, by whether it may hold
    abbrev row_by : Bool → Join → Driver
    row_by holds j =
        if holds
        then Held (m.start (OnWire j.bit)) (point m.path m.wires j.source) (pick_of no_test m.path m.wires (expanded root bits j.source)) (bit_place m.path m.wires j.bit)
        else Joined (point m.path m.wires j.source)

    module _ (is : IsTree) where
      latch_met : (j : Join) (t : Trees) → IsUpdate j → BodyMet m (latch_step root bits j t).building → MadeStand m (switches_find root.switches) t.made
          → Below (value_of (row_by true j) m.time m.has) (seen m (OnWire j.bit)) × MadeStand m (switches_find root.switches) (latch_step root bits j t).made
      latch_met j t u met made =
          let new = side_value ForData root bits j t in
          let enable = side_value ForEnable root bits j new.1 in
          let latch = latch_made (made_name enable.1.building.next) j.bit new.0 enable.0 in
          let met2 : AreMet m enable.1.building.body.cells = met_left m enable.1.building.body.cells (latch ∷ []) met.cells in
          let met1 : AreMet m new.1.building.body.cells = met_before m new.1.building _ (side_grows ForEnable root bits j new.1) met2 in
          let first = side_stands m root bits ForData j.bit is.ends u.free j.source t met1 made in
          let second = side_stands m root bits ForEnable j.bit is.ends u.free j.source new.1 met2 first.1 in (
            held_met m (made_name enable.1.building.next) j.bit new.0 enable.0 j.source (pick_of no_test m.path m.wires (expanded root bits j.source)) (met_last m enable.1.building.body.cells latch met.cells)
                (Below_trans _ _ _ (enable_turned m count j.bit root bits j.source u.alone is.within u.source) second.0)
                (λ e. Below_trans _ _ _ (seen_through m root bits is.tight (length bits) j.source) (Below_trans _ _ _ (data_kept m count j.bit root bits j.source e) first.0)),
            second.1,
          )

      always_met : (j : Join) (t : Trees) → IsUpdate j → BodyMet m (always_step root bits j t).building → MadeStand m (switches_find root.switches) t.made
          → IsMet (always_row m.start m.path m.wires root bits j) m.time m.has × MadeStand m (switches_find root.switches) (always_step root bits j t).made
      always_met j t u met made = by (may_hold root bits j) met
        where
          by : (holds : Bool) → BodyMet m (always_by holds root bits j t).building → Below (value_of (row_by holds j) m.time m.has) (seen m (OnWire j.bit)) × MadeStand m (switches_find root.switches) (always_by holds root bits j t).made
          by true met' = latch_met j t u met' made
          by false met' =
              (links_last m t.building.body.links (record { left = OnWire j.bit ∷ []; right = j.source ∷ [] }) met'.links (record { place = bit_place m.path m.wires j.bit; driver = Joined (point m.path m.wires j.source) }) (inl refl), made)

      steps_met : (js : List Join) (t : Trees) → Each IsUpdate js → BodyMet m (always_steps root bits js t).building → MadeStand m (switches_find root.switches) t.made → (j : Join) → In j js → IsMet (always_row m.start m.path m.wires root bits j) m.time m.has
      steps_met [] t us met made j i = absurd i
      steps_met (k ∷ js) t us met made j i =
          let next : Trees = always_step root bits k t in
          let here : BodyMet m next.building = body_before m next.building _ (steps_grow root bits js next) met in
          let both = always_met k t (us k (inl refl)) here made in
          ⊎_elim
          (λ e. subst (λ z. IsMet (always_row m.start m.path m.wires root bits z) m.time m.has) (sym e) both.0)
          (λ l. steps_met js next (λ x h. us x (inr h)) met both.1 j l)
          i

  -- what is so of a process with one rule that always acts
  pub record HasLatches (p : Process) (r : SyncRule) : Type 0 where
    pub tree : IsTree p.root (tree_bits p.root)
    pub updates : Each (IsUpdate p.root (tree_bits p.root)) (all_joins r.updates)

  process_met : (p : Process) (r : SyncRule) (b : Building) (rules : List SyncRule) → rules ≡ r ∷ [] → is_always r.event ≡ true → HasLatches p r → BodyMet m (latch_process p rules b) → (j : Join) → In j (all_joins r.updates) → IsMet (always_row m.start m.path m.wires p.root (tree_bits p.root) j) m.time m.has
  process_met p r b rules one always is met j i =
      steps_met p.root (tree_bits p.root) is.tree (all_joins r.updates) (record { building = b; made = [] }) is.updates
      (subst (λ (t : Bool). BodyMet m (rule_by t p r b)) always (subst (λ z. BodyMet m (latch_process p z b)) one met))
      (none_made m (switches_find p.root.switches)) j i

  -- each such bit of one of the processes
  pub latches_met : (b : Building) (ps : List Process) → BodyMet m (latches_step ps b) → (p : Process) → In p ps → (r : SyncRule) → acting_rules p.syncs ≡ r ∷ [] → is_always r.event ≡ true → HasLatches p r → (j : Join) → In j (all_joins r.updates) → IsMet (always_row m.start m.path m.wires p.root (tree_bits p.root) j) m.time m.has
  latches_met b [] met p i r one always is j k = absurd i
  latches_met b (q ∷ ps) met p i r one always is j k =
      let next : Building = latch_process q (acting_rules q.syncs) b in
      let here : BodyMet m next = body_before m next _ (latches_grow ps next) met in
      ⊎_elim
      (λ e. process_met p r b (acting_rules p.syncs) one always is (subst (λ (z : Process). BodyMet m (latch_process z (acting_rules z.syncs) b)) (sym e) here) j k)
      (λ l. latches_met next ps met p l r one always is j k)
      i
