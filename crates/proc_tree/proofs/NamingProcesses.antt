-- The rows of processes know wires by the places of their bits, and are those of their trees as the rules read them.
use Rattle.std.proofs.Common.{◌≡◌, if◌then◌else◌, List, [], ◌∷◌, ◌++◌, Option, Some, None, inl, inr, refl, ◌∙◌, ap}
use Rattle.std.specs.Prelude.{map, filter, not}
use Rattle.std.specs.Option.{is_some}
use Rattle.rtl_bits.specs.declared.bit.Bit.{Bit}
use Rattle.rtl_sig.specs.declared.sig.SigBit.{SigBit}
use Rattle.rtl_sig.specs.declared.sig.SigBit.TheVariants.{Fixed, Wire as OnWire}
use Rattle.rtl_sig.specs.declared.sig.WireBit.{WireBit}
use Rattle.cell_types.specs.declared.storage.StorageKind.TheVariants.{Ff, Dff, Dlatch, Aldff}
use Rattle.cell_types.specs.Levels.{low}
use Rattle.rtl_ir.specs.declared.module.Link.{Link}
use Rattle.rtl_ir.specs.declared.module.Module.{Module}
use Rattle.rtl_ir.specs.declared.process.Event.{Event}
use Rattle.rtl_ir.specs.declared.process.Event.TheVariants.{Low, High, Posedge, Negedge, Edge, Global, Init, Always}
use Rattle.rtl_ir.specs.declared.process.Process.{Process}
use Rattle.rtl_ir.specs.declared.process.SyncRule.{SyncRule}
use Rattle.rtl_ir.specs.declared.wire.Wire.{Wire}
use Rattle.rtl_ir.specs.Assigns.{tree_bits}
use Rattle.rtl_ir.specs.Decisions.{case_decision, expanded}
use Rattle.rtl_ir.specs.EventTests.{switch_test}
use Rattle.rtl_ir.specs.Faults.TwoEdges.{EdgeBit, edge_bit, is_tested}
use Rattle.rtl_ir.specs.Flat.Driver.{Joined, Stored, Decided, Held, Raced}
use Rattle.rtl_ir.specs.Flat.Pick.{pick_of, no_test}
use Rattle.rtl_ir.specs.Flat.Place.{Path}
use Rattle.rtl_ir.specs.Flat.Point.{At as AtPlace, bit_place, point_at}
use Rattle.rtl_ir.specs.Flat.Process.{no_modules, rule_shape, no_pins, level_after, Trigger, edge_trigger, level_trigger, may_hold, event_point, edge_row, level_row, loaded_row, loaded_rows, always_row, raced_row, raced_rows, one_rule_rows, two_rules_rows, rules_rows, process_rows, processes_rows, pair_by}
use Rattle.rtl_ir.specs.Follow.{joins, all_joins, source_at}
use Rattle.rtl_ir.specs.declared.follow.Join.{Join}
use Rattle.rtl_ir.specs.Rules.{acting_rules}
use Rattle.rtl_ir.specs.SwitchRules.{root_by_rules}
use Rattle.rtl_ir.specs.Tree.{CaseView}
use Rattle.net_model.specs.Within.{Each}
use Rattle.net_model.proofs.Growing.{map_more}
use Rattle.net_model.proofs.Ranges.{each_none, each_more, each_flat_map, each_filter}
use Rattle.proc_tree.proofs.Naming.{SamePlaces, point_named, points_named, pick_named}

-- what is so of the left side of a line is so of the bits of its places
left_each : (P : SigBit → Type 0) (ls rs : List SigBit) → Each P ls → Each (λ (j : Join). P (OnWire j.bit)) (joins ls rs)
left_each P [] rs h = each_none _
left_each P (l ∷ ls) [] h = each_none _
left_each P (Fixed c ∷ ls) (r ∷ rs) h = left_each P ls rs (λ x i. h x (inr i))
left_each P (OnWire b ∷ ls) (r ∷ rs) h =
    each_more (λ (j : Join). P (OnWire j.bit)) _ (joins ls rs) (h (OnWire b) (inl refl)) (left_each P ls rs (λ x i. h x (inr i)))

lefts_each : (P : SigBit → Type 0) (lines : List Link) → Each (λ (l : Link). Each P l.left) lines → Each (λ (j : Join). P (OnWire j.bit)) (all_joins lines)
lefts_each P lines h = each_flat_map (λ (j : Join). P (OnWire j.bit)) (λ (l : Link). joins l.left l.right) lines (λ l i. left_each P l.left l.right (h l i))

module _ (p : Path) (vs ws : List Wire) (same : SamePlaces p vs ws) (new old : SigBit → Bit) where
  -- the updated bit of a place starts alike
  abbrev Alike : Join → Type 0
  Alike j = new (OnWire j.bit) ≡ old (OnWire j.bit)

  -- each bit that a rule updates does
  abbrev pub RuleAlike : SyncRule → Type 0
  RuleAlike rule = Each (λ (l : Link). Each (λ s. new s ≡ old s) l.left) rule.updates

  updates_alike : (rule : SyncRule) → RuleAlike rule → Each Alike (all_joins rule.updates)
  updates_alike rule h = lefts_each (λ s. new s ≡ old s) rule.updates h

  event_named : (signal : List SigBit) → event_point new p vs signal ≡ event_point old p ws signal
  event_named signal = ap (λ z. point_at z 0) (points_named p vs ws same signal)

  edge_named : (e : Trigger) (j : Join) → Alike j → edge_row new p vs e j ≡ edge_row old p ws e j
  edge_named e j h = λ i. record {
    place = same j.bit i;
    driver = Stored (h i) (rule_shape Dff (record low { clk = e.level })) 0 (record no_pins { clk = event_named e.signal i; d = point_named p vs ws same j.source i }) (same j.bit i);
  }

  level_named : (l : Trigger) (j : Join) → Alike j → level_row new p vs l j ≡ level_row old p ws l j
  level_named l j h = λ i. record {
    place = same j.bit i;
    driver = Stored (h i) (rule_shape Dlatch (record low { en = l.level })) 0 (record no_pins { en = event_named l.signal i; d = point_named p vs ws same j.source i }) (same j.bit i);
  }

  loaded_named : (e l : Trigger) (o : Option SigBit) (j : Join) → Alike j → loaded_row new p vs e l o j ≡ loaded_row old p ws e l o j
  loaded_named e l None j h = edge_named e j h
  loaded_named e l (Some load) j h = λ i. record {
    place = same j.bit i;
    driver = Stored (h i) (rule_shape Aldff (record low { clk = e.level; aload = l.level })) 0 (record no_pins { clk = event_named e.signal i; d = point_named p vs ws same j.source i; aload = event_named l.signal i; ad = point_named p vs ws same load i }) (same j.bit i);
  }

  loaded_rows_named : (e : Trigger) (edges : List Join) (l : Trigger) (levels : List Join) → Each Alike edges → Each Alike levels → loaded_rows new p vs e edges l levels ≡ loaded_rows old p ws e edges l levels
  loaded_rows_named e edges l levels g f =
      λ i. map_more (λ (j : Join). loaded_row new p vs e l (source_at levels j.bit) j) (λ (j : Join). loaded_row old p ws e l (source_at levels j.bit) j) edges (λ j k. loaded_named e l (source_at levels j.bit) j (g j k)) i
      ++ map_more (level_row new p vs l) (level_row old p ws l) (filter (λ (j : Join). not (is_some (source_at edges j.bit))) levels) (λ j k. level_named l j (each_filter Alike (λ (j : Join). not (is_some (source_at edges j.bit))) levels f j k)) i

  always_named : (root : CaseView) (bits : List WireBit) (j : Join) → Alike j → always_row new p vs root bits j ≡ always_row old p ws root bits j
  always_named root bits j h = λ i. record {
    place = same j.bit i;
    driver =
        if may_hold root bits j
        then Held (h i) (point_named p vs ws same j.source i) (pick_named p vs ws same no_test (expanded root bits j.source) i) (same j.bit i)
        else Joined (point_named p vs ws same j.source i);
  }

  module _ (m' m : Module) (t : switch_test no_modules m' ≡ switch_test no_modules m) (u : is_tested no_modules m' ≡ is_tested no_modules m) where
    raced_named : (root : CaseView) (bits : List WireBit) (clock reset : EdgeBit) (j : Join) → Alike j → raced_row new p vs m' root bits clock reset j ≡ raced_row old p ws m root bits clock reset j
    raced_named root bits clock reset j h =
        (λ i. record {
          place = same j.bit i;
          driver = Raced (h i) (AtPlace (same clock.bit i)) (level_after clock.level) (AtPlace (same reset.bit i)) (level_after reset.level) (pick_named p vs ws same (switch_test no_modules m' reset.bit) (expanded root bits j.source) i) (same j.bit i);
        })
        ∙ (λ i. record {
          place = bit_place p ws j.bit;
          driver = Raced (old (OnWire j.bit)) (AtPlace (bit_place p ws clock.bit)) (level_after clock.level) (AtPlace (bit_place p ws reset.bit)) (level_after reset.level) (pick_of (t i reset.bit) p ws (expanded root bits j.source)) (bit_place p ws j.bit);
        })

    raced_rows_named : (root : CaseView) (bits : List WireBit) (updates : List Join) (a b : Option EdgeBit) → Each Alike updates → raced_rows new p vs m' root bits updates a b ≡ raced_rows old p ws m root bits updates a b
    raced_rows_named root bits updates (Some a) (Some b) g =
        λ i. if u i root a
        then map_more (raced_row new p vs m' root bits b a) (raced_row old p ws m root bits b a) updates (λ j k. raced_named root bits b a j (g j k)) i
        else map_more (raced_row new p vs m' root bits a b) (raced_row old p ws m root bits a b) updates (λ j k. raced_named root bits a b j (g j k)) i
    raced_rows_named root bits updates None b g = refl
    raced_rows_named root bits updates (Some a) None g = refl

    one_named : (root : CaseView) (bits : List WireBit) (updates : List Join) (event : Event) → Each Alike updates → one_rule_rows new p vs root bits updates event ≡ one_rule_rows old p ws root bits updates event
    one_named root bits updates Always g =
        map_more (always_row new p vs root bits) (always_row old p ws root bits) updates (λ j k. always_named root bits j (g j k))
    one_named root bits updates Global g =
        map_more _ _ updates (λ j k. let f = g j k in λ i. record {
          place = same j.bit i;
          driver = Stored (f i) (rule_shape Ff low) 0 (record no_pins { d = point_named p vs ws same j.source i }) (same j.bit i);
        })
    one_named root bits updates (Posedge signal) g = map_more _ _ updates (λ j k. edge_named _ j (g j k))
    one_named root bits updates (Negedge signal) g = map_more _ _ updates (λ j k. edge_named _ j (g j k))
    one_named root bits updates (High signal) g = map_more _ _ updates (λ j k. level_named _ j (g j k))
    one_named root bits updates (Low signal) g = map_more _ _ updates (λ j k. level_named _ j (g j k))
    one_named root bits updates (Edge signal) g = refl
    one_named root bits updates Init g = refl

    two_named : (root : CaseView) (bits : List WireBit) (a b : SyncRule) (e e' l l' : Option Trigger) → RuleAlike a → RuleAlike b → two_rules_rows new p vs m' root bits (pair_by a b e e' l l') ≡ two_rules_rows old p ws m root bits (pair_by a b e e' l l')
    two_named root bits a b (Some e) edge level (Some l) f g =
        loaded_rows_named e (all_joins a.updates) l (all_joins b.updates) (updates_alike a f) (updates_alike b g)
    two_named root bits a b edge (Some e) (Some l) level f g =
        loaded_rows_named e (all_joins b.updates) l (all_joins a.updates) (updates_alike b g) (updates_alike a f)
    two_named root bits a b edge edge' level level' f g =
        raced_rows_named root bits (all_joins a.updates) (edge_bit a.event) (edge_bit b.event) (updates_alike a f)

    rules_named : (root : CaseView) (bits : List WireBit) (rules : List SyncRule) → Each RuleAlike rules → rules_rows new p vs m' root bits rules ≡ rules_rows old p ws m root bits rules
    rules_named root bits [] g = refl
    rules_named root bits (a ∷ []) g = one_named root bits (all_joins a.updates) a.event (updates_alike a (g a (inl refl)))
    rules_named root bits (a ∷ b ∷ []) g =
        two_named root bits a b (edge_trigger a.event) (edge_trigger b.event) (level_trigger a.event) (level_trigger b.event) (g a (inl refl)) (g b (inr (inl refl)))
    rules_named root bits (a ∷ b ∷ c ∷ rules) g = refl

    pub process_named : (process : Process) → Each RuleAlike process.syncs → process_rows new p vs m' process ≡ process_rows old p ws m process
    process_named process h =
        let root : CaseView = root_by_rules process.root in
        λ i. map (λ (b : WireBit). record { place = same b i; driver = Decided (pick_named p vs ws same no_test (case_decision root b) i) }) (tree_bits process.root)
        ++ rules_named root (tree_bits process.root) (acting_rules process.syncs) (each_filter RuleAlike _ process.syncs h) i

    -- the same of a list of processes, each of which gives way to another with the same rows there
    pub processes_named : (f : Process → Process) → ((q : Process) → process_rows new p vs m' (f q) ≡ process_rows new p vs m' q) → (ps : List Process) → Each (λ (q : Process). Each RuleAlike q.syncs) ps → processes_rows new p vs m' (map f ps) ≡ processes_rows old p ws m ps
    processes_named f gives [] h = refl
    processes_named f gives (q ∷ ps) h =
        λ i. (gives q ∙ process_named q (h q (inl refl))) i ++ processes_named f gives ps (λ x j. h x (inr j)) i
