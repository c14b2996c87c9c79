-- The same of processes and memories, and so of whole modules.
use Rattle.std.proofs.Common.{◌≡◌, ◌<◌, ℕ, Bool, true, false, ◌&&◌, List, [], ◌∷◌, ◌++◌, length, Option, Some, None, inl, inr, refl, ◌∙◌, ap}
use Rattle.std.specs.Prelude.{map, filter, flat_map, not, nat_le, if◌then◌else◌, ◌+◌}
use Rattle.std.specs.List.{range_with_len}
use Rattle.std.specs.Option.{is_some}
use Rattle.std.specs.Str.{bytes_eq}
use Rattle.rtl_bits.specs.declared.bit.Bit.{Bit}
use Rattle.rtl_bits.specs.declared.bit.Bit.TheVariants.{X}
use Rattle.rtl_sig.specs.declared.sig.SigBit.{SigBit}
use Rattle.rtl_sig.specs.declared.sig.SigBit.TheVariants.{Fixed, Wire as OnWire}
use Rattle.rtl_sig.specs.declared.sig.WireBit.{WireBit}
use Rattle.cell_types.specs.declared.pin_name.PinName.TheVariants.{Clk, En, Addr, Data}
use Rattle.cell_types.specs.declared.storage.StorageKind.TheVariants.{Ff, Dff, Dlatch, Aldff}
use Rattle.cell_types.specs.Levels.{low}
use Rattle.cell_types.specs.PinName.{pin_text}
use Rattle.rtl_ir.specs.declared.cell.Cell.{Cell}
use Rattle.rtl_ir.specs.declared.module.Module.{Module}
use Rattle.rtl_ir.specs.declared.process.Event.{Event}
use Rattle.rtl_ir.specs.declared.process.Event.TheVariants.{Low, High, Posedge, Negedge, Edge, Global, Init, Always}
use Rattle.rtl_ir.specs.declared.process.Process.{Process}
use Rattle.rtl_ir.specs.declared.process.SyncRule.{SyncRule}
use Rattle.rtl_ir.specs.declared.process.WriteLine.{WriteLine}
use Rattle.rtl_ir.specs.declared.store.Store.{Store}
use Rattle.rtl_ir.specs.declared.wire.Wire.{Wire}
use Rattle.rtl_ir.specs.Assigns.{tree_bits}
use Rattle.rtl_ir.specs.Decisions.{case_decision, expanded}
use Rattle.rtl_ir.specs.EventTests.{switch_test}
use Rattle.rtl_ir.specs.Faults.TwoEdges.{EdgeBit, edge_bit, is_tested}
use Rattle.rtl_ir.specs.Flat.Access.{Access, cell_access, place_access, in_access_order, cell_accesses, next_number, write_trigger, line_access, line_accesses, rule_accesses, accesses_of, first_trigger}
use Rattle.rtl_ir.specs.Flat.Cell.{Ports, cell_kind}
use Rattle.rtl_ir.specs.Flat.Driver.{Joined, Stored, Decided, Held, Raced, Remembered}
use Rattle.rtl_ir.specs.Flat.Memory.{init_cells, start_word_bit, may_follow, port_points, word_row, addresses_of, fetched_rows, read_rows, reading_cells, is_read_kind, memory_rows}
use Rattle.rtl_ir.specs.Flat.Pick.{pick_of, no_test}
use Rattle.rtl_ir.specs.Flat.Place.{Path, word_place}
use Rattle.rtl_ir.specs.Flat.Point.{At as AtPlace, bit_place, point_at}
use Rattle.rtl_ir.specs.Flat.Process.{no_modules, rule_shape, no_pins, level_after, Trigger, edge_trigger, level_trigger, may_hold, event_point, edge_row, level_row, loaded_row, loaded_rows, always_row, raced_row, raced_rows, one_rule_rows, two_rules_rows, rules_rows, process_rows, processes_rows, pair_by}
use Rattle.rtl_ir.specs.Flat.Rows.{rows_of}
use Rattle.rtl_ir.specs.Flat.Start.{start_of}
use Rattle.rtl_ir.specs.Follow.{all_joins, source_at}
use Rattle.rtl_ir.specs.declared.follow.Join.{Join}
use Rattle.rtl_ir.specs.Parameters.{signal_at}
use Rattle.rtl_ir.specs.Rules.{acting_rules}
use Rattle.rtl_ir.specs.SwitchRules.{root_by_rules}
use Rattle.rtl_ir.specs.Tree.{CaseView}
use Rattle.rtl_ir.specs.WritePorts.{is_write_cell, is_of_memory}
use Rattle.net_model.specs.Lists.{In}
use Rattle.net_model.specs.Within.{Each, BitIn, SigIn, CellIn, EventIn, WriteIn, RuleIn, ProcessIn, IsWithin, with_wires}
use Rattle.net_model.proofs.Ranges.{each_none, each_more, each_both, each_flat_map, each_filter, JoinIn, all_joins_in, signal_in, OptionIn, source_in, RootIn, root_in, decision_in, expanded_in, tree_bits_in}
use Rattle.net_model.proofs.Growing.{map_more, flat_map_more, place_more, point_more, points_more, start_more, pick_more, cells_more, links_more}

module _ (processes : List Process) (p : Path) (ws fs : List Wire) where
  abbrev new : SigBit → Bit
  new = start_of (ws ++ fs) processes

  abbrev old : SigBit → Bit
  old = start_of ws processes

  abbrev count : ℕ
  count = length ws

  bit_start : (b : WireBit) → b.wire < length ws → start_of (ws ++ fs) processes (OnWire b) ≡ start_of ws processes (OnWire b)
  bit_start b h = start_more p ws fs processes (OnWire b) h

  event_more : (signal : List SigBit) → SigIn (length ws) signal → event_point (start_of (ws ++ fs) processes) p (ws ++ fs) signal ≡ event_point (start_of ws processes) p ws signal
  event_more signal h = ap (λ z. point_at z 0) (points_more p ws fs signal h)

  edge_more : (e : Trigger) (j : Join) → SigIn (length ws) e.signal → JoinIn (length ws) j → edge_row (start_of (ws ++ fs) processes) p (ws ++ fs) e j ≡ edge_row (start_of ws processes) p ws e j
  edge_more e j h g = λ i. record {
    place = place_more p ws fs j.bit g.bit i;
    driver = Stored (bit_start j.bit g.bit i) (rule_shape Dff (record low { clk = e.level })) 0 (record no_pins { clk = event_more e.signal h i; d = point_more p ws fs j.source g.source i }) (place_more p ws fs j.bit g.bit i);
  }

  level_more : (l : Trigger) (j : Join) → SigIn (length ws) l.signal → JoinIn (length ws) j → level_row (start_of (ws ++ fs) processes) p (ws ++ fs) l j ≡ level_row (start_of ws processes) p ws l j
  level_more l j h g = λ i. record {
    place = place_more p ws fs j.bit g.bit i;
    driver = Stored (bit_start j.bit g.bit i) (rule_shape Dlatch (record low { en = l.level })) 0 (record no_pins { en = event_more l.signal h i; d = point_more p ws fs j.source g.source i }) (place_more p ws fs j.bit g.bit i);
  }

  loaded_more : (e l : Trigger) (o : Option SigBit) (j : Join) → SigIn (length ws) e.signal → SigIn (length ws) l.signal → OptionIn (length ws) o → JoinIn (length ws) j → loaded_row (start_of (ws ++ fs) processes) p (ws ++ fs) e l o j ≡ loaded_row (start_of ws processes) p ws e l o j
  loaded_more e l None j h k o g = edge_more e j h g
  loaded_more e l (Some load) j h k o g = λ i. record {
    place = place_more p ws fs j.bit g.bit i;
    driver = Stored (bit_start j.bit g.bit i) (rule_shape Aldff (record low { clk = e.level; aload = l.level })) 0 (record no_pins { clk = event_more e.signal h i; d = point_more p ws fs j.source g.source i; aload = event_more l.signal k i; ad = point_more p ws fs load o i }) (place_more p ws fs j.bit g.bit i);
  }

  loaded_rows_more : (e : Trigger) (edges : List Join) (l : Trigger) (levels : List Join) → SigIn (length ws) e.signal → SigIn (length ws) l.signal → Each (JoinIn (length ws)) edges → Each (JoinIn (length ws)) levels → loaded_rows (start_of (ws ++ fs) processes) p (ws ++ fs) e edges l levels ≡ loaded_rows (start_of ws processes) p ws e edges l levels
  loaded_rows_more e edges l levels h k g f =
      λ i. map_more (λ (j : Join). loaded_row (start_of (ws ++ fs) processes) p (ws ++ fs) e l (source_at levels j.bit) j) (λ (j : Join). loaded_row (start_of ws processes) p ws e l (source_at levels j.bit) j) edges (λ j m. loaded_more e l (source_at levels j.bit) j h k (source_in (length ws) levels j.bit f) (g j m)) i ++ map_more (level_row (start_of (ws ++ fs) processes) p (ws ++ fs) l) (level_row (start_of ws processes) p ws l) (filter (λ (j : Join). not (is_some (source_at edges j.bit))) levels) (λ j m. level_more l j k (each_filter (JoinIn (length ws)) (λ (j : Join). not (is_some (source_at edges j.bit))) levels f j m)) i

  always_more : (root : CaseView) (bits : List WireBit) (j : Join) → RootIn (length ws) root → JoinIn (length ws) j → always_row (start_of (ws ++ fs) processes) p (ws ++ fs) root bits j ≡ always_row (start_of ws processes) p ws root bits j
  always_more root bits j h g = λ i. record {
    place = place_more p ws fs j.bit g.bit i;
    driver =
        if may_hold root bits j
        then Held (bit_start j.bit g.bit i) (point_more p ws fs j.source g.source i) (pick_more p ws fs no_test (expanded root bits j.source) (expanded_in (length ws) root bits j.source h g.source) i) (place_more p ws fs j.bit g.bit i)
        else Joined (point_more p ws fs j.source g.source i);
  }

  raced_more : (m m' : Module) → switch_test no_modules m ≡ switch_test no_modules m' → (root : CaseView) (bits : List WireBit) (clock reset : EdgeBit) (j : Join) → RootIn (length ws) root → clock.bit.wire < length ws → reset.bit.wire < length ws → JoinIn (length ws) j → raced_row (start_of (ws ++ fs) processes) p (ws ++ fs) m root bits clock reset j ≡ raced_row (start_of ws processes) p ws m' root bits clock reset j
  raced_more m m' t root bits clock reset j h c r g =
      (λ i. record {
        place = place_more p ws fs j.bit g.bit i;
        driver = Raced (bit_start j.bit g.bit i) (AtPlace (place_more p ws fs clock.bit c i)) (level_after clock.level) (AtPlace (place_more p ws fs reset.bit r i)) (level_after reset.level) (pick_more p ws fs (switch_test no_modules m reset.bit) (expanded root bits j.source) (expanded_in (length ws) root bits j.source h g.source) i) (place_more p ws fs j.bit g.bit i);
      })
      ∙ (λ i. record {
        place = bit_place p ws j.bit;
        driver = Raced (start_of ws processes (OnWire j.bit)) (AtPlace (bit_place p ws clock.bit)) (level_after clock.level) (AtPlace (bit_place p ws reset.bit)) (level_after reset.level) (pick_of (t i reset.bit) p ws (expanded root bits j.source)) (bit_place p ws j.bit);
      })

  abbrev EdgeIn : Option EdgeBit → Type 0
  EdgeIn None = Unit {0}
  EdgeIn (Some e) = e.bit.wire < length ws

  edge_in : (event : Event) → EventIn (length ws) event → EdgeIn (edge_bit event)
  edge_in (Posedge (OnWire b ∷ [])) h = h (OnWire b) (inl refl)
  edge_in (Negedge (OnWire b ∷ [])) h = h (OnWire b) (inl refl)
  edge_in event h = tt

  abbrev TriggerIn : Option Trigger → Type 0
  TriggerIn None = Unit {0}
  TriggerIn (Some e) = SigIn (length ws) e.signal

  edge_trigger_in : (event : Event) → EventIn (length ws) event → TriggerIn (edge_trigger event)
  edge_trigger_in (Posedge signal) h = h
  edge_trigger_in (Negedge signal) h = h
  edge_trigger_in event h = tt

  level_trigger_in : (event : Event) → EventIn (length ws) event → TriggerIn (level_trigger event)
  level_trigger_in (High signal) h = h
  level_trigger_in (Low signal) h = h
  level_trigger_in event h = tt

  module _ (m m' : Module) (t : switch_test no_modules m ≡ switch_test no_modules m') (u : is_tested no_modules m ≡ is_tested no_modules m') where
    raced_rows_more : (root : CaseView) (bits : List WireBit) (updates : List Join) (a b : Option EdgeBit) → RootIn (length ws) root → Each (JoinIn (length ws)) updates → EdgeIn a → EdgeIn b → raced_rows (start_of (ws ++ fs) processes) p (ws ++ fs) m root bits updates a b ≡ raced_rows (start_of ws processes) p ws m' root bits updates a b
    raced_rows_more root bits updates (Some a) (Some b) h g c r =
        λ i. if u i root a
        then map_more (raced_row (start_of (ws ++ fs) processes) p (ws ++ fs) m root bits b a) (raced_row (start_of ws processes) p ws m' root bits b a) updates (λ j k. raced_more m m' t root bits b a j h r c (g j k)) i
        else map_more (raced_row (start_of (ws ++ fs) processes) p (ws ++ fs) m root bits a b) (raced_row (start_of ws processes) p ws m' root bits a b) updates (λ j k. raced_more m m' t root bits a b j h c r (g j k)) i
    raced_rows_more root bits updates None b h g c r = refl
    raced_rows_more root bits updates (Some a) None h g c r = refl

    one_more : (root : CaseView) (bits : List WireBit) (updates : List Join) (event : Event) → RootIn (length ws) root → Each (JoinIn (length ws)) updates → EventIn (length ws) event → one_rule_rows (start_of (ws ++ fs) processes) p (ws ++ fs) root bits updates event ≡ one_rule_rows (start_of ws processes) p ws root bits updates event
    one_more root bits updates Always h g e =
        map_more (always_row (start_of (ws ++ fs) processes) p (ws ++ fs) root bits) (always_row (start_of ws processes) p ws root bits) updates (λ j k. always_more root bits j h (g j k))
    one_more root bits updates Global h g e =
        map_more _ _ updates (λ j k. let f = g j k in λ i. record {
          place = place_more p ws fs j.bit f.bit i;
          driver = Stored (bit_start j.bit f.bit i) (rule_shape Ff low) 0 (record no_pins { d = point_more p ws fs j.source f.source i }) (place_more p ws fs j.bit f.bit i);
        })
    one_more root bits updates (Posedge signal) h g e = map_more _ _ updates (λ j k. edge_more _ j e (g j k))
    one_more root bits updates (Negedge signal) h g e = map_more _ _ updates (λ j k. edge_more _ j e (g j k))
    one_more root bits updates (High signal) h g e = map_more _ _ updates (λ j k. level_more _ j e (g j k))
    one_more root bits updates (Low signal) h g e = map_more _ _ updates (λ j k. level_more _ j e (g j k))
    one_more root bits updates (Edge signal) h g e = refl
    one_more root bits updates Init h g e = refl

    two_more : (root : CaseView) (bits : List WireBit) (a b : SyncRule) (e e' l l' : Option Trigger) → RootIn (length ws) root → RuleIn (length ws) a → RuleIn (length ws) b → TriggerIn e → TriggerIn e' → TriggerIn l → TriggerIn l' → two_rules_rows (start_of (ws ++ fs) processes) p (ws ++ fs) m root bits (pair_by a b e e' l l') ≡ two_rules_rows (start_of ws processes) p ws m' root bits (pair_by a b e e' l l')
    two_more root bits a b (Some e) edge level (Some l) h f g te te' tl tl' =
        loaded_rows_more e (all_joins a.updates) l (all_joins b.updates) te tl' (all_joins_in (length ws) a.updates f.updates) (all_joins_in (length ws) b.updates g.updates)
    two_more root bits a b edge (Some e) (Some l) level h f g te te' tl tl' =
        loaded_rows_more e (all_joins b.updates) l (all_joins a.updates) te' tl (all_joins_in (length ws) b.updates g.updates) (all_joins_in (length ws) a.updates f.updates)
    two_more root bits a b edge edge' level level' h f g te te' tl tl' =
        raced_rows_more root bits (all_joins a.updates) (edge_bit a.event) (edge_bit b.event) h (all_joins_in (length ws) a.updates f.updates) (edge_in a.event f.event) (edge_in b.event g.event)

    rules_more : (root : CaseView) (bits : List WireBit) (rules : List SyncRule) → RootIn (length ws) root → Each (RuleIn (length ws)) rules → rules_rows (start_of (ws ++ fs) processes) p (ws ++ fs) m root bits rules ≡ rules_rows (start_of ws processes) p ws m' root bits rules
    rules_more root bits [] h g = refl
    rules_more root bits (a ∷ []) h g =
        let f = g a (inl refl) in
        one_more root bits (all_joins a.updates) a.event h (all_joins_in (length ws) a.updates f.updates) f.event
    rules_more root bits (a ∷ b ∷ []) h g =
        let f = g a (inl refl) in
        let k = g b (inr (inl refl)) in
        two_more root bits a b (edge_trigger a.event) (edge_trigger b.event) (level_trigger a.event) (level_trigger b.event) h f k (edge_trigger_in a.event f.event) (edge_trigger_in b.event k.event) (level_trigger_in a.event f.event) (level_trigger_in b.event k.event)
    rules_more root bits (a ∷ b ∷ c ∷ rules) h g = refl

    process_more : (process : Process) → ProcessIn (length ws) process → process_rows (start_of (ws ++ fs) processes) p (ws ++ fs) m process ≡ process_rows (start_of ws processes) p ws m' process
    process_more process h =
        let plain : RootIn (length ws) process.root = record { assigns = h.assigns; switches = h.switches } in
        let root : RootIn (length ws) (root_by_rules process.root) = root_in (length ws) process.root plain in
        λ i. map_more (λ (b : WireBit). record { place = bit_place p (ws ++ fs) b; driver = Decided (pick_of no_test p (ws ++ fs) (case_decision (root_by_rules process.root) b)) }) (λ (b : WireBit). record { place = bit_place p ws b; driver = Decided (pick_of no_test p ws (case_decision (root_by_rules process.root) b)) }) (tree_bits process.root) (λ b k j. record { place = place_more p ws fs b (tree_bits_in (length ws) process.root plain b k) j; driver = Decided (pick_more p ws fs no_test (case_decision (root_by_rules process.root) b) (decision_in (length ws) (root_by_rules process.root) b root) j) }) i ++ rules_more (root_by_rules process.root) (tree_bits process.root) (acting_rules process.syncs) root (each_filter (RuleIn (length ws)) _ process.syncs h.syncs) i

    pub processes_more : (ps : List Process) → Each (ProcessIn (length ws)) ps → processes_rows (start_of (ws ++ fs) processes) p (ws ++ fs) m ps ≡ processes_rows (start_of ws processes) p ws m' ps
    processes_more [] h = refl
    processes_more (process ∷ ps) h =
        λ i. process_more process (h process (inl refl)) i ++ processes_more ps (λ x j. h x (inr j)) i

-- write ports
record AccessIn (n : ℕ) (a : Access) : Type 0 where
  clock : SigIn n a.clock.signal
  address : SigIn n a.address
  data_in : SigIn n a.new
  enable : SigIn n a.enable

module _ (n : ℕ) where
  cell_access_in : (c : Cell) → CellIn n c → AccessIn n (cell_access c)
  cell_access_in c h = record {
    clock = signal_in n c.pins (pin_text Clk) h;
    address = signal_in n c.pins (pin_text Addr) h;
    data_in = signal_in n c.pins (pin_text Data) h;
    enable = signal_in n c.pins (pin_text En) h;
  }

  place_in : (a : Access) (as' : List Access) → AccessIn n a → Each (AccessIn n) as' → Each (AccessIn n) (place_access a as')
  place_in a [] h g = each_more (AccessIn n) a [] h g
  place_in a (b ∷ as') h g =
      by (nat_le a.number b.number) (place_in a as' h (λ x j. g x (inr j)))
    where
      by : (t : Bool) → Each (AccessIn n) (place_access a as') → Each (AccessIn n) (if t then a ∷ b ∷ as' else b ∷ place_access a as')
      by true i = each_more (AccessIn n) a (b ∷ as') h g
      by false i = each_more (AccessIn n) b (place_access a as') (g b (inl refl)) i

  order_in : (as' : List Access) → Each (AccessIn n) as' → Each (AccessIn n) (in_access_order as')
  order_in [] h = h
  order_in (a ∷ as') h = place_in a (in_access_order as') (h a (inl refl)) (order_in as' (λ x j. h x (inr j)))

  each_map : {A B : Type 0} (P : B → Type 0) (f : A → B) (xs : List A) → ((x : A) → In x xs → P (f x)) → Each P (map f xs)
  each_map P f [] h = each_none P
  each_map P f (x ∷ xs) h = each_more P (f x) (map f xs) (h x (inl refl)) (each_map P f xs (λ y j. h y (inr j)))

  cell_accesses_in : (name : List ℕ) (cells : List Cell) → Each (CellIn n) cells → Each (AccessIn n) (cell_accesses name cells)
  cell_accesses_in name cells h =
      let is_port = λ (c : Cell). is_write_cell c.kind_name && is_of_memory name c in
      order_in (map cell_access (filter is_port cells)) (each_map (AccessIn n) cell_access (filter is_port cells) (λ c j. cell_access_in c (each_filter (CellIn n) is_port cells h c j)))

  trigger_in : (event : Event) → EventIn n event → SigIn n (write_trigger event).signal
  trigger_in (Posedge signal) h = h
  trigger_in (Negedge signal) h = h
  trigger_in (Low signal) h = each_none (BitIn n)
  trigger_in (High signal) h = each_none (BitIn n)
  trigger_in (Edge signal) h = each_none (BitIn n)
  trigger_in Global h = each_none (BitIn n)
  trigger_in Init h = each_none (BitIn n)
  trigger_in Always h = each_none (BitIn n)

  line_accesses_in : (name : List ℕ) (event : Event) (number : ℕ) (before : List (Option ℕ)) (lines : List WriteLine) → EventIn n event → Each (WriteIn n) lines → Each (AccessIn n) (line_accesses name event number before lines)
  line_accesses_in name event number before [] h g = each_none (AccessIn n)
  line_accesses_in name event number before (line ∷ lines) h g =
      by (bytes_eq name line.memory) (line_accesses_in name event (number + 1) (before ++ Some number ∷ []) lines h (λ x j. g x (inr j))) (line_accesses_in name event number (before ++ None ∷ []) lines h (λ x j. g x (inr j)))
    where
      by : (t : Bool) → Each (AccessIn n) (line_accesses name event (number + 1) (before ++ Some number ∷ []) lines) → Each (AccessIn n) (line_accesses name event number (before ++ None ∷ []) lines) → Each (AccessIn n) (if t then line_access event number before line ∷ line_accesses name event (number + 1) (before ++ Some number ∷ []) lines else line_accesses name event number (before ++ None ∷ []) lines)
      by true i j =
          let k = g line (inl refl) in
          each_more (AccessIn n) (line_access event number before line) _ (record { clock = trigger_in event h; address = k.address; data_in = k.value; enable = k.enable }) i
      by false i j = j

  rule_accesses_in : (name : List ℕ) (number : ℕ) (rules : List SyncRule) → Each (RuleIn n) rules → Each (AccessIn n) (rule_accesses name number rules)
  rule_accesses_in name number [] h = each_none (AccessIn n)
  rule_accesses_in name number (rule ∷ rules) h =
      let k = h rule (inl refl) in
      each_both (AccessIn n) (line_accesses name rule.event number [] rule.writes) _ (line_accesses_in name rule.event number [] rule.writes k.event k.writes) (rule_accesses_in name (number + length (line_accesses name rule.event number [] rule.writes)) rules (λ x j. h x (inr j)))

  accesses_in : (name : List ℕ) (cells : List Cell) (processes : List Process) → Each (CellIn n) cells → Each (ProcessIn n) processes → Each (AccessIn n) (accesses_of name cells processes)
  accesses_in name cells processes h g =
      each_both (AccessIn n) (cell_accesses name cells) _ (cell_accesses_in name cells h) (rule_accesses_in name (next_number (cell_accesses name cells)) (flat_map (λ (q : Process). q.syncs) processes) (each_flat_map (RuleIn n) (λ (q : Process). q.syncs) processes (λ q j. (g q j).syncs)))

  first_in : (as' : List Access) → Each (AccessIn n) as' → SigIn n (first_trigger as').signal
  first_in [] h = each_more (BitIn n) (Fixed X) [] tt (each_none (BitIn n))
  first_in (a ∷ as') h = (h a (inl refl)).clock

module _ (p : Path) (ws fs : List Wire) where
  ports_more : (at : ℕ) (before as' : List Access) → Each (AccessIn (length ws)) as' → port_points p (ws ++ fs) at before as' ≡ port_points p ws at before as'
  ports_more at before [] h = refl
  ports_more at before (a ∷ as') h =
      let k = h a (inl refl) in
      λ i. record { address = points_more p ws fs a.address k.address i; enable = point_at (points_more p ws fs a.enable k.enable i) at; new = point_at (points_more p ws fs a.new k.data_in i) at; follows = map (may_follow a.mask) before } ∷ ports_more at (before ++ a ∷ []) as' (λ x j. h x (inr j)) i

  word_more : (s : Store) (as' : List Access) (inits : List Cell) → Each (AccessIn (length ws)) as' → (address at : ℕ) → word_row p (ws ++ fs) s as' inits address at ≡ word_row p ws s as' inits address at
  word_more s as' inits h address at = λ i. record {
    place = word_place p s.name address at;
    driver = Remembered (start_word_bit inits s.width address at) (point_at (points_more p ws fs (first_trigger as').signal (first_in (length ws) as' h) i) 0) (first_trigger as').level address (ports_more at [] as' h i) (word_place p s.name address at);
  }

  read_more : (s : Store) (c : Cell) → CellIn (length ws) c → read_rows p (ws ++ fs) s c ≡ read_rows p ws s c
  read_more s c h =
      λ i. fetched_rows p s (points_more p ws fs (signal_at c.pins (pin_text Addr)) (signal_in (length ws) c.pins (pin_text Addr) h) i) (points_more p ws fs (signal_at c.pins (pin_text Data)) (signal_in (length ws) c.pins (pin_text Data) h) i) 0

  memory_more : (cells : List Cell) (processes : List Process) → Each (CellIn (length ws)) cells → Each (ProcessIn (length ws)) processes → (s : Store) → memory_rows p (ws ++ fs) cells processes s ≡ memory_rows p ws cells processes s
  memory_more cells processes h g s =
      let as' : List Access = accesses_of s.name cells processes in
      let inits : List Cell = init_cells s.name cells in
      let k : Each (AccessIn (length ws)) (accesses_of s.name cells processes) = accesses_in (length ws) s.name cells processes h g in
      λ i. flat_map_more (λ address. map (word_row p (ws ++ fs) s as' inits address) (range_with_len 0 s.width)) (λ address. map (word_row p ws s as' inits address) (range_with_len 0 s.width)) (addresses_of s) (λ address j. map_more (word_row p (ws ++ fs) s as' inits address) (word_row p ws s as' inits address) (range_with_len 0 s.width) (λ at l. word_more s as' inits k address at)) i ++ flat_map_more (read_rows p (ws ++ fs) s) (read_rows p ws s) (reading_cells s.name cells) (λ c j. read_more s c (each_filter (CellIn (length ws)) (λ (c : Cell). is_read_kind (cell_kind c) && is_of_memory s.name c) cells h c j)) i

pub rows_more : (ports : Ports) (p : Path) (m : Module) (fs : List Wire) → IsWithin m → rows_of ports p (with_wires fs m) ≡ rows_of ports p m
rows_more ports p m fs h =
    λ i. cells_more p m.wires fs m.processes ports m.cells h.cells i
    ++ (links_more p m.wires fs m.links h.links i
    ++ (processes_more m.processes p m.wires fs (with_wires fs m) m refl refl m.processes h.processes i
    ++ flat_map_more (memory_rows p (m.wires ++ fs) m.cells m.processes) (memory_rows p m.wires m.cells m.processes) m.memories (λ s j. memory_more p m.wires fs m.cells m.processes h.cells h.processes s) i))
