-- The rows of a design whose cells have shapes are of cells within the limits of their kinds.
use Rattle.std.proofs.Common.{◌≡◌, ℕ, zero, suc, Bool, true, false, cond, List, [], ◌∷◌, ◌++◌, length, map, Option, Some, None, inl, inr, ⊎_elim, refl, sym, ap, ◌∙◌, subst}
use Rattle.std.specs.Prelude.{filter, flat_map, if◌then◌else◌, not}
use Rattle.std.specs.Option.{is_some}
use Rattle.std.specs.List.{range_with_len}
use Rattle.std.specs.Str.{bytes_eq}
use Rattle.rtl_bits.specs.declared.bit.Bit.{Bit}
use Rattle.rtl_sig.specs.declared.sig.SigBit.{SigBit}
use Rattle.rtl_sig.specs.declared.sig.SigBit.TheVariants.{Wire as OnWire}
use Rattle.rtl_sig.specs.declared.sig.WireBit.{WireBit}
use Rattle.cell_types.specs.declared.fault.CellFault.{CellFault}
use Rattle.cell_types.specs.declared.fault.CellFault.TheVariants as fault
use Rattle.cell_types.specs.declared.kind.CellKind.{CellKind}
use Rattle.cell_types.specs.declared.kind.CellKind.TheVariants as Cell
use Rattle.cell_types.specs.declared.level.Level.TheVariants as At
use Rattle.cell_types.specs.declared.pin_name.PinName.TheVariants.{A, B, S, Y, Q, Addr, Data}
use Rattle.cell_types.specs.declared.shape.Shape.{Shape}
use Rattle.cell_types.specs.PinName.{pin_text}
use Rattle.rtl_ir.specs.declared.cell.Cell.{Cell as CellOf}
use Rattle.rtl_ir.specs.declared.cell.Pin.{Pin}
use Rattle.rtl_ir.specs.declared.module.Design.{Design}
use Rattle.rtl_ir.specs.declared.module.Link.{Link}
use Rattle.rtl_ir.specs.declared.module.Module.{Module}
use Rattle.rtl_ir.specs.declared.ports.PortLine.{PortLine}
use Rattle.rtl_ir.specs.declared.process.Event.{Event}
use Rattle.rtl_ir.specs.declared.process.Event.TheVariants.{Low, High, Posedge, Negedge, Edge, Global, Init, Always}
use Rattle.rtl_ir.specs.declared.process.Process.{Process}
use Rattle.rtl_ir.specs.declared.process.SyncRule.{SyncRule}
use Rattle.rtl_ir.specs.declared.store.Store.{Store}
use Rattle.rtl_ir.specs.declared.wire.Role.{Role}
use Rattle.rtl_ir.specs.declared.wire.Role.TheVariants.{Inner, Input, Output, Inout}
use Rattle.rtl_ir.specs.declared.wire.Wire.{Wire}
use Rattle.rtl_ir.specs.Assigns.{tree_bits}
use Rattle.rtl_ir.specs.Decisions.{expanded}
use Rattle.rtl_ir.specs.Drivers.{drives_of}
use Rattle.rtl_ir.specs.Fault.{Spot, spot}
use Rattle.rtl_ir.specs.Faults.{faults_within, module_faults}
use Rattle.rtl_ir.specs.Faults.Bits.{bits_faults}
use Rattle.rtl_ir.specs.Faults.Cells.{misfit, shape_fault, output_faults, memory_faults, faults_by_type, cell_faults}
use Rattle.rtl_ir.specs.Faults.Links.{link_faults}
use Rattle.rtl_ir.specs.Faults.Processes.{process_faults}
use Rattle.rtl_ir.specs.Faults.Recursion.{recursion_faults}
use Rattle.rtl_ir.specs.Faults.TwoEdges.{EdgeBit, edge_bit, is_tested}
use Rattle.rtl_ir.specs.Flat.Cell as flat
use Rattle.rtl_ir.specs.Flat.Cell.{cell_kind, cell_shape, outputs, stores, word_store, gate_store, port_joins, instance_rows, kind_rows, cell_rows, cells_rows, instances}
use Rattle.rtl_ir.specs.Flat.Driver.{StorePoints, Driven, Held, Joined}
use Rattle.rtl_ir.specs.Flat.Link.{joins, link_rows}
use Rattle.rtl_ir.specs.Flat.Access.{accesses_of}
use Rattle.rtl_ir.specs.Flat.Memory.{addresses_of, fetched_rows, init_cells, memories_rows, memory_rows, read_rows, reading_cells, word_row, word_rows}
use Rattle.rtl_ir.specs.Flat.Place.{Frame, frame, Path, Place}
use Rattle.rtl_ir.specs.Flat.Point.{Point, Constant, At as AtPlace, bit_place, pin_points, point, points, wire_points}
use Rattle.rtl_ir.specs.Flat.Pick.{no_test, pick_of}
use Rattle.rtl_ir.specs.Flat.Process.{Trigger, always_row, edge_row, edge_trigger, level_row, level_trigger, loaded_row, loaded_rows, may_hold, no_modules, one_rule_rows, process_rows, processes_rows, raced_row, raced_rows, rules_rows, tree_bit_rows, two_rules_rows, pair_by}
use Rattle.rtl_ir.specs.Flat.Rows.{plain_rows, rows_of}
use Rattle.rtl_ir.specs.Flat.Start.{start_of}
use Rattle.rtl_ir.specs.Flat.Tree as tree
use Rattle.rtl_ir.specs.Flat.Tree.{named, in_instances, in_tree, given_rows, driven_rows, role_points, places, root}
use Rattle.rtl_ir.specs.Follow.{all_joins, source_at}
use Rattle.rtl_ir.specs.declared.follow.Join.{Join}
use Rattle.rtl_ir.specs.Parameters.{signal_at}
use Rattle.rtl_ir.specs.Ports.{ports_of}
use Rattle.rtl_ir.specs.Rules.{acting_rules}
use Rattle.rtl_ir.specs.Scope.{everything}
use Rattle.rtl_ir.specs.SwitchRules.{root_by_rules}
use Rattle.rtl_ir.specs.Tree.{CaseView}
use Rattle.rtl_ir.specs.Types.{Ports, Library, type_by, cell_type, design_ports}
use Rattle.cell_types.specs.Unsupported.{is_unsupported}
use Rattle.net_model.specs.Lists.{In}
use Rattle.net_model.specs.Within.{Each}
use Rattle.net_model.proofs.Instances.{instances_find}
use Rattle.net_model.proofs.Members.{In-cases}
use Rattle.sim_eval.specs.Shapes.{HaveShapes}
use Rattle.sim_eval.specs.Limits.{is_driver_within, is_logic_within, is_storage}
use Rattle.sim_eval.proofs.Limits.{no_memory, word_within}

-- the cell of each row is within the limits of its kind
abbrev pub AreWithin : List Driven → Type 0
AreWithin rows = (x : Driven) → In x rows → is_driver_within x.driver ≡ true

both : (rows more : List Driven) → AreWithin rows → AreWithin more → AreWithin (rows ++ more)
both rows more h k x i = ⊎_elim (λ l. h x l) (λ r. k x r) (In-cases x rows more i)

-- lists that are empty together are empty
pub left_none : {A : Type 0} (xs ys : List A) → xs ++ ys ≡ [] → xs ≡ []
left_none [] ys e = refl
left_none (x ∷ xs) ys e = absurd (cc)

pub right_none : {A : Type 0} (xs ys : List A) → xs ++ ys ≡ [] → ys ≡ []
right_none [] ys e = e
right_none (x ∷ xs) ys e = absurd (cc)

outputs_within : (shape : Shape) (inputs : List (List Point)) → is_logic_within shape.kind shape (map length inputs) ≡ true → (ys : List Point) (at : ℕ) → AreWithin (outputs shape inputs ys at)
outputs_within shape inputs h [] at x i = absurd i
outputs_within shape inputs h (AtPlace q ∷ ys) at x (inl e) = subst (λ z. is_driver_within z.driver ≡ true) (sym e) h
outputs_within shape inputs h (AtPlace q ∷ ys) at x (inr i) = outputs_within shape inputs h ys (suc at) x i
outputs_within shape inputs h (Constant b ∷ ys) at x i = outputs_within shape inputs h ys (suc at) x i

stores_within : (start : SigBit → Bit) (shape : Shape) (pins : ℕ → StorePoints) → is_storage shape.kind ≡ true → (signal : List SigBit) (qs : List Point) (at : ℕ) → AreWithin (stores start shape pins signal qs at)
stores_within start shape pins h [] qs at x i = absurd i
stores_within start shape pins h (s ∷ signal) [] at x i = absurd i
stores_within start shape pins h (s ∷ signal) (AtPlace q ∷ qs) at x (inl e) = subst (λ z. is_driver_within z.driver ≡ true) (sym e) h
stores_within start shape pins h (s ∷ signal) (AtPlace q ∷ qs) at x (inr i) = stores_within start shape pins h signal qs (suc at) x i
stores_within start shape pins h (s ∷ signal) (Constant b ∷ qs) at x i = stores_within start shape pins h signal qs (suc at) x i

joins_within : (lefts rights : List Point) → AreWithin (joins lefts rights)
joins_within [] rights x i = absurd i
joins_within (l ∷ lefts) [] x i = absurd i
joins_within (AtPlace q ∷ lefts) (r ∷ rights) x (inl e) = subst (λ z. is_driver_within z.driver ≡ true) (sym e) refl
joins_within (AtPlace q ∷ lefts) (r ∷ rights) x (inr i) = joins_within lefts rights x i
joins_within (Constant b ∷ lefts) (r ∷ rights) x i = joins_within lefts rights x i

port_within : (role : Role) (outer inner : List Point) → AreWithin (port_joins role outer inner)
port_within Inner outer inner x i = absurd i
port_within Input outer inner x i = joins_within inner outer x i
port_within Output outer inner x i = joins_within outer inner x i
port_within Inout outer inner x i = absurd i

instance_within : (p : Path) (wires : List Wire) (pins : List Pin) (f : Frame) (ports : List PortLine) → AreWithin (instance_rows p wires pins f ports)
instance_within p wires pins f [] = λ x i. absurd i
instance_within p wires pins f (port ∷ ports) =
    both (port_joins port.role (points p wires (signal_at pins port.name)) (wire_points (f ∷ p) port.name 0 port.width)) (instance_rows p wires pins f ports) (port_within port.role (points p wires (signal_at pins port.name)) (wire_points (f ∷ p) port.name 0 port.width)) (instance_within p wires pins f ports)

links_within : (p : Path) (wires : List Wire) (links : List Link) → AreWithin (link_rows p wires links)
links_within p wires [] = λ x i. absurd i
links_within p wires (l ∷ links) =
    both (joins (points p wires l.left) (points p wires l.right)) (link_rows p wires links) (joins_within (points p wires l.left) (points p wires l.right)) (links_within p wires links)

givens_within : (qs : List Place) (at : ℕ) → AreWithin (given_rows qs at)
givens_within [] at x i = absurd i
givens_within (q ∷ qs) at x (inl e) = subst (λ z. is_driver_within z.driver ≡ true) (sym e) refl
givens_within (q ∷ qs) at x (inr i) = givens_within qs (suc at) x i

kind_within : (start : SigBit → Bit) (p : Path) (wires : List Wire) (c : CellOf) (kind : CellKind) → misfit kind c ≡ None → AreWithin (kind_rows start p wires c kind)
unfolding cell_shape
kind_within start p wires c (Cell.Word kind) e =
    outputs_within (cell_shape (Cell.Word kind) c.params) (pin_points p wires c.pins A ∷ pin_points p wires c.pins B ∷ pin_points p wires c.pins S ∷ []) (word_within p wires kind c e) (pin_points p wires c.pins Y) 0
kind_within start p wires c (Cell.Gate kind) e =
    outputs_within (cell_shape (Cell.Gate kind) c.params) (pin_points p wires c.pins A ∷ pin_points p wires c.pins B ∷ pin_points p wires c.pins S ∷ []) refl (pin_points p wires c.pins Y) 0
kind_within start p wires c (Cell.Storage kind) e =
    stores_within start (cell_shape (Cell.Storage kind) c.params) (word_store p wires c.pins) refl (signal_at c.pins (pin_text Q)) (pin_points p wires c.pins Q) 0
kind_within start p wires c (Cell.StorageGate gate) e =
    stores_within start (cell_shape (Cell.StorageGate gate) c.params) (gate_store p wires c.pins) refl (signal_at c.pins (pin_text Q)) (pin_points p wires c.pins Q) 0
kind_within start p wires c (Cell.Memory kind) e = λ x i. absurd i

-- a cell without a fault of its shape
no_shape_fault : (here : Spot) (kind : CellKind) (c : CellOf) → shape_fault here (misfit kind c) ≡ [] → misfit kind c ≡ None
no_shape_fault here kind c e =
    by (misfit kind c) refl e
  where
    by : (o : Option CellFault) → misfit kind c ≡ o → shape_fault here o ≡ [] → misfit kind c ≡ None
    by None f h = f
    by (Some fault.Bad) f h = absurd (cc)
    by (Some fault.Wide) f h = absurd (cc)
    by (Some fault.Width) f h = absurd (cc)
    by (Some fault.Memory) f h = absurd (no_memory kind c f)

each_within : {A : Type 0} (f : A → Driven) → ((x : A) → is_driver_within (f x).driver ≡ true) → (xs : List A) → AreWithin (map f xs)
each_within f h [] x i = absurd i
each_within f h (y ∷ xs) x (inl e) = subst (λ z. is_driver_within z.driver ≡ true) (sym e) (h y)
each_within f h (y ∷ xs) x (inr i) = each_within f h xs x i

-- the rows of processes
module _ (start : SigBit → Bit) (p : Path) (m : Module) (root : CaseView) (bits : List WireBit) where
  loaded_within : (e l : Trigger) (load : Option SigBit) (j : Join) → is_driver_within (loaded_row start p m.wires e l load j).driver ≡ true
  loaded_within e l None j = refl
  loaded_within e l (Some load) j = refl

  both_within : (e : Trigger) (edges : List Join) (l : Trigger) (levels : List Join) → AreWithin (loaded_rows start p m.wires e edges l levels)
  both_within e edges l levels =
      both (map (λ (j : Join). loaded_row start p m.wires e l (source_at levels j.bit) j) edges) _
      (each_within (λ (j : Join). loaded_row start p m.wires e l (source_at levels j.bit) j) (λ j. loaded_within e l (source_at levels j.bit) j) edges)
      (each_within (level_row start p m.wires l) (λ j. refl) (filter (λ (j : Join). not (is_some (source_at edges j.bit))) levels))

  always_within : (updates : List Join) → AreWithin (map (always_row start p m.wires root bits) updates)
  always_within updates = each_within (always_row start p m.wires root bits) (λ j. by j (may_hold root bits j)) updates
    where
      by : (j : Join) (t : Bool) → is_driver_within (if t then Held (start (OnWire j.bit)) (point p m.wires j.source) (pick_of no_test p m.wires (expanded root bits j.source)) (bit_place p m.wires j.bit) else Joined (point p m.wires j.source)) ≡ true
      by j true = refl
      by j false = refl

  races_within : (updates : List Join) (a b : Option EdgeBit) → AreWithin (raced_rows start p m.wires m root bits updates a b)
  races_within updates (Some a) (Some b) = by (is_tested no_modules m root a)
    where
      by : (t : Bool) → AreWithin (if t then map (raced_row start p m.wires m root bits b a) updates else map (raced_row start p m.wires m root bits a b) updates)
      by true = each_within (raced_row start p m.wires m root bits b a) (λ j. refl) updates
      by false = each_within (raced_row start p m.wires m root bits a b) (λ j. refl) updates
  races_within updates (Some a) None = λ x i. absurd i
  races_within updates None b = λ x i. absurd i

  one_within : (updates : List Join) (event : Event) → AreWithin (one_rule_rows start p m.wires root bits updates event)
  one_within updates Always = always_within updates
  one_within updates Global = each_within _ (λ j. refl) updates
  one_within updates (Posedge signal) = each_within (edge_row start p m.wires (record { signal = signal; level = At.High })) (λ j. refl) updates
  one_within updates (Negedge signal) = each_within (edge_row start p m.wires (record { signal = signal; level = At.Low })) (λ j. refl) updates
  one_within updates (High signal) = each_within (level_row start p m.wires (record { signal = signal; level = At.High })) (λ j. refl) updates
  one_within updates (Low signal) = each_within (level_row start p m.wires (record { signal = signal; level = At.Low })) (λ j. refl) updates
  one_within updates (Edge signal) = λ x i. absurd i
  one_within updates Init = λ x i. absurd i

  two_within : (a b : SyncRule) (edge edge' level level' : Option Trigger) → AreWithin (two_rules_rows start p m.wires m root bits (pair_by a b edge edge' level level'))
  two_within a b (Some e) edge level (Some l) = both_within e (all_joins a.updates) l (all_joins b.updates)
  two_within a b edge (Some e) (Some l) level = both_within e (all_joins b.updates) l (all_joins a.updates)
  two_within a b edge edge' level level' = races_within (all_joins a.updates) (edge_bit a.event) (edge_bit b.event)

  rules_within : (rules : List SyncRule) → AreWithin (rules_rows start p m.wires m root bits rules)
  rules_within [] = λ x i. absurd i
  rules_within (a ∷ []) = one_within (all_joins a.updates) a.event
  rules_within (a ∷ b ∷ []) = two_within a b (edge_trigger a.event) (edge_trigger b.event) (level_trigger a.event) (level_trigger b.event)
  rules_within (a ∷ b ∷ c ∷ rules) = λ x i. absurd i

process_within : (start : SigBit → Bit) (p : Path) (m : Module) (q : Process) → AreWithin (process_rows start p m.wires m q)
process_within start p m q =
    let root = root_by_rules q.root in
    let bits = tree_bits q.root in
    both (tree_bit_rows start p m.wires root bits) (rules_rows start p m.wires m root bits (acting_rules q.syncs))
    (each_within _ (λ b. refl) bits)
    (rules_within start p m root bits (acting_rules q.syncs))

-- the rows of memories
flat_within : {A : Type 0} (f : A → List Driven) → ((x : A) → AreWithin (f x)) → (xs : List A) → AreWithin (flat_map f xs)
flat_within f h [] = λ x i. absurd i
flat_within f h (y ∷ xs) = both (f y) (flat_map f xs) (h y) (flat_within f h xs)

fetched_within : (p : Path) (s : Store) (address ds : List Point) (at : ℕ) → AreWithin (fetched_rows p s address ds at)
fetched_within p s address [] at x i = absurd i
fetched_within p s address (AtPlace q ∷ ds) at x (inl e) = subst (λ z. is_driver_within z.driver ≡ true) (sym e) refl
fetched_within p s address (AtPlace q ∷ ds) at x (inr i) = fetched_within p s address ds (suc at) x i
fetched_within p s address (Constant b ∷ ds) at x i = fetched_within p s address ds (suc at) x i

memories_within : (p : Path) (wires : List Wire) (cells : List CellOf) (processes : List Process) (memories : List Store) → AreWithin (memories_rows p wires cells processes memories)
memories_within p wires cells processes memories =
    flat_within (memory_rows p wires cells processes) (λ s.
    both (word_rows p wires s (accesses_of s.name cells processes) (init_cells s.name cells)) (flat_map (read_rows p wires s) (reading_cells s.name cells))
    (flat_within _ (λ address. each_within (word_row p wires s (accesses_of s.name cells processes) (init_cells s.name cells) address) (λ at. refl) (range_with_len 0 s.width)) (addresses_of s))
    (flat_within (read_rows p wires s) (λ c. fetched_within p s (points p wires (signal_at c.pins (pin_text Addr))) (points p wires (signal_at c.pins (pin_text Data))) 0) (reading_cells s.name cells)))
    memories

module _ (ports : Ports) (m : Module) where
  library_fits : (earlier : List CellOf) (c : CellOf) (kind : CellKind) → faults_by_type everything m earlier c (Library kind) ≡ [] → misfit kind c ≡ None
  library_fits earlier c kind e =
      let here = spot m.id c.name in
      no_shape_fault here kind c (right_none _ (shape_fault here (misfit kind c)) (left_none _ (output_faults here (Library kind) c.pins) (left_none _ (memory_faults everything.clocks m earlier c kind) e)))

  cell_fits : (earlier : List CellOf) (c : CellOf) (kind : CellKind) → cell_kind c ≡ Some kind → faults_by_type everything m earlier c (cell_type ports c.kind_name) ≡ [] → misfit kind c ≡ None
  unfolding cell_type cell_kind
  cell_fits earlier c kind k e =
      library_fits earlier c kind (subst (λ z. faults_by_type everything m earlier c (type_by z (ports c.kind_name) (is_unsupported c.kind_name)) ≡ []) k e)

  cells_fit : (earlier cells : List CellOf) → cell_faults everything ports m earlier cells ≡ [] → HaveShapes cells
  cells_fit earlier [] e c i kind k = absurd i
  cells_fit earlier (x ∷ cells) e c (inl same) kind k =
      subst (λ z. misfit kind z ≡ None) (sym same)
      (cell_fits earlier x kind (ap cell_kind (sym same) ∙ k) (left_none (faults_by_type everything m earlier x (cell_type ports x.kind_name)) (cell_faults everything ports m (earlier ++ x ∷ []) cells) e))
  cells_fit earlier (x ∷ cells) e c (inr i) kind k =
      cells_fit (earlier ++ x ∷ []) cells (right_none (faults_by_type everything m earlier x (cell_type ports x.kind_name)) _ e) c i kind k

  -- the cells of a module without faults have shapes
  module_shapes : module_faults everything ports m ≡ [] → HaveShapes m.cells
  module_shapes e =
      let e1 = left_none _ (bits_faults m.id (drives_of ports m) 0 m.wires) e in
      let e2 = left_none _ (link_faults m.id 1 m.links) e1 in
      let e3 = left_none _ (process_faults everything ports m [] m.processes) e2 in
      cells_fit [] m.cells (right_none _ (cell_faults everything ports m [] m.cells) e3)

module _ (m : Module) where
  cells_within : (start : SigBit → Bit) (inner : flat.Ports) (p : Path) (cells : List CellOf) → HaveShapes cells → AreWithin (cells_rows start inner p m.wires cells)
  cells_within start inner p [] h = λ x i. absurd i
  cells_within start inner p (c ∷ cells) h =
      both (cell_rows start inner p m.wires c (cell_kind c)) (cells_rows start inner p m.wires cells)
      (by (cell_kind c) refl)
      (cells_within start inner p cells (λ k i. h k (inr i)))
    where
      by : (o : Option CellKind) → cell_kind c ≡ o → AreWithin (cell_rows start inner p m.wires c o)
      by None k = instance_within p m.wires c.pins (frame c.name c.kind_name) (inner c.kind_name)
      by (Some kind) k = kind_within start p m.wires c kind (h c (inl refl) kind k)

  processes_within : (start : SigBit → Bit) (p : Path) (processes : List Process) → AreWithin (processes_rows start p m.wires m processes)
  processes_within start p [] = λ x i. absurd i
  processes_within start p (q ∷ processes) = both (process_rows start p m.wires m q) (processes_rows start p m.wires m processes) (process_within start p m q) (processes_within start p processes)

  rows_within : (inner : flat.Ports) (p : Path) → HaveShapes m.cells → AreWithin (rows_of inner p m)
  rows_within inner p h =
      let start = start_of m.wires m.processes in
      both (cells_rows start inner p m.wires m.cells) (plain_rows p m) (cells_within start inner p m.cells h)
      (both (link_rows p m.wires m.links) _ (links_within p m.wires m.links)
      (both (processes_rows start p m.wires m m.processes) (memories_rows p m.wires m.cells m.processes m.memories) (processes_within start p m.processes) (memories_within p m.wires m.cells m.processes m.memories)))

-- a module of these has no faults
module_faultless : (ports : Ports) (modules : List Module) → flat_map (module_faults everything ports) modules ≡ [] → (m : Module) → In m modules → module_faults everything ports m ≡ []
module_faultless ports [] e m i = absurd i
module_faultless ports (n ∷ modules) e m (inl f) =
    subst (λ z. module_faults everything ports z ≡ []) (sym f) (left_none (module_faults everything ports n) (flat_map (module_faults everything ports) modules) e)
module_faultless ports (n ∷ modules) e m (inr i) =
    module_faultless ports modules (right_none (module_faults everything ports n) (flat_map (module_faults everything ports) modules) e) m i

named_in : (modules : List Module) (id : List ℕ) (m : Module) → named modules id ≡ Some m → In m modules
named_in [] id m e = absurd (cc)
named_in (n ∷ modules) id m e =
    by (named_in modules id m) (bytes_eq n.id id) e
  where
    by : (named modules id ≡ Some m → In m modules) → (t : Bool) → cond t (Some n) (named modules id) ≡ Some m → In m (n ∷ modules)
    by rest true f = inl (sym (cc))
    by rest false f = inr (rest f)

-- the cells of a design without faults have shapes
pub faultless_shapes : (d : Design) → faults_within everything d.modules ≡ [] → Each (λ (m : Module). HaveShapes m.cells) d.modules
faultless_shapes d faultless m i =
    module_shapes (design_ports d.modules) m
    (module_faultless (design_ports d.modules) d.modules (left_none (flat_map (module_faults everything (design_ports d.modules)) d.modules) (recursion_faults d.modules) faultless) m i)

module _ (d : Design) (shapes : Each (λ (m : Module). HaveShapes m.cells) d.modules) where
  tree_within : (depth : ℕ) (p : Path) (m : Module) → In m d.modules → AreWithin (in_tree d (rows_of (tree.design_ports d)) depth p m)
  tree_within zero p m i = λ x j. absurd j
  tree_within (suc depth) p m i =
      both (rows_of (tree.design_ports d) p m) (in_instances d (in_tree d (rows_of (tree.design_ports d)) depth) p (instances m.cells))
      (rows_within m (tree.design_ports d) p (shapes m i))
      (λ x j. let k = instances_find d (in_tree d (rows_of (tree.design_ports d)) depth) p x (instances m.cells) j in
      tree_within depth (k.0 ∷ p) k.1 (named_in d.modules k.0.module_name k.1 k.3) x k.4)

  -- the rows of a module
  pub driven_within : (m : Module) → In m d.modules → AreWithin (driven_rows d m)
  driven_within m i =
      both (given_rows (places (role_points Input (root m) (ports_of m.wires))) 0) _ (givens_within _ 0) (tree_within (length d.modules) (root m) m i)
