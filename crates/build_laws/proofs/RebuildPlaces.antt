-- The places of rows: those of processes are those of the bits that they drive, and those of cells and memories depend on neither
-- start values nor processes.
use Rattle.std.proofs.Common.{◌≡◌, ℕ, suc, Bool, true, false, not, ◌&&◌, List, [], ◌∷◌, ◌++◌, Option, Some, None, inl, inr, refl, sym, ◌∙◌, ap}
use Rattle.std.specs.Prelude.{map, filter, flat_map, if◌then◌else◌}
use Rattle.std.specs.List.{range_with_len}
use Rattle.std.specs.Option.{is_some}
use Rattle.std.proofs.lemmas.List.{append-nil}
use Rattle.cell_types.specs.declared.kind.CellKind.{CellKind}
use Rattle.cell_types.specs.declared.kind.CellKind.TheVariants.{Word, Gate, Storage, StorageGate, Memory}
use Rattle.cell_types.specs.declared.pin_name.PinName.TheVariants.{Q}
use Rattle.cell_types.specs.declared.shape.Shape.{Shape}
use Rattle.cell_types.specs.PinName.{pin_text}
use Rattle.rtl_bits.specs.declared.bit.Bit.{Bit}
use Rattle.rtl_sig.specs.declared.sig.SigBit.{SigBit}
use Rattle.rtl_sig.specs.declared.sig.WireBit.{WireBit}
use Rattle.rtl_ir.specs.declared.cell.Cell.{Cell}
use Rattle.rtl_ir.specs.declared.module.Module.{Module}
use Rattle.rtl_ir.specs.declared.process.Event.{Event}
use Rattle.rtl_ir.specs.declared.process.Event.TheVariants.{Low, High, Posedge, Negedge, Edge, Global, Init, Always}
use Rattle.rtl_ir.specs.declared.process.Process.{Process}
use Rattle.rtl_ir.specs.declared.process.SyncRule.{SyncRule}
use Rattle.rtl_ir.specs.declared.store.Store.{Store}
use Rattle.rtl_ir.specs.declared.wire.Wire.{Wire}
use Rattle.rtl_ir.specs.Assigns.{tree_bits}
use Rattle.rtl_ir.specs.Faults.Cells.{is_memory_kind}
use Rattle.rtl_ir.specs.Faults.TwoEdges.{EdgeBit, edge_bit, is_tested}
use Rattle.rtl_ir.specs.Flat.Access.{Access, accesses_of}
use Rattle.rtl_ir.specs.Flat.Cell.{Ports, cell_kind, cell_rows, cells_rows, instance_of, instances, listed, stores}
use Rattle.rtl_ir.specs.Flat.Driver.{Driven, StorePoints}
use Rattle.rtl_ir.specs.Flat.Memory.{addresses_of, init_cells, is_read_kind, memories_rows, memory_rows, read_rows, reading_cells, word_row, word_rows}
use Rattle.rtl_ir.specs.Flat.Place.{Path, Place, word_place}
use Rattle.rtl_ir.specs.Flat.Point.{At, Constant, Point, bit_place, pin_points}
use Rattle.rtl_ir.specs.Flat.Process.{Trigger, edge_trigger, level_trigger, level_row, loaded_row, loaded_rows, no_modules, one_rule_rows, process_rows, processes_rows, raced_row, raced_rows, rules_rows, tree_bit_rows, two_rules_rows, pair_by}
use Rattle.rtl_ir.specs.Follow.{all_joins, source_at}
use Rattle.rtl_ir.specs.declared.follow.Join.{Join}
use Rattle.rtl_ir.specs.Parameters.{signal_at}
use Rattle.rtl_ir.specs.Rules.{acting_rules}
use Rattle.rtl_ir.specs.SwitchRules.{root_by_rules}
use Rattle.rtl_ir.specs.Tree.{CaseView}
use Rattle.rtl_ir.specs.Types as types
use Rattle.rtl_ir.specs.WritePorts.{is_of_memory}
use Rattle.net_model.proofs.Members.{map-append, map-map}
use Rattle.net_model.specs.Refine.{places_of}
use Rattle.net_model.specs.Within.{Each}
use Rattle.pass_laws.proofs.Alone.{fits_kind}
use Rattle.pass_laws.proofs.Placing.{bits_places, places_more}
use Rattle.pass_laws.specs.Replaces.{IsFaultless}
use Rattle.build_laws.specs.Rebuilds.{driven_bits, join_bits, loaded_bits, one_rule_bits, raced_bits, rules_bits, two_rules_bits}

module _ (start : SigBit → Bit) (p : Path) (wires : List Wire) where
  -- rows of lines, place by place
  rows_at : (row : Join → Driven) → ((j : Join) → (row j).place ≡ bit_place p wires j.bit) → (js : List Join) → places_of (map row js) ≡ bits_places p wires (join_bits js)
  rows_at row h [] = refl
  rows_at row h (j ∷ js) = λ i. h j i ∷ rows_at row h js i

  loaded_at : (e l : Trigger) (o : Option SigBit) (j : Join) → (loaded_row start p wires e l o j).place ≡ bit_place p wires j.bit
  loaded_at e l None j = refl
  loaded_at e l (Some s) j = refl

  loaded_places : (e : Trigger) (edges : List Join) (l : Trigger) (levels : List Join) → places_of (loaded_rows start p wires e edges l levels) ≡ bits_places p wires (loaded_bits edges levels)
  loaded_places e edges l levels =
      let first : List Driven = map (λ (j : Join). loaded_row start p wires e l (source_at levels j.bit) j) edges in
      let others : List Join = filter (λ (j : Join). not (is_some (source_at edges j.bit))) levels in
      places_more first (map (level_row start p wires l) others)
      ∙ (λ i. rows_at (λ (j : Join). loaded_row start p wires e l (source_at levels j.bit) j) (λ j. loaded_at e l (source_at levels j.bit) j) edges i ++ rows_at (level_row start p wires l) (λ j. refl) others i)
      ∙ sym (map-append (bit_place p wires) (join_bits edges) (join_bits others))

  one_places : (root : CaseView) (bits : List WireBit) (updates : List Join) (event : Event) → places_of (one_rule_rows start p wires root bits updates event) ≡ bits_places p wires (one_rule_bits updates event)
  one_places root bits updates Always = rows_at _ (λ j. refl) updates
  one_places root bits updates Global = rows_at _ (λ j. refl) updates
  one_places root bits updates (Posedge signal) = rows_at _ (λ j. refl) updates
  one_places root bits updates (Negedge signal) = rows_at _ (λ j. refl) updates
  one_places root bits updates (High signal) = rows_at _ (λ j. refl) updates
  one_places root bits updates (Low signal) = rows_at _ (λ j. refl) updates
  one_places root bits updates (Edge signal) = refl
  one_places root bits updates Init = refl

  module _ (m : Module) (root : CaseView) (bits : List WireBit) where
    raced_places : (updates : List Join) (a b : Option EdgeBit) → places_of (raced_rows start p wires m root bits updates a b) ≡ bits_places p wires (raced_bits updates a b)
    raced_places updates (Some a) (Some b) = by (is_tested no_modules m root a)
      where
        by : (t : Bool) → places_of (if t then map (raced_row start p wires m root bits b a) updates else map (raced_row start p wires m root bits a b) updates) ≡ bits_places p wires (join_bits updates)
        by true = rows_at (raced_row start p wires m root bits b a) (λ j. refl) updates
        by false = rows_at (raced_row start p wires m root bits a b) (λ j. refl) updates
    raced_places updates (Some a) None = refl
    raced_places updates None (Some b) = refl
    raced_places updates None None = refl

    two_places : (a b : SyncRule) (e f l k : Option Trigger) → places_of (two_rules_rows start p wires m root bits (pair_by a b e f l k)) ≡ bits_places p wires (two_rules_bits a b e f l k)
    two_places a b (Some e) (Some f) (Some l) (Some k) = loaded_places e (all_joins a.updates) k (all_joins b.updates)
    two_places a b (Some e) (Some f) None (Some k) = loaded_places e (all_joins a.updates) k (all_joins b.updates)
    two_places a b (Some e) None (Some l) (Some k) = loaded_places e (all_joins a.updates) k (all_joins b.updates)
    two_places a b (Some e) None None (Some k) = loaded_places e (all_joins a.updates) k (all_joins b.updates)
    two_places a b (Some e) (Some f) (Some l) None = loaded_places f (all_joins b.updates) l (all_joins a.updates)
    two_places a b None (Some f) (Some l) None = loaded_places f (all_joins b.updates) l (all_joins a.updates)
    two_places a b None (Some f) (Some l) (Some k) = loaded_places f (all_joins b.updates) l (all_joins a.updates)
    two_places a b (Some e) (Some f) None None = raced_places (all_joins a.updates) (edge_bit a.event) (edge_bit b.event)
    two_places a b (Some e) None (Some l) None = raced_places (all_joins a.updates) (edge_bit a.event) (edge_bit b.event)
    two_places a b (Some e) None None None = raced_places (all_joins a.updates) (edge_bit a.event) (edge_bit b.event)
    two_places a b None (Some f) None (Some k) = raced_places (all_joins a.updates) (edge_bit a.event) (edge_bit b.event)
    two_places a b None (Some f) None None = raced_places (all_joins a.updates) (edge_bit a.event) (edge_bit b.event)
    two_places a b None None (Some l) (Some k) = raced_places (all_joins a.updates) (edge_bit a.event) (edge_bit b.event)
    two_places a b None None (Some l) None = raced_places (all_joins a.updates) (edge_bit a.event) (edge_bit b.event)
    two_places a b None None None (Some k) = raced_places (all_joins a.updates) (edge_bit a.event) (edge_bit b.event)
    two_places a b None None None None = raced_places (all_joins a.updates) (edge_bit a.event) (edge_bit b.event)

    rules_places : (rules : List SyncRule) → places_of (rules_rows start p wires m root bits rules) ≡ bits_places p wires (rules_bits rules)
    rules_places [] = refl
    rules_places (a ∷ []) = one_places root bits (all_joins a.updates) a.event
    rules_places (a ∷ b ∷ []) =
        two_places a b (edge_trigger a.event) (edge_trigger b.event) (level_trigger a.event) (level_trigger b.event)
    rules_places (a ∷ b ∷ c ∷ rules) = refl

  tree_places : (root : CaseView) (bits : List WireBit) → places_of (tree_bit_rows start p wires root bits) ≡ bits_places p wires bits
  tree_places root bits = map-map _ (λ (d : Driven). d.place) bits

  process_places : (m : Module) (q : Process) → places_of (process_rows start p wires m q) ≡ bits_places p wires (driven_bits q)
  process_places m q =
      let root : CaseView = root_by_rules q.root in
      let bits : List WireBit = tree_bits q.root in
      places_more (tree_bit_rows start p wires root bits) (rules_rows start p wires m root bits (acting_rules q.syncs))
      ∙ (λ i. tree_places root bits i ++ rules_places m root bits (acting_rules q.syncs) i)
      ∙ sym (map-append (bit_place p wires) bits (rules_bits (acting_rules q.syncs)))

  -- the places of the rows of processes are those of the bits that they drive
  pub processes_places : (m : Module) (qs : List Process) → places_of (processes_rows start p wires m qs) ≡ bits_places p wires (flat_map driven_bits qs)
  processes_places m [] = refl
  processes_places m (q ∷ qs) =
      places_more (process_rows start p wires m q) (processes_rows start p wires m qs)
      ∙ (λ i. process_places m q i ++ processes_places m qs i)
      ∙ sym (map-append (bit_place p wires) (driven_bits q) (flat_map driven_bits qs))

-- the places of cells do not depend on start values
module _ (start start' : SigBit → Bit) (ports : Ports) (p : Path) (wires : List Wire) where
  stores_alike : (shape : Shape) (reads : ℕ → StorePoints) (signal : List SigBit) (qs : List Point) (at : ℕ) → places_of (stores start shape reads signal qs at) ≡ places_of (stores start' shape reads signal qs at)
  stores_alike shape reads [] qs at = refl
  stores_alike shape reads (s ∷ signal) [] at = refl
  stores_alike shape reads (s ∷ signal) (At q ∷ qs) at = ap (λ z. q ∷ z) (stores_alike shape reads signal qs (suc at))
  stores_alike shape reads (s ∷ signal) (Constant b ∷ qs) at = stores_alike shape reads signal qs (suc at)

  cell_alike : (c : Cell) (k : Option CellKind) → places_of (cell_rows start ports p wires c k) ≡ places_of (cell_rows start' ports p wires c k)
  cell_alike c None = refl
  cell_alike c (Some (Word kind)) = refl
  cell_alike c (Some (Gate kind)) = refl
  cell_alike c (Some (Storage kind)) = stores_alike _ _ (signal_at c.pins (pin_text Q)) (pin_points p wires c.pins Q) 0
  cell_alike c (Some (StorageGate gate)) = stores_alike _ _ (signal_at c.pins (pin_text Q)) (pin_points p wires c.pins Q) 0
  cell_alike c (Some (Memory kind)) = refl

  pub cells_alike : (cs : List Cell) → places_of (cells_rows start ports p wires cs) ≡ places_of (cells_rows start' ports p wires cs)
  cells_alike [] = refl
  cells_alike (c ∷ cs) =
      places_more (cell_rows start ports p wires c (cell_kind c)) (cells_rows start ports p wires cs)
      ∙ (λ i. cell_alike c (cell_kind c) i ++ cells_alike cs i)
      ∙ sym (places_more (cell_rows start' ports p wires c (cell_kind c)) (cells_rows start' ports p wires cs))

-- the cells that read memories, behind which cells come that do not
reads_none : (lines : types.Ports) (name : List ℕ) (new : List Cell) → Each (IsFaultless lines) new → instances new ≡ [] → reading_cells name new ≡ []
reads_none lines name [] h e = refl
reads_none lines name (c ∷ cs) h e =
    by (reads_none lines name cs (λ x i. h x (inr i))) (cell_kind c) refl e
  where
    kinds : (kind : CellKind) → is_memory_kind kind ≡ false → is_read_kind (Some kind) ≡ false
    kinds (Word kind) f = refl
    kinds (Gate kind) f = refl
    kinds (Storage kind) f = refl
    kinds (StorageGate gate) f = refl
    kinds (Memory kind) f = absurd (cc)

    by : (instances cs ≡ [] → reading_cells name cs ≡ []) → (k : Option CellKind) → cell_kind c ≡ k → listed (instance_of c k) ++ instances cs ≡ [] → reading_cells name (c ∷ cs) ≡ []
    by later None own f = absurd (cc)
    by later (Some kind) own f =
        let none : is_read_kind (cell_kind c) ≡ false = ap is_read_kind own ∙ kinds kind (fits_kind lines c kind own (h c (inl refl))).plain in
        ap (λ t. if t && is_of_memory name c then c ∷ reading_cells name cs else reading_cells name cs) none ∙ later f

filter_more : {A : Type 0} (test : A → Bool) (xs ys : List A) → filter test (xs ++ ys) ≡ filter test xs ++ filter test ys
filter_more test [] ys = refl
filter_more test (x ∷ xs) ys = by (test x) (filter_more test xs ys)
  where
    by : (t : Bool) → filter test (xs ++ ys) ≡ filter test xs ++ filter test ys → (if t then x ∷ filter test (xs ++ ys) else filter test (xs ++ ys)) ≡ (if t then x ∷ filter test xs else filter test xs) ++ filter test ys
    by true e = ap (λ z. x ∷ z) e
    by false e = e

pub still_reading : (lines : types.Ports) (name : List ℕ) (cells new : List Cell) → Each (IsFaultless lines) new → instances new ≡ [] → reading_cells name (cells ++ new) ≡ reading_cells name cells
still_reading lines name cells new h e =
    filter_more (λ (c : Cell). is_read_kind (cell_kind c) && is_of_memory name c) cells new
    ∙ ap (λ z. reading_cells name cells ++ z) (reads_none lines name new h e)
    ∙ append-nil (reading_cells name cells)

module _ (p : Path) (wires : List Wire) where
  -- the bits of the words of a memory at an address
  abbrev word_bits : Store → ℕ → List Place
  word_bits s address = map (word_place p s.name address) (range_with_len 0 s.width)

  words_are : (s : Store) (accesses : List Access) (inits : List Cell) (addresses : List ℕ) → places_of (flat_map (λ address. map (word_row p wires s accesses inits address) (range_with_len 0 s.width)) addresses) ≡ flat_map (word_bits s) addresses
  words_are s accesses inits [] = refl
  words_are s accesses inits (a ∷ addresses) =
      places_more (map (word_row p wires s accesses inits a) (range_with_len 0 s.width)) (flat_map (λ address. map (word_row p wires s accesses inits address) (range_with_len 0 s.width)) addresses)
      ∙ (λ i. map-map (word_row p wires s accesses inits a) (λ (x : Driven). x.place) (range_with_len 0 s.width) i ++ words_are s accesses inits addresses i)

  memory_alike : (cells cells' : List Cell) (processes processes' : List Process) (s : Store) → reading_cells s.name cells ≡ reading_cells s.name cells' → places_of (memory_rows p wires cells processes s) ≡ places_of (memory_rows p wires cells' processes' s)
  memory_alike cells cells' processes processes' s e =
      places_more (word_rows p wires s (accesses_of s.name cells processes) (init_cells s.name cells)) (flat_map (read_rows p wires s) (reading_cells s.name cells))
      ∙ (λ i. (words_are s (accesses_of s.name cells processes) (init_cells s.name cells) (addresses_of s) ∙ sym (words_are s (accesses_of s.name cells' processes') (init_cells s.name cells') (addresses_of s))) i ++ places_of (flat_map (read_rows p wires s) (e i)))
      ∙ sym (places_more (word_rows p wires s (accesses_of s.name cells' processes') (init_cells s.name cells')) (flat_map (read_rows p wires s) (reading_cells s.name cells')))

  -- the places of memories depend on the cells that read them alone
  pub memories_alike : (cells cells' : List Cell) (processes processes' : List Process) → ((name : List ℕ) → reading_cells name cells ≡ reading_cells name cells') → (ss : List Store) → places_of (memories_rows p wires cells processes ss) ≡ places_of (memories_rows p wires cells' processes' ss)
  memories_alike cells cells' processes processes' e [] = refl
  memories_alike cells cells' processes processes' e (s ∷ ss) =
      places_more (memory_rows p wires cells processes s) (memories_rows p wires cells processes ss)
      ∙ (λ i. memory_alike cells cells' processes processes' s (e s.name) i ++ memories_alike cells cells' processes processes' e ss i)
      ∙ sym (places_more (memory_rows p wires cells' processes' s) (memories_rows p wires cells' processes' ss))
