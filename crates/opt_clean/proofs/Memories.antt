-- The rows of memories: which cells they are told by, what they drive, and what they read.
use Rattle.std.proofs.Common.{◌≡◌, ℕ, suc, Bool, true, false, cond, List, [], ◌∷◌, ◌++◌, Option, Some, None, ◌⊎◌, inl, inr, ⊎_elim, refl, sym, ap, subst}
use Rattle.std.specs.Prelude.{◌&&◌, filter, flat_map, map, nat_le}
use Rattle.std.specs.List.{range_with_len}
use Rattle.std.proofs.lemmas.Bool.{and_parts}
use Rattle.std.proofs.lemmas.List.{append-nil}
use Rattle.cell_types.specs.declared.kind.CellKind.{CellKind}
use Rattle.cell_types.specs.declared.kind.CellKind.TheVariants.{Word, Gate, Storage, StorageGate, Memory}
use Rattle.cell_types.specs.declared.pin_name.PinName.{PinName}
use Rattle.cell_types.specs.declared.pin_name.PinName.TheVariants.{Addr, Clk, Data, En}
use Rattle.rtl_ir.specs.Faults.Cells.{is_memory_kind}
use Rattle.rtl_ir.specs.declared.cell.Cell.{Cell}
use Rattle.rtl_ir.specs.declared.process.Process.{Process}
use Rattle.rtl_ir.specs.declared.store.Store.{Store}
use Rattle.rtl_ir.specs.declared.wire.Wire.{Wire}
use Rattle.rtl_ir.specs.Flat.Access.{Access, accesses_of, cell_access, cell_accesses, first_trigger, in_access_order, next_number, place_access, rule_accesses}
use Rattle.rtl_ir.specs.Flat.Cell.{cell_kind}
use Rattle.rtl_ir.specs.Flat.Driver.{Driven}
use Rattle.rtl_ir.specs.Flat.Memory.{addresses_of, fetched_rows, in_priority_order, init_cells, is_init_kind, is_read_kind, memories_rows, memory_rows, port_points, read_rows, reading_cells, word_row, word_rows, words_at}
use Rattle.rtl_ir.specs.Flat.Place.{Path, Place, word_place}
use Rattle.rtl_ir.specs.Flat.Point.{At, Constant, Point, pin_points, point_at, points}
use Rattle.rtl_ir.specs.Flat.Reads.{port_list, read_points}
use Rattle.rtl_ir.specs.WritePorts.{is_of_memory}
use Rattle.net_model.specs.Lists.{In}
use Rattle.net_model.specs.Within.{Each}
use Rattle.net_model.proofs.Members.{In-cases, In-mapped}
use Rattle.pass_laws.specs.Replaces.{IsOutside}
use Rattle.pass_laws.proofs.Accesses.{no_write, writes_to}
use Rattle.opt_clean.specs.Kept.{marked}
use Rattle.opt_clean.proofs.Bits.{flat_in}
use Rattle.pass_laws.proofs.CellReads.{AllAt, all_append, all_first, all_none, at_point}
use Rattle.opt_clean.proofs.Marks.{filter_marked, others}
use Rattle.pass_laws.proofs.Finding.{filtered_in}

-- the cells that give start words of a memory, and those that read it
abbrev pub is_starter : List ℕ → Cell → Bool
is_starter name c = is_init_kind (cell_kind c) && is_of_memory name c

abbrev pub is_reader : List ℕ → Cell → Bool
is_reader name c = is_read_kind (cell_kind c) && is_of_memory name c

-- each of them is a cell of a memory
starter_none : (o : Option CellKind) → ((kind : CellKind) → o ≡ Some kind → is_memory_kind kind ≡ false) → is_init_kind o ≡ false
starter_none None h = refl
starter_none (Some (Word kind)) h = refl
starter_none (Some (Gate kind)) h = refl
starter_none (Some (Storage kind)) h = refl
starter_none (Some (StorageGate kind)) h = refl
starter_none (Some (Memory kind)) h = let e : true ≡ false = h (Memory kind) refl in absurd (cc)

reader_none : (o : Option CellKind) → ((kind : CellKind) → o ≡ Some kind → is_memory_kind kind ≡ false) → is_read_kind o ≡ false
reader_none None h = refl
reader_none (Some (Word kind)) h = refl
reader_none (Some (Gate kind)) h = refl
reader_none (Some (Storage kind)) h = refl
reader_none (Some (StorageGate kind)) h = refl
reader_none (Some (Memory kind)) h = let e : true ≡ false = h (Memory kind) refl in absurd (cc)

-- where none of the cells that go is one of a memory, the rows of memories stay
module _ (marks : List Bool) (cells : List Cell) (gone : Each IsOutside (others marks cells)) where
  writers_stay : (name : List ℕ) → filter (writes_to name) (marked marks cells) ≡ filter (writes_to name) cells
  writers_stay name =
      filter_marked (writes_to name) marks cells (λ c i. ap (λ t. t && is_of_memory name c) (no_write c (gone c i)))

  starters_stay : (name : List ℕ) → filter (is_starter name) (marked marks cells) ≡ filter (is_starter name) cells
  starters_stay name =
      filter_marked (is_starter name) marks cells (λ c i. ap (λ t. t && is_of_memory name c) (starter_none (cell_kind c) (gone c i)))

  readers_stay : (name : List ℕ) → filter (is_reader name) (marked marks cells) ≡ filter (is_reader name) cells
  readers_stay name =
      filter_marked (is_reader name) marks cells (λ c i. ap (λ t. t && is_of_memory name c) (reader_none (cell_kind c) (gone c i)))

  accesses_stay : (processes : List Process) (name : List ℕ) → accesses_of name (marked marks cells) processes ≡ accesses_of name cells processes
  accesses_stay processes name =
      ap (λ cs. let here = in_access_order (map cell_access cs) in here ++ rule_accesses name (next_number here) (flat_map (λ (p : Process). p.syncs) processes)) (writers_stay name)

  pub memories_stay : (p : Path) (wires : List Wire) (processes : List Process) (stores : List Store) → memories_rows p wires (marked marks cells) processes stores ≡ memories_rows p wires cells processes stores
  memories_stay p wires processes stores = λ i. flat_map (λ (s : Store). one s i) stores
    where
      one : (s : Store) → memory_rows p wires (marked marks cells) processes s ≡ memory_rows p wires cells processes s
      one s =
          λ i. word_rows p wires s (accesses_stay processes s.name i) (in_priority_order [] (starters_stay s.name i)) ++ flat_map (read_rows p wires s) (readers_stay s.name i)

-- the place is a bit of a word of a memory
abbrev pub IsWord : Path → Place → Type 0
IsWord p q = (name : List ℕ) × (address : ℕ) × (at : ℕ) × (q ≡ word_place p name address at)

-- the write ports of a memory are its cells that write
placed_from : (a b : Access) (accesses : List Access) → In b (place_access a accesses) → (b ≡ a) ⊎ In b accesses
placed_from a b [] i = ⊎_elim (λ e. inl e) (λ j. absurd j) i
placed_from a b (d ∷ accesses) i = by (placed_from a b accesses) (nat_le a.number d.number) i
  where
    by : (In b (place_access a accesses) → (b ≡ a) ⊎ In b accesses) → (t : Bool) → In b (cond t (a ∷ d ∷ accesses) (d ∷ place_access a accesses)) → (b ≡ a) ⊎ In b (d ∷ accesses)
    by later true (inl e) = inl e
    by later true (inr j) = inr j
    by later false (inl e) = inr (inl e)
    by later false (inr j) = ⊎_elim (λ e. inl e) (λ k. inr (inr k)) (later j)

pub ordered_from : (accesses : List Access) (b : Access) → In b (in_access_order accesses) → In b accesses
ordered_from [] b i = absurd i
ordered_from (a ∷ accesses) b i =
    ⊎_elim (λ e. inl e) (λ j. inr (ordered_from accesses b j)) (placed_from a b (in_access_order accesses) i)

-- a row of a memory is of a bit of a word, or of a bit that a cell of the memory gives
pub record IsMemoryRow (P : Place → Type 0) (p : Path) (wires : List Wire) (cells : List Cell) (x : Driven) : Type 0 where
  pub place :
      IsWord p x.place
      ⊎ ((c : Cell) × In c cells × (is_read_kind (cell_kind c) ≡ true) × In (At x.place) (pin_points p wires c.pins Data))
  pub read : AllAt P (read_points x.driver)

module _ (P : Place → Type 0) (p : Path) (wires : List Wire) (cells : List Cell) (each : (c : Cell) → In c cells → (name : PinName) → AllAt P (pin_points p wires c.pins name)) (words : (q : Place) → IsWord p q → P q) where
  -- what a write port reads
  record ReadsSo (a : Access) : Type 0 where
    clock : AllAt P (points p wires a.clock.signal)
    address : AllAt P (points p wires a.address)
    new : AllAt P (points p wires a.new)
    enable : AllAt P (points p wires a.enable)

  access_reads : (name : List ℕ) (a : Access) → In a (accesses_of name cells []) → ReadsSo a
  access_reads name a i =
      let own : In a (cell_accesses name cells) = subst (In a) (append-nil (cell_accesses name cells)) i in
      let k = In-mapped cell_access a (filter (writes_to name) cells) (ordered_from (map cell_access (filter (writes_to name) cells)) a own) in
      let c = filtered_in (writes_to name) cells k.0 k.1 in
      subst ReadsSo (sym k.2) (record { clock = each k.0 c.0 Clk; address = each k.0 c.0 Addr; new = each k.0 c.0 Data; enable = each k.0 c.0 En })

  ports_read : (at : ℕ) (before accesses : List Access) → ((a : Access) → In a accesses → ReadsSo a) → AllAt P (flat_map port_list (port_points p wires at before accesses))
  ports_read at before [] h = all_none P
  ports_read at before (a ∷ accesses) h =
      let here = h a (inl refl) in
      let rest : List Point = flat_map port_list (port_points p wires at (before ++ a ∷ []) accesses) in
      let new : Point = point_at (points p wires a.new) at in
      all_first P (point_at (points p wires a.enable) at) (new ∷ (points p wires a.address ++ rest)) (at_point P (points p wires a.enable) at here.enable)
      (all_first P new (points p wires a.address ++ rest) (at_point P (points p wires a.new) at here.new)
      (all_append P (points p wires a.address) rest here.address (ports_read at (before ++ a ∷ []) accesses (λ x j. h x (inr j)))))

  clock_read : (accesses : List Access) → ((a : Access) → In a accesses → ReadsSo a) → AllAt P (point_at (points p wires (first_trigger accesses).signal) 0 ∷ [])
  clock_read [] h = at_point P [] 0 (all_none P)
  clock_read (a ∷ accesses) h = at_point P (points p wires a.clock.signal) 0 (h a (inl refl)).clock

  word_read : (s : Store) (address at : ℕ) → AllAt P (At (word_place p s.name address at) ∷ [])
  word_read s address at q (inl e) =
      let same : q ≡ word_place p s.name address at = cc in
      words q (s.name, address, at, same)
  word_read s address at q (inr i) = absurd i

  word_is : (s : Store) (accesses : List Access) → ((a : Access) → In a accesses → ReadsSo a) → (inits : List Cell) (address at : ℕ) → IsMemoryRow P p wires cells (word_row p wires s accesses inits address at)
  word_is s accesses h inits address at = record {
    place = inl (s.name, address, at, refl);
    read =
        let clock : Point = point_at (points p wires (first_trigger accesses).signal) 0 in
        let rest : List Point = flat_map port_list (port_points p wires at [] accesses) in
        all_first P (At (word_place p s.name address at)) (clock ∷ rest) (word_read s address at) (all_first P clock rest (clock_read accesses h) (ports_read at [] accesses h));
  }

  words_read : (s : Store) (at : ℕ) (addresses : List ℕ) → AllAt P (map (λ address. At (word_place p s.name address at)) addresses)
  words_read s at [] = all_none P
  words_read s at (a ∷ addresses) =
      all_first P (At (word_place p s.name a at)) (map (λ address. At (word_place p s.name address at)) addresses) (word_read s a at) (words_read s at addresses)

  fetched_are : (s : Store) (address : List Point) → AllAt P address → (ds : List Point) (at : ℕ) (x : Driven) → In x (fetched_rows p s address ds at) → In (At x.place) ds × AllAt P (read_points x.driver)
  fetched_are s address h [] at x i = absurd i
  fetched_are s address h (At q ∷ ds) at x (inl e) = (
    inl (ap (λ (z : Driven). At z.place) e),
    subst (λ (z : Driven). AllAt P (read_points z.driver)) (sym e) (all_append P address (words_at p s at) h (words_read s at (addresses_of s))),
  )
  fetched_are s address h (At q ∷ ds) at x (inr i) = let k = fetched_are s address h ds (suc at) x i in (inr k.0, k.1)
  fetched_are s address h (Constant b ∷ ds) at x i = let k = fetched_are s address h ds (suc at) x i in (inr k.0, k.1)

  pub memory_row : (stores : List Store) (x : Driven) → In x (memories_rows p wires cells [] stores) → IsMemoryRow P p wires cells x
  memory_row stores x i =
      let s = flat_in (memory_rows p wires cells []) stores x i in
      let accesses = accesses_of s.0.name cells [] in
      let inits = init_cells s.0.name cells in
      ⊎_elim
      (λ l. let address = flat_in (λ address. map (word_row p wires s.0 accesses inits address) (range_with_len 0 s.0.width)) (addresses_of s.0) x l in
      let at = In-mapped (word_row p wires s.0 accesses inits address.0) x (range_with_len 0 s.0.width) address.2 in
      subst (IsMemoryRow P p wires cells) (sym at.2) (word_is s.0 accesses (access_reads s.0.name) inits address.0 at.0))
      (λ r. let c = flat_in (read_rows p wires s.0) (reading_cells s.0.name cells) x r in
      let k = filtered_in (is_reader s.0.name) cells c.0 c.1 in
      let row = fetched_are s.0 (pin_points p wires c.0.pins Addr) (each c.0 k.0 Addr) (pin_points p wires c.0.pins Data) 0 x c.2 in
      record { place = inr (c.0, k.0, (and_parts (is_read_kind (cell_kind c.0)) (is_of_memory s.0.name c.0) k.1).0, row.0); read = row.1 })
      (In-cases x (word_rows p wires s.0 accesses inits) (flat_map (read_rows p wires s.0) (reading_cells s.0.name cells)) s.2)
