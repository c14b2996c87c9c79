-- The rows of memories with other signals at the inputs of their cells: one by one the rows of the memories, with drivers that
-- read other points.
use Rattle.std.proofs.Common.{◌≡◌, ℕ, suc, ◌+◌, Bool, true, false, if◌then◌else◌, List, [], ◌∷◌, ◌++◌, refl, ◌∙◌, ap, subst}
use Rattle.std.specs.Prelude.{filter, flat_map, map, max, nat_le, nat_lt, slice_index_or, ◌&&◌}
use Rattle.std.specs.List.{range_with_len}
use Rattle.std.specs.Option.{option_map_or}
use Rattle.std.specs.Str.{bytes_eq}
use Rattle.cell_types.specs.declared.level.Level.{Level}
use Rattle.cell_types.specs.declared.param_name.ParamName.TheVariants as Param
use Rattle.cell_types.specs.declared.pin_name.PinName.TheVariants.{Addr, Clk, Data, En}
use Rattle.cell_types.specs.Given.{number_in, value_in}
use Rattle.cell_types.specs.Levels.{level_in}
use Rattle.cell_types.specs.PinName.{pin_text}
use Rattle.rtl_bits.specs.Numbers.{is_one}
use Rattle.rtl_bits.specs.Tables.{seen_of}
use Rattle.rtl_bits.specs.declared.bit.Bit.{Bit}
use Rattle.rtl_bits.specs.declared.bit.Bit.TheVariants.{X}
use Rattle.rtl_ir.specs.declared.cell.Cell.{Cell}
use Rattle.rtl_ir.specs.declared.process.Process.{Process}
use Rattle.rtl_ir.specs.declared.process.SyncRule.{SyncRule}
use Rattle.rtl_ir.specs.declared.store.Store.{Store}
use Rattle.rtl_ir.specs.declared.wire.Wire.{Wire}
use Rattle.rtl_ir.specs.Flat.Access.{Access, accesses_of, cell_access, cell_accesses, first_trigger, in_access_order, next_number, place_access, rule_accesses}
use Rattle.rtl_ir.specs.Flat.Cell.{cell_kind}
use Rattle.rtl_ir.specs.Flat.Driver.{Driver, Driven, PortPoints, Remembered}
use Rattle.rtl_ir.specs.Flat.Memory.{addresses_of, fetched_rows, in_priority_order, init_bit_of, init_bits_of, init_cells, is_init_kind, is_read_kind, may_follow, memories_rows, memory_rows, place_init, port_points, priority_of, read_rows, reading_cells, start_word_bit, word_row, word_rows}
use Rattle.rtl_ir.specs.Flat.Place.{Path, word_place}
use Rattle.rtl_ir.specs.Flat.Point.{At, Constant, Point, point_at, points}
use Rattle.rtl_ir.specs.Parameters.{given_params, memory_name, signal_at}
use Rattle.rtl_ir.specs.WritePorts.{is_of_memory, is_write_cell}
use Rattle.pass_laws.proofs.Accesses.{writes_to}
use Rattle.follow_laws.specs.Alike.{InPairs, SameBit}
use Rattle.follow_laws.proofs.Carrying.{Carries, PortBy, Rows, at_paired}
use Rattle.follow_laws.proofs.Pairs.{pairs_append, pairs_self}

-- two cells are one to memories but for the points that they read
pub record CellBy (P : Point → Point → Type 0) (p : Path) (wires : List Wire) (c d : Cell) : Type 0 where
  pub type : c.kind_name ≡ d.kind_name
  pub kind : cell_kind c ≡ cell_kind d
  pub params : c.params ≡ d.params
  pub pins : (name : List ℕ) → InPairs P (points p wires (signal_at c.pins name)) (points p wires (signal_at d.pins name))
  -- what a read port gives stays
  pub word : is_read_kind (cell_kind c) ≡ true → signal_at c.pins (pin_text Data) ≡ signal_at d.pins (pin_text Data)
  -- and so do start words
  pub start :
      is_init_kind (cell_kind c) ≡ true → (width address at : ℕ) (old : Bit) →
      init_bit_of width c address at old ≡ init_bit_of width d address at old

-- two write ports are one but for the points that they read
record AccessBy (P : Point → Point → Type 0) (p : Path) (wires : List Wire) (a b : Access) : Type 0 where
  number : a.number ≡ b.number
  mask : a.mask ≡ b.mask
  level : a.clock.level ≡ b.clock.level
  clock : InPairs P (points p wires a.clock.signal) (points p wires b.clock.signal)
  address : InPairs P (points p wires a.address) (points p wires b.address)
  new : InPairs P (points p wires a.new) (points p wires b.new)
  enable : InPairs P (points p wires a.enable) (points p wires b.enable)

-- a cell gives start words of the memory of this name
abbrev starts_of : List ℕ → Cell → Bool
starts_of name c = is_init_kind (cell_kind c) && is_of_memory name c

-- two cells set the same start bits, with one priority
record StartBy (c d : Cell) : Type 0 where
  priority : priority_of c ≡ priority_of d
  bits : (width address at : ℕ) (old : Bit) → init_bit_of width c address at old ≡ init_bit_of width d address at old

placed_starts : (c d : Cell) → StartBy c d → (cs ds : List Cell) → InPairs StartBy cs ds → InPairs StartBy (place_init c cs) (place_init d ds)
placed_starts c d h [] [] k = (h, tt)
placed_starts c d h (x ∷ cs) (y ∷ ds) k =
    subst (λ t. InPairs StartBy (place_init c (x ∷ cs)) (if t then d ∷ y ∷ ds else y ∷ place_init d ds)) (λ i. nat_lt (h.priority i) (k.0.priority i)) (by (nat_lt (priority_of c) (priority_of x)) (placed_starts c d h cs ds k.1))
  where
    by : (t : Bool) → InPairs StartBy (place_init c cs) (place_init d ds) → InPairs StartBy (if t then c ∷ x ∷ cs else x ∷ place_init c cs) (if t then d ∷ y ∷ ds else y ∷ place_init d ds)
    by true later = (h, k)
    by false later = (k.0, later)
placed_starts c d h [] (y ∷ ds) k = absurd k
placed_starts c d h (x ∷ cs) [] k = absurd k

ordered_starts : (as' bs cs ds : List Cell) → InPairs StartBy as' bs → InPairs StartBy cs ds → InPairs StartBy (in_priority_order as' cs) (in_priority_order bs ds)
ordered_starts as' bs [] [] h k = h
ordered_starts as' bs (c ∷ cs) (d ∷ ds) h k =
    ordered_starts (place_init c as') (place_init d bs) cs ds (placed_starts c d k.0 as' bs h) k.1
ordered_starts as' bs [] (d ∷ ds) h k = absurd k
ordered_starts as' bs (c ∷ cs) [] h k = absurd k

same_starts : (cs ds : List Cell) → InPairs StartBy cs ds → (width address at : ℕ) (old : Bit) → init_bits_of width cs address at old ≡ init_bits_of width ds address at old
same_starts [] [] h width address at old = refl
same_starts (c ∷ cs) (d ∷ ds) h width address at old =
    ap (init_bits_of width cs address at) (h.0.bits width address at old)
    ∙ same_starts cs ds h.1 width address at (init_bit_of width d address at old)
same_starts [] (d ∷ ds) h width address at old = absurd h
same_starts (c ∷ cs) [] h width address at old = absurd h

module _ (P : Point → Point → Type 0) (related : Driver → Driver → Type 0) (k : Carries P related) (p : Path) (wires : List Wire) where
  abbrev Ports : List Access → List Access → Type 0
  Ports as' bs = InPairs (AccessBy P p wires) as' bs

  signal_self : (ps : List Point) → InPairs P ps ps
  signal_self ps = pairs_self P k.same_point ps

  access_self : (a : Access) → AccessBy P p wires a a
  access_self a = record {
    number = refl;
    mask = refl;
    level = refl;
    clock = signal_self (points p wires a.clock.signal);
    address = signal_self (points p wires a.address);
    new = signal_self (points p wires a.new);
    enable = signal_self (points p wires a.enable);
  }

  -- the write ports among cells, in their order
  placed_ports : (a b : Access) → AccessBy P p wires a b → (as' bs : List Access) → Ports as' bs → Ports (place_access a as') (place_access b bs)
  placed_ports a b h [] [] l = (h, tt)
  placed_ports a b h (x ∷ as') (y ∷ bs) l =
      subst (λ t. Ports (place_access a (x ∷ as')) (if t then b ∷ y ∷ bs else y ∷ place_access b bs)) (λ i. nat_le (h.number i) (l.0.number i)) (by (nat_le a.number x.number) (placed_ports a b h as' bs l.1))
    where
      by : (t : Bool) → Ports (place_access a as') (place_access b bs) → Ports (if t then a ∷ x ∷ as' else x ∷ place_access a as') (if t then b ∷ y ∷ bs else y ∷ place_access b bs)
      by true later = (h, l)
      by false later = (l.0, later)
  placed_ports a b h [] (y ∷ bs) l = absurd l
  placed_ports a b h (x ∷ as') [] l = absurd l

  ordered_ports : (as' bs : List Access) → Ports as' bs → Ports (in_access_order as') (in_access_order bs)
  ordered_ports [] [] h = tt
  ordered_ports (a ∷ as') (b ∷ bs) h =
      placed_ports a b h.0 (in_access_order as') (in_access_order bs) (ordered_ports as' bs h.1)
  ordered_ports [] (b ∷ bs) h = absurd h
  ordered_ports (a ∷ as') [] h = absurd h

  next_same : (as' bs : List Access) → Ports as' bs → next_number as' ≡ next_number bs
  next_same [] [] h = refl
  next_same (a ∷ as') (b ∷ bs) h =
      let number = h.0.number in
      let later = next_same as' bs h.1 in
      λ i. max (number i + 1) (later i)
  next_same [] (b ∷ bs) h = absurd h
  next_same (a ∷ as') [] h = absurd h

  -- cells in pairs
  abbrev pub Cells : List Cell → List Cell → Type 0
  Cells cs ds = InPairs (CellBy P p wires) cs ds

  access_by : (c d : Cell) → CellBy P p wires c d → AccessBy P p wires (cell_access c) (cell_access d)
  access_by c d h = record {
    number = ap (λ ps. number_in (given_params ps) Param.Portid) h.params;
    mask = ap (λ ps. value_in (given_params ps) Param.PriorityMask) h.params;
    level = ap (λ ps. level_in (given_params ps) Param.ClkPolarity) h.params;
    clock = h.pins (pin_text Clk);
    address = h.pins (pin_text Addr);
    new = h.pins (pin_text Data);
    enable = h.pins (pin_text En);
  }

  module _ (name : List ℕ) where
    ports_in : (cs ds : List Cell) → Cells cs ds → Ports (map cell_access (filter (writes_to name) cs)) (map cell_access (filter (writes_to name) ds))
    ports_in [] [] h = tt
    ports_in (c ∷ cs) (d ∷ ds) h =
        subst (λ t. Ports (map cell_access (filter (writes_to name) (c ∷ cs))) (map cell_access (if t then d ∷ filter (writes_to name) ds else filter (writes_to name) ds))) same (by (writes_to name c) (ports_in cs ds h.1))
      where
        same : writes_to name c ≡ writes_to name d
        same =
            λ i. is_write_cell (h.0.type i) && option_map_or (bytes_eq name) (memory_name (h.0.params i)) false

        by : (t : Bool) → Ports (map cell_access (filter (writes_to name) cs)) (map cell_access (filter (writes_to name) ds)) → Ports (map cell_access (if t then c ∷ filter (writes_to name) cs else filter (writes_to name) cs)) (map cell_access (if t then d ∷ filter (writes_to name) ds else filter (writes_to name) ds))
        by true later = (access_by c d h.0, later)
        by false later = later
    ports_in [] (d ∷ ds) h = absurd h
    ports_in (c ∷ cs) [] h = absurd h

    all_ports : (processes : List Process) (cs ds : List Cell) → Cells cs ds → Ports (accesses_of name cs processes) (accesses_of name ds processes)
    all_ports processes cs ds h =
        let rules : List SyncRule = flat_map (λ (q : Process). q.syncs) processes in
        let here : Ports (cell_accesses name cs) (cell_accesses name ds) = ordered_ports (map cell_access (filter (writes_to name) cs)) (map cell_access (filter (writes_to name) ds)) (ports_in cs ds h) in
        let lines : Ports (rule_accesses name (next_number (cell_accesses name cs)) rules) (rule_accesses name (next_number (cell_accesses name ds)) rules) = subst (λ n. Ports (rule_accesses name (next_number (cell_accesses name cs)) rules) (rule_accesses name n rules)) (next_same (cell_accesses name cs) (cell_accesses name ds) here) (pairs_self (AccessBy P p wires) access_self (rule_accesses name (next_number (cell_accesses name cs)) rules)) in
        pairs_append (AccessBy P p wires) (cell_accesses name cs) (cell_accesses name ds) (rule_accesses name (next_number (cell_accesses name cs)) rules) (rule_accesses name (next_number (cell_accesses name ds)) rules) here lines

    -- the cells that give start words
    starts_in : (cs ds : List Cell) → Cells cs ds → InPairs StartBy (filter (starts_of name) cs) (filter (starts_of name) ds)
    starts_in [] [] h = tt
    starts_in (c ∷ cs) (d ∷ ds) h =
        subst (λ t. InPairs StartBy (filter (starts_of name) (c ∷ cs)) (if t then d ∷ filter (starts_of name) ds else filter (starts_of name) ds)) same (by (is_init_kind (cell_kind c)) refl (is_of_memory name c) (starts_in cs ds h.1))
      where
        same : starts_of name c ≡ starts_of name d
        same =
            λ i. is_init_kind (h.0.kind i) && option_map_or (bytes_eq name) (memory_name (h.0.params i)) false

        by : (t : Bool) → is_init_kind (cell_kind c) ≡ t → (u : Bool) → InPairs StartBy (filter (starts_of name) cs) (filter (starts_of name) ds) → InPairs StartBy (if t && u then c ∷ filter (starts_of name) cs else filter (starts_of name) cs) (if t && u then d ∷ filter (starts_of name) ds else filter (starts_of name) ds)
        by true e true later = (record { priority = ap (λ ps. number_in (given_params ps) Param.Priority) h.0.params; bits = h.0.start e }, later)
        by true e false later = later
        by false e u later = later
    starts_in [] (d ∷ ds) h = absurd h
    starts_in (c ∷ cs) [] h = absurd h

    start_same : (cs ds : List Cell) → Cells cs ds → (width address at : ℕ) → start_word_bit (init_cells name cs) width address at ≡ start_word_bit (init_cells name ds) width address at
    start_same cs ds h width address at =
        ap seen_of (same_starts (init_cells name cs) (init_cells name ds) (ordered_starts [] [] (filter (starts_of name) cs) (filter (starts_of name) ds) tt (starts_in cs ds h)) width address at X)

  -- what a bit of a word sees of the ports
  follows_same : (low high : List Bit) → low ≡ high → (as' bs : List Access) → Ports as' bs → map (may_follow low) as' ≡ map (may_follow high) bs
  follows_same low high e [] [] h = refl
  follows_same low high e (a ∷ as') (b ∷ bs) h =
      let number = h.0.number in
      let later = follows_same low high e as' bs h.1 in
      λ i. is_one (slice_index_or (e i) (number i) X) ∷ later i
  follows_same low high e [] (b ∷ bs) h = absurd h
  follows_same low high e (a ∷ as') [] h = absurd h

  ports_seen : (at : ℕ) (before behind as' bs : List Access) → Ports before behind → Ports as' bs → InPairs (PortBy P) (port_points p wires at before as') (port_points p wires at behind bs)
  ports_seen at before behind [] [] g h = tt
  ports_seen at before behind (a ∷ as') (b ∷ bs) g h = (
    record {
      address = h.0.address;
      enable = at_paired P related k (points p wires a.enable) (points p wires b.enable) h.0.enable at;
      new = at_paired P related k (points p wires a.new) (points p wires b.new) h.0.new at;
      follows = follows_same a.mask b.mask h.0.mask before behind g;
    },
    ports_seen at (before ++ a ∷ []) (behind ++ b ∷ []) as' bs (pairs_append (AccessBy P p wires) before behind (a ∷ []) (b ∷ []) g (h.0, tt)) h.1,
  )
  ports_seen at before behind [] (b ∷ bs) g h = absurd h
  ports_seen at before behind (a ∷ as') [] g h = absurd h

  clock_paired : (as' bs : List Access) → Ports as' bs → P (point_at (points p wires (first_trigger as').signal) 0) (point_at (points p wires (first_trigger bs).signal) 0)
  clock_paired [] [] h = k.same_point (Constant X)
  clock_paired (a ∷ as') (b ∷ bs) h =
      at_paired P related k (points p wires a.clock.signal) (points p wires b.clock.signal) h.0.clock 0
  clock_paired [] (b ∷ bs) h = absurd h
  clock_paired (a ∷ as') [] h = absurd h

  level_same : (as' bs : List Access) → Ports as' bs → (first_trigger as').level ≡ (first_trigger bs).level
  level_same [] [] h = refl
  level_same (a ∷ as') (b ∷ bs) h = h.0.level
  level_same [] (b ∷ bs) h = absurd h
  level_same (a ∷ as') [] h = absurd h

  -- rows made one by one, or list by list
  made_paired : (f g : ℕ → Driven) → ((n : ℕ) → SameBit related (f n) (g n)) → (ns : List ℕ) → Rows P related k (map f ns) (map g ns)
  made_paired f g h [] = tt
  made_paired f g h (n ∷ ns) = (h n, made_paired f g h ns)

  lists_paired : (f g : ℕ → List Driven) → ((n : ℕ) → Rows P related k (f n) (g n)) → (ns : List ℕ) → Rows P related k (flat_map f ns) (flat_map g ns)
  lists_paired f g h [] = tt
  lists_paired f g h (n ∷ ns) =
      pairs_append (SameBit related) (f n) (g n) (flat_map f ns) (flat_map g ns) (h n) (lists_paired f g h ns)

  module _ (s : Store) where
    word_paired : (as' bs : List Access) → Ports as' bs → (cs ds : List Cell) → ((address at : ℕ) → start_word_bit cs s.width address at ≡ start_word_bit ds s.width address at) → (address at : ℕ) → SameBit related (word_row p wires s as' cs address at) (word_row p wires s bs ds address at)
    word_paired as' bs h cs ds starts address at =
        (refl, subst (λ (l : Level). related (word_row p wires s as' cs address at).driver (Remembered (start_word_bit ds s.width address at) clock l address high (word_place p s.name address at))) (level_same as' bs h) (subst (λ (z : Bit). related (word_row p wires s as' cs address at).driver (Remembered z clock (first_trigger as').level address high (word_place p s.name address at))) (starts address at) here))
      where
        low : List PortPoints
        low = port_points p wires at [] as'

        high : List PortPoints
        high = port_points p wires at [] bs

        clock : Point
        clock = point_at (points p wires (first_trigger bs).signal) 0

        here : related (word_row p wires s as' cs address at).driver (Remembered (start_word_bit cs s.width address at) clock (first_trigger as').level address high (word_place p s.name address at))
        here =
            k.remembered (start_word_bit cs s.width address at) (point_at (points p wires (first_trigger as').signal) 0) clock (first_trigger as').level address low high (word_place p s.name address at) (clock_paired as' bs h) (ports_seen at [] [] as' bs tt h)

    words_paired : (as' bs : List Access) → Ports as' bs → (cs ds : List Cell) → ((address at : ℕ) → start_word_bit cs s.width address at ≡ start_word_bit ds s.width address at) → Rows P related k (word_rows p wires s as' cs) (word_rows p wires s bs ds)
    words_paired as' bs h cs ds starts =
        lists_paired (λ address. map (word_row p wires s as' cs address) (range_with_len 0 s.width)) (λ address. map (word_row p wires s bs ds address) (range_with_len 0 s.width)) (λ address. made_paired (word_row p wires s as' cs address) (word_row p wires s bs ds address) (word_paired as' bs h cs ds starts address) (range_with_len 0 s.width)) (addresses_of s)

    fetched_paired : (low high : List Point) → InPairs P low high → (ds : List Point) (at : ℕ) → Rows P related k (fetched_rows p s low ds at) (fetched_rows p s high ds at)
    fetched_paired low high h [] at = tt
    fetched_paired low high h (At q ∷ ds) at = ((refl, k.fetched low high _ _ h), fetched_paired low high h ds (suc at))
    fetched_paired low high h (Constant b ∷ ds) at = fetched_paired low high h ds (suc at)

    read_paired : (c d : Cell) → CellBy P p wires c d → is_read_kind (cell_kind c) ≡ true → Rows P related k (read_rows p wires s c) (read_rows p wires s d)
    read_paired c d h e =
        subst (λ z. Rows P related k (read_rows p wires s c) (fetched_rows p s (points p wires (signal_at d.pins (pin_text Addr))) (points p wires z) 0)) (h.word e) (fetched_paired (points p wires (signal_at c.pins (pin_text Addr))) (points p wires (signal_at d.pins (pin_text Addr))) (h.pins (pin_text Addr)) (points p wires (signal_at c.pins (pin_text Data))) 0)

    reads_paired : (cs ds : List Cell) → Cells cs ds → Rows P related k (flat_map (read_rows p wires s) (reading_cells s.name cs)) (flat_map (read_rows p wires s) (reading_cells s.name ds))
    reads_paired [] [] h = tt
    reads_paired (c ∷ cs) (d ∷ ds) h =
        subst (λ t. Rows P related k (flat_map (read_rows p wires s) (reading_cells s.name (c ∷ cs))) (flat_map (read_rows p wires s) (if t then d ∷ reading_cells s.name ds else reading_cells s.name ds))) same (by (is_read_kind (cell_kind c)) refl (is_of_memory s.name c) (reads_paired cs ds h.1))
      where
        same : (is_read_kind (cell_kind c) && is_of_memory s.name c) ≡ (is_read_kind (cell_kind d) && is_of_memory s.name d)
        same =
            λ i. is_read_kind (h.0.kind i) && option_map_or (bytes_eq s.name) (memory_name (h.0.params i)) false

        by : (t : Bool) → is_read_kind (cell_kind c) ≡ t → (u : Bool) → Rows P related k (flat_map (read_rows p wires s) (reading_cells s.name cs)) (flat_map (read_rows p wires s) (reading_cells s.name ds)) → Rows P related k (flat_map (read_rows p wires s) (if t && u then c ∷ reading_cells s.name cs else reading_cells s.name cs)) (flat_map (read_rows p wires s) (if t && u then d ∷ reading_cells s.name ds else reading_cells s.name ds))
        by true e true later =
            pairs_append (SameBit related) (read_rows p wires s c) (read_rows p wires s d) (flat_map (read_rows p wires s) (reading_cells s.name cs)) (flat_map (read_rows p wires s) (reading_cells s.name ds)) (read_paired c d h.0 e) later
        by true e false later = later
        by false e u later = later
    reads_paired [] (d ∷ ds) h = absurd h
    reads_paired (c ∷ cs) [] h = absurd h

    memory_paired : (processes : List Process) (cs ds : List Cell) → Cells cs ds → Rows P related k (memory_rows p wires cs processes s) (memory_rows p wires ds processes s)
    memory_paired processes cs ds h =
        pairs_append (SameBit related) (word_rows p wires s (accesses_of s.name cs processes) (init_cells s.name cs)) (word_rows p wires s (accesses_of s.name ds processes) (init_cells s.name ds)) (flat_map (read_rows p wires s) (reading_cells s.name cs)) (flat_map (read_rows p wires s) (reading_cells s.name ds)) (words_paired (accesses_of s.name cs processes) (accesses_of s.name ds processes) (all_ports s.name processes cs ds h) (init_cells s.name cs) (init_cells s.name ds) (start_same s.name cs ds h s.width)) (reads_paired cs ds h)

  -- the rows of the memories of a module
  pub memories_paired : (processes : List Process) (cs ds : List Cell) → Cells cs ds → (ss : List Store) → Rows P related k (memories_rows p wires cs processes ss) (memories_rows p wires ds processes ss)
  memories_paired processes cs ds h [] = tt
  memories_paired processes cs ds h (s ∷ ss) =
      pairs_append (SameBit related) (memory_rows p wires cs processes s) (memory_rows p wires ds processes s) (memories_rows p wires cs processes ss) (memories_rows p wires ds processes ss) (memory_paired s processes cs ds h) (memories_paired processes cs ds h ss)
