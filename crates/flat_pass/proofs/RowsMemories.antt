-- The rows of a memory, where it and its cells are copied into another module: they are those of the copy, once their bits move.
use Rattle.std.proofs.Common.{◌≡◌, ℕ, zero, suc, ◌+◌, ◌-◌, ◌*◌, Bool, true, false, cond, ◌&&◌, List, [], ◌∷◌, ◌++◌, map, Option, Some, None, inl, inr, ⊎_elim, refl, sym, ◌∙◌, ap, subst}
use Rattle.std.specs.Prelude.{◌==◌, filter, flat_map, if◌then◌else◌, nat_abs, nat_le, nat_lt, slice_index_or}
use Rattle.std.specs.List.{range_with_len}
use Rattle.std.specs.Str.{bytes_eq}
use Rattle.rtl_bits.specs.declared.bit.Bit.{Bit}
use Rattle.rtl_bits.specs.declared.bit.Bit.TheVariants.{X}
use Rattle.rtl_bits.specs.Numbers.{number_of}
use Rattle.rtl_bits.specs.Tables.{seen_of}
use Rattle.rtl_sig.specs.declared.sig.SigBit.{SigBit}
use Rattle.rtl_sig.specs.declared.sig.SigBit.TheVariants.{Fixed}
use Rattle.cell_types.specs.declared.kind.CellKind.{CellKind}
use Rattle.cell_types.specs.declared.kind.CellKind.TheVariants as Cells
use Rattle.cell_types.specs.declared.memory.MemoryKind.TheVariants.{Memrd, MemrdV2, MemwrV2, Meminit, MeminitV2}
use Rattle.cell_types.specs.declared.param_name.ParamName.{ParamName}
use Rattle.cell_types.specs.declared.param_name.ParamName.TheVariants as Param
use Rattle.cell_types.specs.declared.pin_name.PinName.TheVariants as names
use Rattle.cell_types.specs.declared.level.Level.TheVariants.{Low, High}
use Rattle.cell_types.specs.Given.{value_in}
use Rattle.cell_types.specs.Kind.{kind_of}
use Rattle.cell_types.specs.ParamName.{param_text}
use Rattle.cell_types.specs.PinName.{pin_text}
use Rattle.cell_gate.specs.Control.{pick_of}
use Rattle.rtl_ir.specs.declared.cell.Cell.{Cell}
use Rattle.rtl_ir.specs.declared.cell.Pin.{Pin}
use Rattle.rtl_ir.specs.declared.store.Store.{Store}
use Rattle.rtl_ir.specs.declared.wire.Wire.{Wire}
use Rattle.rtl_ir.specs.Faults.MemoryCells.{first_address, number_at}
use Rattle.rtl_ir.specs.Flat.Access.{Access, accesses_of, cell_access, cell_accesses, first_trigger, in_access_order, place_access}
use Rattle.rtl_ir.specs.Flat.Cell.{cell_kind}
use Rattle.rtl_ir.specs.Flat.Driver.{Driven, Fetched, Remembered}
use Rattle.rtl_ir.specs.Flat.Memory.{addresses_of, fetched_rows, in_priority_order, init_bit_of, init_bits_of, init_cells, init_enable, is_init_kind, may_follow, memory_rows, place_init, port_points, priority_of, read_rows, reading_cells, word_row, word_rows, words_at}
use Rattle.rtl_ir.specs.Flat.Place.{Path, word_place}
use Rattle.rtl_ir.specs.Flat.Point.{Point, Constant, At, point, point_at, points}
use Rattle.rtl_ir.specs.Parameters.{given_params, signal_at}
use Rattle.rtl_ir.specs.Signals.{constant_of}
use Rattle.rtl_ir.specs.WritePorts.{is_of_memory, is_write_cell}
use Rattle.net_model.specs.Lists.{In}
use Rattle.net_model.specs.Within.{BitIn, CellIn, Each, SigIn}
use Rattle.net_model.proofs.Members.{map-append}
use Rattle.flat_pass.proofs.Moving.{Move, moved, moved_point, moved_port, moved_word}
use Rattle.flat_pass.proofs.RowsMoved.{at_moved, copied, pin_copied, points_moved, signal_copied, signal_in}

-- rows that are made item by item
pub flat_moved : {A B : Type 0} (go : Move) (f : A → List Driven) (g : B → List Driven) (to : A → B) (xs : List A) → ((x : A) → In x xs → map (moved go) (f x) ≡ g (to x)) → map (moved go) (flat_map f xs) ≡ flat_map g (map to xs)
flat_moved go f g to [] h = refl
flat_moved go f g to (x ∷ xs) h =
    map-append (moved go) (f x) (flat_map f xs) ∙ (λ i. h x (inl refl) i ++ flat_moved go f g to xs (λ y j. h y (inr j)) i)

pub map_same : {A : Type 0} (xs : List A) → map (λ x. x) xs ≡ xs
map_same [] = refl
map_same (x ∷ xs) = ap (λ z. x ∷ z) (map_same xs)

pub each_map : {A : Type 0} (go : Move) (f g : A → Driven) (xs : List A) → ((x : A) → moved go (f x) ≡ g x) → map (moved go) (map f xs) ≡ map g xs
each_map go f g [] h = refl
each_map go f g (x ∷ xs) h = λ i. h x i ∷ each_map go f g xs h i

-- the write cells of a memory
abbrev pub writing : List ℕ → List Cell → List Cell
writing name cells = filter (λ (c : Cell). is_write_cell c.kind_name && is_of_memory name c) cells

-- the cells that give its start words
abbrev pub starting : List ℕ → List Cell → List Cell
starting name cells = filter (λ (c : Cell). is_init_kind (cell_kind c) && is_of_memory name c) cells

module _ (go : Move) (count : ℕ) (wires wires' : List Wire) (p p' : Path) (copy : SigBit → SigBit) (point_goes : (s : SigBit) → BitIn count s → moved_point go (point p wires s) ≡ point p' wires' (copy s)) (fixed : (b : Bit) → copy (Fixed b) ≡ Fixed b) (constant_goes : (s : SigBit) → constant_of (copy s) ≡ constant_of s) where
  abbrev pins_copied : List Pin → List Pin
  pins_copied pins = map (pin_copied go count wires wires' p p' copy point_goes) pins

  abbrev signals_copied : List SigBit → List SigBit
  signals_copied signal = copied go count wires wires' p p' copy point_goes signal

  -- a cell of a memory and its copy: the parameters but `\MEMID` stay
  pub record IsCopy (c k : Cell) : Type 0 where
    pub kind : k.kind_name ≡ c.kind_name
    pub pins : k.pins ≡ pins_copied c.pins
    pub values :
        (name : ParamName) → bytes_eq (param_text Param.Memid) (param_text name) ≡ false →
        value_in (given_params k.params) name ≡ value_in (given_params c.params) name
    pub within : CellIn count c

  signal_of : (c k : Cell) → IsCopy c k → (name : List ℕ) → signal_at k.pins name ≡ signals_copied (signal_at c.pins name)
  signal_of c k h name = ap (λ ps. signal_at ps name) h.pins ∙ signal_copied go count wires wires' p p' copy point_goes c.pins name

  kind_same : (c k : Cell) → IsCopy c k → cell_kind k ≡ cell_kind c
  unfolding cell_kind
  kind_same c k h = ap kind_of h.kind

  -- write ports
  abbrev access_copied : Access → Access
  access_copied a = record a {
    clock = record { signal = signals_copied a.clock.signal; level = a.clock.level };
    address = signals_copied a.address;
    new = signals_copied a.new;
    enable = signals_copied a.enable;
  }

  record AccessIn (a : Access) : Type 0 where
    clock : SigIn count a.clock.signal
    address : SigIn count a.address
    new : SigIn count a.new
    enable : SigIn count a.enable

  access_goes : (c k : Cell) → IsCopy c k → cell_access k ≡ access_copied (cell_access c)
  access_goes c k h = λ i. record {
    number = number_of (h.values Param.Portid refl i);
    mask = h.values Param.PriorityMask refl i;
    clock = record {
      signal = signal_of c k h (pin_text names.Clk) i;
      level = if number_of (h.values Param.ClkPolarity refl i) == 0 then Low else High;
    };
    address = signal_of c k h (pin_text names.Addr) i;
    new = signal_of c k h (pin_text names.Data) i;
    enable = signal_of c k h (pin_text names.En) i;
  }

  access_in : (c : Cell) → CellIn count c → AccessIn (cell_access c)
  access_in c h = record {
    clock = signal_in go count wires wires' p p' copy point_goes c.pins (pin_text names.Clk) h;
    address = signal_in go count wires wires' p p' copy point_goes c.pins (pin_text names.Addr) h;
    new = signal_in go count wires wires' p p' copy point_goes c.pins (pin_text names.Data) h;
    enable = signal_in go count wires wires' p p' copy point_goes c.pins (pin_text names.En) h;
  }

  place_goes : (a : Access) (rest : List Access) → place_access (access_copied a) (map access_copied rest) ≡ map access_copied (place_access a rest)
  place_goes a [] = refl
  place_goes a (b ∷ rest) = by (nat_le a.number b.number) (place_goes a rest)
    where
      by : (t : Bool) → place_access (access_copied a) (map access_copied rest) ≡ map access_copied (place_access a rest) → cond t (access_copied a ∷ access_copied b ∷ map access_copied rest) (access_copied b ∷ place_access (access_copied a) (map access_copied rest)) ≡ map access_copied (cond t (a ∷ b ∷ rest) (b ∷ place_access a rest))
      by true h = refl
      by false h = ap (λ z. access_copied b ∷ z) h

  order_goes : (accesses : List Access) → in_access_order (map access_copied accesses) ≡ map access_copied (in_access_order accesses)
  order_goes [] = refl
  order_goes (a ∷ rest) = ap (place_access (access_copied a)) (order_goes rest) ∙ place_goes a (in_access_order rest)

  place_in : (a : Access) (rest : List Access) → AccessIn a → Each AccessIn rest → Each AccessIn (place_access a rest)
  place_in a [] h k = λ x i. ⊎_elim (λ e. subst AccessIn (sym e) h) (λ z. absurd z) i
  place_in a (b ∷ rest) h k = by (nat_le a.number b.number) (place_in a rest h (λ x j. k x (inr j)))
    where
      by : (t : Bool) → Each AccessIn (place_access a rest) → Each AccessIn (cond t (a ∷ b ∷ rest) (b ∷ place_access a rest))
      by true l = λ x i. ⊎_elim (λ e. subst AccessIn (sym e) h) (λ j. k x j) i
      by false l = λ x i. ⊎_elim (λ e. subst AccessIn (sym e) (k b (inl refl))) (λ j. l x j) i

  order_in : (accesses : List Access) → Each AccessIn accesses → Each AccessIn (in_access_order accesses)
  order_in [] h = h
  order_in (a ∷ rest) h = place_in a (in_access_order rest) (h a (inl refl)) (order_in rest (λ x j. h x (inr j)))

  word_goes : (signal : List SigBit) → SigIn count signal → moved_word go (points p wires signal) ≡ points p' wires' (signals_copied signal)
  word_goes signal h = points_moved go count wires wires' p p' copy point_goes signal h

  bit_goes : (signal : List SigBit) → SigIn count signal → (at : ℕ) → moved_point go (point_at (points p wires signal) at) ≡ point_at (points p' wires' (signals_copied signal)) at
  bit_goes signal h at = at_moved go (points p wires signal) at ∙ ap (λ w. point_at w at) (word_goes signal h)

  follow_goes : (mask : List Bit) (before : List Access) → map (may_follow mask) before ≡ map (may_follow mask) (map access_copied before)
  follow_goes mask [] = refl
  follow_goes mask (a ∷ before) = ap (λ z. may_follow mask a ∷ z) (follow_goes mask before)

  ports_go : (at : ℕ) (before accesses : List Access) → Each AccessIn accesses → map (moved_port go) (port_points p wires at before accesses) ≡ port_points p' wires' at (map access_copied before) (map access_copied accesses)
  ports_go at before [] h = refl
  ports_go at before (a ∷ rest) h =
      let own = h a (inl refl) in
      (λ i. record { address = word_goes a.address own.address i; enable = bit_goes a.enable own.enable at i; new = bit_goes a.new own.new at i; follows = follow_goes a.mask before i } ∷ ports_go at (before ++ a ∷ []) rest (λ x j. h x (inr j)) i)
      ∙ ap (λ bs. record { address = points p' wires' (signals_copied a.address); enable = point_at (points p' wires' (signals_copied a.enable)) at; new = point_at (points p' wires' (signals_copied a.new)) at; follows = map (may_follow a.mask) (map access_copied before) } ∷ port_points p' wires' at bs (map access_copied rest)) (map-append access_copied before (a ∷ []))

  clock_goes : (accesses : List Access) → Each AccessIn accesses → moved_point go (point_at (points p wires (first_trigger accesses).signal) 0) ≡ point_at (points p' wires' (first_trigger (map access_copied accesses)).signal) 0
  clock_goes [] h = refl
  clock_goes (a ∷ rest) h = bit_goes a.clock.signal (h a (inl refl)).clock 0

  level_goes : (accesses : List Access) → (first_trigger accesses).level ≡ (first_trigger (map access_copied accesses)).level
  level_goes [] = refl
  level_goes (a ∷ rest) = refl

  -- start words
  number_goes : (c k : Cell) → IsCopy c k → (name : ParamName) → bytes_eq (param_text Param.Memid) (param_text name) ≡ false → number_at k name ≡ number_at c name
  number_goes c k h name n = ap number_of (h.values name n)

  constants_go : (signal : List SigBit) → map constant_of (signals_copied signal) ≡ map constant_of signal
  constants_go [] = refl
  constants_go (s ∷ signal) = λ i. constant_goes s i ∷ constants_go signal i

  constant_at : (signal : List SigBit) (at : ℕ) → constant_of (slice_index_or (signals_copied signal) at (Fixed X)) ≡ constant_of (slice_index_or signal at (Fixed X))
  constant_at [] at = refl
  constant_at (s ∷ signal) zero = constant_goes s
  constant_at (s ∷ signal) (suc at) = constant_at signal at

  address_goes : (c k : Cell) → IsCopy c k → first_address k ≡ first_address c
  address_goes c k h = ap (λ s. number_of (map constant_of s)) (signal_of c k h (pin_text names.Addr)) ∙ ap number_of (constants_go (signal_at c.pins (pin_text names.Addr)))

  enable_goes : (c k : Cell) → IsCopy c k → (at : ℕ) → init_enable (cell_kind k) k at ≡ init_enable (cell_kind c) c at
  enable_goes c k h at = ap (λ z. init_enable z k at) (kind_same c k h) ∙ by (cell_kind c)
    where
      here : constant_of (slice_index_or (signal_at k.pins (pin_text names.En)) at (Fixed X)) ≡ constant_of (slice_index_or (signal_at c.pins (pin_text names.En)) at (Fixed X))
      here = ap (λ s. constant_of (slice_index_or s at (Fixed X))) (signal_of c k h (pin_text names.En)) ∙ constant_at (signal_at c.pins (pin_text names.En)) at

      by : (o : Option CellKind) → init_enable o k at ≡ init_enable o c at
      by None = refl
      by (Some (Cells.Word kind)) = refl
      by (Some (Cells.Gate kind)) = refl
      by (Some (Cells.Storage kind)) = refl
      by (Some (Cells.StorageGate kind)) = refl
      by (Some (Cells.Memory Memrd)) = refl
      by (Some (Cells.Memory MemrdV2)) = refl
      by (Some (Cells.Memory MemwrV2)) = refl
      by (Some (Cells.Memory Meminit)) = refl
      by (Some (Cells.Memory MeminitV2)) = here

  init_goes : (width : ℕ) (c k : Cell) → IsCopy c k → (address at : ℕ) (old : Bit) → init_bit_of width k address at old ≡ init_bit_of width c address at old
  init_goes width c k h address at old =
      (λ i. if nat_le (address_goes c k h i) address && nat_lt address (address_goes c k h i + number_goes c k h Param.Words refl i)
      then pick_of (enable_goes c k h at i) (constant_of (slice_index_or (signal_of c k h (pin_text names.Data) i) ((address - address_goes c k h i) * width + at) (Fixed X))) old
      else old)
      ∙ ap (λ b. if nat_le (first_address c) address && nat_lt address (first_address c + number_at c Param.Words) then pick_of (init_enable (cell_kind c) c at) b old else old) (constant_at (signal_at c.pins (pin_text names.Data)) ((address - first_address c) * width + at))

  -- cells with their copies, one by one
  abbrev pub Copies : List Cell → List Cell → Type 0
  Copies [] [] = Unit {0}
  Copies (c ∷ cs) (k ∷ ks) = IsCopy c k × Copies cs ks
  Copies [] (k ∷ ks) = ⊥
  Copies (c ∷ cs) [] = ⊥

  accesses_go : (cs ks : List Cell) → Copies cs ks → map cell_access ks ≡ map access_copied (map cell_access cs)
  accesses_go [] [] h = refl
  accesses_go (c ∷ cs) (k ∷ ks) h = λ i. access_goes c k h.0 i ∷ accesses_go cs ks h.1 i
  accesses_go [] (k ∷ ks) h = absurd h
  accesses_go (c ∷ cs) [] h = absurd h

  accesses_in : (cs ks : List Cell) → Copies cs ks → Each AccessIn (map cell_access cs)
  accesses_in [] ks h = λ x i. absurd i
  accesses_in (c ∷ cs) (k ∷ ks) h = λ x i. ⊎_elim (λ e. subst AccessIn (sym e) (access_in c h.0.within)) (λ j. accesses_in cs ks h.1 x j) i
  accesses_in (c ∷ cs) [] h = absurd h

  inits_go : (width : ℕ) (cs ks : List Cell) → Copies cs ks → (address at : ℕ) (old : Bit) → init_bits_of width ks address at old ≡ init_bits_of width cs address at old
  inits_go width [] [] h address at old = refl
  inits_go width (c ∷ cs) (k ∷ ks) h address at old =
      ap (λ b. init_bits_of width ks address at b) (init_goes width c k h.0 address at old) ∙ inits_go width cs ks h.1 address at (init_bit_of width c address at old)
  inits_go width [] (k ∷ ks) h address at old = absurd h
  inits_go width (c ∷ cs) [] h address at old = absurd h

  place_init_goes : (c k : Cell) (cs ks : List Cell) → IsCopy c k → Copies cs ks → Copies (place_init c cs) (place_init k ks)
  place_init_goes c k [] [] h l = (h, tt)
  place_init_goes c k (d ∷ cs) (m ∷ ks) h l =
      subst (λ z. Copies (place_init c (d ∷ cs)) (cond z (k ∷ m ∷ ks) (m ∷ place_init k ks))) (λ i. nat_lt (sym (number_goes c k h Param.Priority refl) i) (sym (number_goes d m l.0 Param.Priority refl) i)) (by (nat_lt (priority_of c) (priority_of d)) (place_init_goes c k cs ks h l.1))
    where
      by : (t : Bool) → Copies (place_init c cs) (place_init k ks) → Copies (cond t (c ∷ d ∷ cs) (d ∷ place_init c cs)) (cond t (k ∷ m ∷ ks) (m ∷ place_init k ks))
      by true r = (h, l)
      by false r = (l.0, r)
  place_init_goes c k [] (m ∷ ks) h l = absurd l
  place_init_goes c k (d ∷ cs) [] h l = absurd l

  priority_goes : (ss ts cs ks : List Cell) → Copies ss ts → Copies cs ks → Copies (in_priority_order ss cs) (in_priority_order ts ks)
  priority_goes ss ts [] [] h l = h
  priority_goes ss ts (c ∷ cs) (k ∷ ks) h l = priority_goes (place_init c ss) (place_init k ts) cs ks (place_init_goes c k ss ts l.0 h) l.1
  priority_goes ss ts [] (k ∷ ks) h l = absurd l
  priority_goes ss ts (c ∷ cs) [] h l = absurd l

  -- a memory and its copy
  module _ (s : Store) (name : List ℕ) (word_at : (address at : ℕ) → go (word_place p s.name address at) ≡ word_place p' name address at) where
    abbrev renamed_store : Store
    renamed_store = record s { name = name }

    words_go : (at : ℕ) → moved_word go (words_at p s at) ≡ words_at p' renamed_store at
    words_go at = by (addresses_of s)
      where
        by : (xs : List ℕ) → moved_word go (map (λ address. At (word_place p s.name address at)) xs) ≡ map (λ address. At (word_place p' name address at)) xs
        by [] = refl
        by (x ∷ xs) = λ i. At (word_at x at i) ∷ by xs i

    fetched_go : (address address' qs : List Point) → moved_word go address ≡ address' → (at : ℕ) → map (moved go) (fetched_rows p s address qs at) ≡ fetched_rows p' renamed_store address' (moved_word go qs) at
    fetched_go address address' [] e at = refl
    fetched_go address address' (At q ∷ qs) e at =
        λ i. record { place = go q; driver = Fetched (e i) (nat_abs s.offset) (words_go at i) } ∷ fetched_go address address' qs e (suc at) i
    fetched_go address address' (Constant b ∷ qs) e at = fetched_go address address' qs e (suc at)

    read_goes : (c k : Cell) → IsCopy c k → map (moved go) (read_rows p wires s c) ≡ read_rows p' wires' renamed_store k
    read_goes c k h =
        fetched_go (points p wires (signal_at c.pins (pin_text names.Addr))) (points p' wires' (signals_copied (signal_at c.pins (pin_text names.Addr)))) (points p wires (signal_at c.pins (pin_text names.Data))) (word_goes (signal_at c.pins (pin_text names.Addr)) (signal_in go count wires wires' p p' copy point_goes c.pins (pin_text names.Addr) h.within)) 0
        ∙ (λ i. fetched_rows p' renamed_store (points p' wires' (sym (signal_of c k h (pin_text names.Addr)) i)) ((word_goes (signal_at c.pins (pin_text names.Data)) (signal_in go count wires wires' p p' copy point_goes c.pins (pin_text names.Data) h.within) ∙ ap (points p' wires') (sym (signal_of c k h (pin_text names.Data)))) i) 0)

    reads_go : (cs ks : List Cell) → Copies cs ks → map (moved go) (flat_map (read_rows p wires s) cs) ≡ flat_map (read_rows p' wires' renamed_store) ks
    reads_go [] [] h = refl
    reads_go (c ∷ cs) (k ∷ ks) h =
        map-append (moved go) (read_rows p wires s c) (flat_map (read_rows p wires s) cs) ∙ (λ i. read_goes c k h.0 i ++ reads_go cs ks h.1 i)
    reads_go [] (k ∷ ks) h = absurd h
    reads_go (c ∷ cs) [] h = absurd h

    module _ (accesses : List Access) (within : Each AccessIn accesses) (inits inits' : List Cell) (copies : Copies inits inits') where
      word_row_goes : (address at : ℕ) → moved go (word_row p wires s accesses inits address at) ≡ word_row p' wires' renamed_store (map access_copied accesses) inits' address at
      word_row_goes address at = λ i. record {
        place = word_at address at i;
        driver =
            Remembered (seen_of (sym (inits_go s.width inits inits' copies address at X) i)) (clock_goes accesses within i) (level_goes accesses i) address (ports_go at [] accesses within i) (word_at address at i);
      }

      words_rows_go : map (moved go) (word_rows p wires s accesses inits) ≡ word_rows p' wires' renamed_store (map access_copied accesses) inits'
      words_rows_go = by (addresses_of s)
        where
          by : (xs : List ℕ) → map (moved go) (flat_map (λ address. map (word_row p wires s accesses inits address) (range_with_len 0 s.width)) xs) ≡ flat_map (λ address. map (word_row p' wires' renamed_store (map access_copied accesses) inits' address) (range_with_len 0 s.width)) xs
          by [] = refl
          by (x ∷ xs) =
              map-append (moved go) (map (word_row p wires s accesses inits x) (range_with_len 0 s.width)) (flat_map (λ address. map (word_row p wires s accesses inits address) (range_with_len 0 s.width)) xs)
              ∙ (λ i. each_map go (word_row p wires s accesses inits x) (word_row p' wires' renamed_store (map access_copied accesses) inits' x) (range_with_len 0 s.width) (word_row_goes x) i ++ by xs i)

    -- by the cells of the two memories, in the order of their modules
    pub memory_goes : (cells cells' : List Cell) → Copies (writing s.name cells) (writing name cells') → Copies (starting s.name cells) (starting name cells') → Copies (reading_cells s.name cells) (reading_cells name cells') → map (moved go) (memory_rows p wires cells [] s) ≡ memory_rows p' wires' cells' [] renamed_store
    memory_goes cells cells' writes inits reads =
        map-append (moved go) (word_rows p wires s (accesses_of s.name cells []) (init_cells s.name cells)) (flat_map (read_rows p wires s) (reading_cells s.name cells))
        ∙ (λ i. words i ++ reads_go (reading_cells s.name cells) (reading_cells name cells') reads i)
      where
        all : (as' : List Access) → as' ++ [] ≡ as'
        all [] = refl
        all (a ∷ as') = ap (λ z. a ∷ z) (all as')

        its : cell_accesses name cells' ≡ map access_copied (cell_accesses s.name cells)
        its =
            ap in_access_order (accesses_go (writing s.name cells) (writing name cells') writes)
            ∙ order_goes (map cell_access (writing s.name cells))

        words : map (moved go) (word_rows p wires s (accesses_of s.name cells []) (init_cells s.name cells)) ≡ word_rows p' wires' renamed_store (accesses_of name cells' []) (init_cells name cells')
        words =
            ap (λ as'. map (moved go) (word_rows p wires s as' (init_cells s.name cells))) (all (cell_accesses s.name cells))
            ∙ words_rows_go (cell_accesses s.name cells) (order_in (map cell_access (writing s.name cells)) (accesses_in (writing s.name cells) (writing name cells') writes)) (init_cells s.name cells) (init_cells name cells') (priority_goes [] [] (starting s.name cells) (starting name cells') tt inits)
            ∙ ap (λ as'. word_rows p' wires' renamed_store as' (init_cells name cells')) (sym its ∙ sym (all (cell_accesses name cells')))
