-- Memories by the new places of wires: their cells have no faults where they had none, and their rows are the same.
use Rattle.std.proofs.Common.{◌≡◌, ℕ, zero, suc, Bool, true, false, cond, if◌then◌else◌, List, [], ◌∷◌, ◌++◌, Option, Some, None, inl, inr, refl, sym, ◌∙◌, ap, subst}
use Rattle.std.specs.Prelude.{◌&&◌, ◌||◌, ◌==◌, ◌+◌, ◌-◌, ◌*◌, filter, flat_map, map, nat_le, nat_lt, not, slice_index_or}
use Rattle.std.specs.List.{list_all, range_with_len}
use Rattle.std.specs.Option.{option_and_then, option_map_or}
use Rattle.std.proofs.lemmas.List.{append-nil}
use Rattle.rtl_bits.specs.Knowledge.{all_known}
use Rattle.rtl_bits.specs.Numbers.{number_of}
use Rattle.rtl_bits.specs.Tables.{seen_of}
use Rattle.rtl_bits.specs.declared.bit.Bit.{Bit}
use Rattle.rtl_bits.specs.declared.bit.Bit.TheVariants.{X}
use Rattle.rtl_sig.specs.declared.sig.SigBit.{SigBit}
use Rattle.rtl_sig.specs.declared.sig.SigBit.TheVariants.{Fixed, Wire as OnWire}
use Rattle.cell_gate.specs.Control.{pick_of}
use Rattle.cell_types.specs.PinName.{pin_text}
use Rattle.cell_types.specs.declared.kind.CellKind.{CellKind}
use Rattle.cell_types.specs.declared.kind.CellKind.TheVariants.{Word, Gate, Storage, StorageGate, Memory}
use Rattle.cell_types.specs.declared.memory.MemoryKind.{MemoryKind}
use Rattle.cell_types.specs.declared.memory.MemoryKind.TheVariants.{Memrd, MemrdV2, MemwrV2, Meminit, MeminitV2}
use Rattle.cell_types.specs.declared.param_name.ParamName.TheVariants as Param
use Rattle.cell_types.specs.declared.pin_name.PinName.{PinName}
use Rattle.cell_types.specs.declared.pin_name.PinName.TheVariants.{Addr, Clk, Data, En}
use Rattle.rtl_ir.specs.declared.cell.Cell.{Cell}
use Rattle.rtl_ir.specs.declared.store.Store.{Store}
use Rattle.rtl_ir.specs.declared.wire.Wire.{Wire}
use Rattle.rtl_ir.specs.declared.module.Module.{Module}
use Rattle.rtl_ir.specs.Faults.MemoryCells.{are_enables, are_words, first_address, is_address, is_bad_access, is_unlike, number_at, store_named}
use Rattle.rtl_ir.specs.Flat.Access.{Access, accesses_of, cell_access, cell_accesses, first_trigger, in_access_order, place_access}
use Rattle.rtl_ir.specs.Flat.Cell.{cell_kind}
use Rattle.rtl_ir.specs.Flat.Driver.{Remembered}
use Rattle.rtl_ir.specs.Flat.Memory.{addresses_of, fetched_rows, in_priority_order, init_bit_of, init_bits_of, init_cells, init_enable, may_follow, memories_rows, memory_rows, place_init, port_points, priority_of, read_rows, reading_cells, word_row, word_rows}
use Rattle.rtl_ir.specs.Flat.Place.{Path, word_place}
use Rattle.rtl_ir.specs.Flat.Point.{point, point_at, points}
use Rattle.rtl_ir.specs.Parameters.{memory_name, signal_at}
use Rattle.rtl_ir.specs.Signals.{is_all_constant, constant_of}
use Rattle.rtl_ir.specs.Types.{CellType, Library, Ports, cell_type}
use Rattle.rtl_ir.specs.WritePorts.{cell_ports}
use Rattle.net_model.specs.Lists.{In}
use Rattle.net_model.proofs.Members.{In-mapped, map-append, map-map}
use Rattle.pass_laws.proofs.Accesses.{AreAccesses, IsAccess, SameNumbers, access_moved, same_more, writes_to}
use Rattle.opt_clean.specs.Wires.{moved_cell}
use Rattle.opt_clean.proofs.Memories.{is_reader, is_starter, ordered_from}
use Rattle.opt_clean.proofs.Moved.{Keeps, move, points_stay, signal_moves}
use Rattle.pass_laws.proofs.Finding.{filtered_in}

-- those of a mapped list that pass a test are those that pass it before
filter_map : {A B : Type 0} (f : A → B) (test : B → Bool) (xs : List A) → filter test (map f xs) ≡ map f (filter (λ x. test (f x)) xs)
filter_map f test [] = refl
filter_map f test (x ∷ xs) = by (filter_map f test xs) (test (f x))
  where
    by : filter test (map f xs) ≡ map f (filter (λ y. test (f y)) xs) → (t : Bool) → cond t (f x ∷ filter test (map f xs)) (filter test (map f xs)) ≡ map f (cond t (x ∷ filter (λ y. test (f y)) xs) (filter (λ y. test (f y)) xs))
    by later true = ap (λ z. f x ∷ z) later
    by later false = later

module _ (marks : List Bool) where
  abbrev moved : Cell → Cell
  moved c = moved_cell marks c

  -- constants stay
  constant_moves : (s : SigBit) → constant_of (move marks s) ≡ constant_of s
  constant_moves (Fixed b) = refl
  constant_moves (OnWire b) = refl

  constants_move : (signal : List SigBit) → map constant_of (map (move marks) signal) ≡ map constant_of signal
  constants_move [] = refl
  constants_move (s ∷ signal) = λ i. constant_moves s i ∷ constants_move signal i

  constant_at : (signal : List SigBit) (at : ℕ) → constant_of (slice_index_or (map (move marks) signal) at (Fixed X)) ≡ constant_of (slice_index_or signal at (Fixed X))
  constant_at [] at = refl
  constant_at (s ∷ signal) zero = constant_moves s
  constant_at (s ∷ signal) (suc at) = constant_at signal at

  module _ (c : Cell) where
    pub constants_at : (name : PinName) → map constant_of (signal_at (moved c).pins (pin_text name)) ≡ map constant_of (signal_at c.pins (pin_text name))
    constants_at name =
        ap (map constant_of) (signal_moves marks c.pins (pin_text name)) ∙ constants_move (signal_at c.pins (pin_text name))

    constant_there : (name : PinName) (at : ℕ) → constant_of (slice_index_or (signal_at (moved c).pins (pin_text name)) at (Fixed X)) ≡ constant_of (slice_index_or (signal_at c.pins (pin_text name)) at (Fixed X))
    constant_there name at =
        ap (λ signal. constant_of (slice_index_or signal at (Fixed X))) (signal_moves marks c.pins (pin_text name)) ∙ constant_at (signal_at c.pins (pin_text name)) at

    pub first_stays : first_address (moved c) ≡ first_address c
    first_stays = ap number_of (constants_at Addr)

  -- a cell of a memory is judged as before
  all_constant : (signal : List SigBit) → is_all_constant (map (move marks) signal) ≡ is_all_constant signal
  all_constant [] = refl
  all_constant (Fixed b ∷ signal) = all_constant signal
  all_constant (OnWire b ∷ signal) = refl

  all_constant_at : (c : Cell) (name : PinName) → is_all_constant (signal_at (moved c).pins (pin_text name)) ≡ is_all_constant (signal_at c.pins (pin_text name))
  all_constant_at c name =
      ap is_all_constant (signal_moves marks c.pins (pin_text name)) ∙ all_constant (signal_at c.pins (pin_text name))

  words_stay : (s : Store) (c : Cell) → are_words s (moved c) ≡ are_words s c
  words_stay s c =
      λ i. all_constant_at c Data i && list_all (λ k. all_known (constants_at c Addr i) && is_address s (first_stays c i + k)) (range_with_len 0 (number_at c Param.Words))

  enables_stay : (c : Cell) → are_enables (moved c) ≡ are_enables c
  enables_stay c = ap (λ t. t || (number_at c Param.Words == 0)) (all_constant_at c En)

  module _ (n : Module) (earlier : List Cell) (c : Cell) where
    judged : (s : Store) (kind : MemoryKind) → is_bad_access false n.links (cell_ports n.links s.name earlier) s (moved c) kind ≡ is_bad_access false n.links (cell_ports n.links s.name earlier) s c kind
    judged s Memrd = refl
    judged s MemrdV2 = refl
    judged s MemwrV2 = refl
    judged s Meminit = ap not (words_stay s c)
    judged s MeminitV2 = λ i. not (words_stay s c i) || not (enables_stay c i)

    access_by : (type : CellType) → IsAccess n earlier c type → IsAccess n earlier (moved c) type
    access_by (Library (Memory kind)) a =
        ap (λ f. option_map_or f (option_and_then (store_named n.memories) (memory_name c.params)) true) (λ i s. is_unlike s c || judged s kind i) ∙ a
    access_by type a = tt

  -- the write ports have the same numbers
  same_number : (c : Cell) → SameNumbers (c ∷ []) (moved c ∷ [])
  same_number c name = by (writes_to name c)
    where
      by : (t : Bool) → map (λ (d : Cell). number_at d Param.Portid) (cond t (c ∷ []) []) ≡ map (λ (d : Cell). number_at d Param.Portid) (cond t (moved c ∷ []) [])
      by true = refl
      by false = refl

  -- cells of memories without faults, one behind another, are so with their bits moved
  pub moved_accesses : (ports : Ports) (m n : Module) → m.memories ≡ n.memories → (earlier later : List Cell) → SameNumbers earlier later → (cs : List Cell) → AreAccesses ports m earlier cs → AreAccesses ports n later (map moved cs)
  moved_accesses ports m n stores earlier later same [] a = tt
  moved_accesses ports m n stores earlier later same (c ∷ cs) a =
      let here = access_by n later c (cell_type ports c.kind_name) (access_moved m n stores earlier later same c (cell_type ports c.kind_name) a.0) in
      (here, moved_accesses ports m n stores (earlier ++ c ∷ []) (later ++ moved c ∷ []) (same_more earlier later (c ∷ []) (moved c ∷ []) same (same_number c)) cs a.1)

  -- start words
  kind_stays : (c : Cell) → cell_kind (moved c) ≡ cell_kind c
  unfolding cell_kind
  kind_stays c = refl

  enable_by : (k : Option CellKind) (c : Cell) (at : ℕ) → init_enable k (moved c) at ≡ init_enable k c at
  enable_by None c at = refl
  enable_by (Some (Word kind)) c at = refl
  enable_by (Some (Gate kind)) c at = refl
  enable_by (Some (Storage kind)) c at = refl
  enable_by (Some (StorageGate kind)) c at = refl
  enable_by (Some (Memory Memrd)) c at = refl
  enable_by (Some (Memory MemrdV2)) c at = refl
  enable_by (Some (Memory MemwrV2)) c at = refl
  enable_by (Some (Memory Meminit)) c at = refl
  enable_by (Some (Memory MeminitV2)) c at = constant_there c En at

  enable_stays : (c : Cell) (at : ℕ) → init_enable (cell_kind (moved c)) (moved c) at ≡ init_enable (cell_kind c) c at
  enable_stays c at = ap (λ k. init_enable k (moved c) at) (kind_stays c) ∙ enable_by (cell_kind c) c at

  init_stays : (width : ℕ) (c : Cell) (address at : ℕ) (old : Bit) → init_bit_of width (moved c) address at old ≡ init_bit_of width c address at old
  init_stays width c address at old =
      (λ i. written (first_stays c i) (constant_of (slice_index_or (signal_at (moved c).pins (pin_text Data)) ((address - first_stays c i) * width + at) (Fixed X))) (enable_stays c at i))
      ∙ ap (λ value. written (first_address c) value (init_enable (cell_kind c) c at)) (constant_there c Data ((address - first_address c) * width + at))
    where
      written : ℕ → Bit → Bit → Bit
      written first value enable =
          if nat_le first address && nat_lt address (first + number_at c Param.Words) then pick_of enable value old else old

  inits_stay : (width : ℕ) (cells : List Cell) (address at : ℕ) (old : Bit) → init_bits_of width (map moved cells) address at old ≡ init_bits_of width cells address at old
  inits_stay width [] address at old = refl
  inits_stay width (c ∷ cells) address at old =
      ap (init_bits_of width (map moved cells) address at) (init_stays width c address at old) ∙ inits_stay width cells address at (init_bit_of width c address at old)

  place_moves : (c : Cell) (cells : List Cell) → place_init (moved c) (map moved cells) ≡ map moved (place_init c cells)
  place_moves c [] = refl
  place_moves c (d ∷ cells) = by (place_moves c cells) (nat_lt (priority_of c) (priority_of d))
    where
      by : place_init (moved c) (map moved cells) ≡ map moved (place_init c cells) → (t : Bool) → cond t (moved c ∷ moved d ∷ map moved cells) (moved d ∷ place_init (moved c) (map moved cells)) ≡ map moved (cond t (c ∷ d ∷ cells) (d ∷ place_init c cells))
      by later true = refl
      by later false = ap (λ z. moved d ∷ z) later

  order_moves : (sorted cells : List Cell) → in_priority_order (map moved sorted) (map moved cells) ≡ map moved (in_priority_order sorted cells)
  order_moves sorted [] = refl
  order_moves sorted (c ∷ cells) =
      ap (λ z. in_priority_order z (map moved cells)) (place_moves c sorted) ∙ order_moves (place_init c sorted) cells

  starters_move : (name : List ℕ) (cells : List Cell) → init_cells name (map moved cells) ≡ map moved (init_cells name cells)
  unfolding cell_kind
  starters_move name cells =
      ap (in_priority_order []) (filter_map moved (is_starter name) cells) ∙ order_moves [] (filter (is_starter name) cells)

  -- write ports
  abbrev moved_access : Access → Access
  moved_access a = record {
    number = a.number;
    mask = a.mask;
    clock = record { signal = map (move marks) a.clock.signal; level = a.clock.level };
    address = map (move marks) a.address;
    new = map (move marks) a.new;
    enable = map (move marks) a.enable;
  }

  access_moves : (c : Cell) → cell_access (moved c) ≡ moved_access (cell_access c)
  access_moves c = λ i. record {
    number = (cell_access c).number;
    mask = (cell_access c).mask;
    clock = record { signal = signal_moves marks c.pins (pin_text Clk) i; level = (cell_access c).clock.level };
    address = signal_moves marks c.pins (pin_text Addr) i;
    new = signal_moves marks c.pins (pin_text Data) i;
    enable = signal_moves marks c.pins (pin_text En) i;
  }

  placed_moves : (a : Access) (accesses : List Access) → place_access (moved_access a) (map moved_access accesses) ≡ map moved_access (place_access a accesses)
  placed_moves a [] = refl
  placed_moves a (b ∷ accesses) = by (placed_moves a accesses) (nat_le a.number b.number)
    where
      by : place_access (moved_access a) (map moved_access accesses) ≡ map moved_access (place_access a accesses) → (t : Bool) → cond t (moved_access a ∷ moved_access b ∷ map moved_access accesses) (moved_access b ∷ place_access (moved_access a) (map moved_access accesses)) ≡ map moved_access (cond t (a ∷ b ∷ accesses) (b ∷ place_access a accesses))
      by later true = refl
      by later false = ap (λ z. moved_access b ∷ z) later

  ordered_moves : (cells : List Cell) → in_access_order (map cell_access (map moved cells)) ≡ map moved_access (in_access_order (map cell_access cells))
  ordered_moves [] = refl
  ordered_moves (c ∷ cells) =
      (λ i. place_access (access_moves c i) (ordered_moves cells i)) ∙ placed_moves (cell_access c) (in_access_order (map cell_access cells))

  accesses_move : (name : List ℕ) (cells : List Cell) → accesses_of name (map moved cells) [] ≡ map moved_access (accesses_of name cells [])
  accesses_move name cells =
      append-nil (cell_accesses name (map moved cells))
      ∙ ap (λ cs. in_access_order (map cell_access cs)) (filter_map moved (writes_to name) cells)
      ∙ ordered_moves (filter (writes_to name) cells)
      ∙ ap (map moved_access) (sym (append-nil (cell_accesses name cells)))

  -- the rows, where each bit of the cells keeps its place
  module _ (p : Path) (old new : List Wire) (start begin : SigBit → Bit) where
    abbrev At : SigBit → Type 0
    At s = (point p new (move marks s) ≡ point p old s) × (begin (move marks s) ≡ start s)

    module _ (cells : List Cell) (keeps : (c : Cell) → In c cells → (name : PinName) → Keeps marks p old new start begin (signal_at c.pins (pin_text name))) where
      stay : (signal : List SigBit) → Keeps marks p old new start begin signal → points p new (map (move marks) signal) ≡ points p old signal
      stay signal h = points_stay marks p old new start begin signal h

      record AccessKeeps (a : Access) : Type 0 where
        clock : Keeps marks p old new start begin a.clock.signal
        address : Keeps marks p old new start begin a.address
        new_word : Keeps marks p old new start begin a.new
        enable : Keeps marks p old new start begin a.enable

      access_keeps : (name : List ℕ) (a : Access) → In a (accesses_of name cells []) → AccessKeeps a
      access_keeps name a i =
          let own : In a (cell_accesses name cells) = subst (In a) (append-nil (cell_accesses name cells)) i in
          let k = In-mapped cell_access a (filter (writes_to name) cells) (ordered_from (map cell_access (filter (writes_to name) cells)) a own) in
          let c = filtered_in (writes_to name) cells k.0 k.1 in
          subst AccessKeeps (sym k.2) (record { clock = keeps k.0 c.0 Clk; address = keeps k.0 c.0 Addr; new_word = keeps k.0 c.0 Data; enable = keeps k.0 c.0 En })

      ports_stay : (at : ℕ) (before accesses : List Access) → ((a : Access) → In a accesses → AccessKeeps a) → port_points p new at (map moved_access before) (map moved_access accesses) ≡ port_points p old at before accesses
      ports_stay at before [] h = refl
      ports_stay at before (a ∷ accesses) h =
          let k = h a (inl refl) in
          let address = stay a.address k.address in
          let enable = stay a.enable k.enable in
          let word = stay a.new k.new_word in
          let follows : map (may_follow a.mask) (map moved_access before) ≡ map (may_follow a.mask) before = map-map moved_access (may_follow a.mask) before in
          let rest = ap (λ z. port_points p new at z (map moved_access accesses)) (sym (map-append moved_access before (a ∷ []))) ∙ ports_stay at (before ++ a ∷ []) accesses (λ x j. h x (inr j)) in
          λ i. record { address = address i; enable = point_at (enable i) at; new = point_at (word i) at; follows = follows i } ∷ rest i

      clock_stays : (accesses : List Access) → ((a : Access) → In a accesses → AccessKeeps a) → points p new (first_trigger (map moved_access accesses)).signal ≡ points p old (first_trigger accesses).signal
      clock_stays [] h = refl
      clock_stays (a ∷ accesses) h = stay a.clock.signal (h a (inl refl)).clock

      level_stays : (accesses : List Access) → (first_trigger (map moved_access accesses)).level ≡ (first_trigger accesses).level
      level_stays [] = refl
      level_stays (a ∷ accesses) = refl

      word_stays : (s : Store) (accesses : List Access) → ((a : Access) → In a accesses → AccessKeeps a) → (inits : List Cell) (address at : ℕ) → word_row p new s (map moved_access accesses) (map moved inits) address at ≡ word_row p old s accesses inits address at
      word_stays s accesses h inits address at = λ i. record {
        place = word_place p s.name address at;
        driver =
            Remembered (seen_of (inits_stay s.width inits address at X i)) (point_at (clock_stays accesses h i) 0) (level_stays accesses i) address (ports_stay at [] accesses h i)
            (word_place p s.name address at);
      }

      read_stays : (s : Store) (c : Cell) → In c cells → read_rows p new s (moved c) ≡ read_rows p old s c
      read_stays s c j =
          λ i. fetched_rows p s (pin_stays Addr i) (pin_stays Data i) 0
        where
          pin_stays : (name : PinName) → points p new (signal_at (moved c).pins (pin_text name)) ≡ points p old (signal_at c.pins (pin_text name))
          pin_stays name =
              ap (points p new) (signal_moves marks c.pins (pin_text name)) ∙ stay (signal_at c.pins (pin_text name)) (keeps c j name)

      reads_stay : (s : Store) (cs : List Cell) → ((c : Cell) → In c cs → In c cells) → flat_map (read_rows p new s) (map moved cs) ≡ flat_map (read_rows p old s) cs
      reads_stay s [] h = refl
      reads_stay s (c ∷ cs) h = λ i. read_stays s c (h c (inl refl)) i ++ reads_stay s cs (λ d j. h d (inr j)) i

      readers_move : (name : List ℕ) → reading_cells name (map moved cells) ≡ map moved (reading_cells name cells)
      unfolding cell_kind
      readers_move name = filter_map moved (is_reader name) cells

      memory_stays : (s : Store) → memory_rows p new (map moved cells) [] s ≡ memory_rows p old cells [] s
      memory_stays s =
          let accesses = accesses_of s.name cells [] in
          let inits = init_cells s.name cells in
          let words : word_rows p new s (map moved_access accesses) (map moved inits) ≡ word_rows p old s accesses inits = λ i. flat_map (λ address. map (λ at. word_stays s accesses (access_keeps s.name) inits address at i) (range_with_len 0 s.width)) (addresses_of s) in
          let reads = ap (flat_map (read_rows p new s)) (readers_move s.name) ∙ reads_stay s (reading_cells s.name cells) (λ c j. (filtered_in (is_reader s.name) cells c j).0) in
          λ i. ((λ j. word_rows p new s (accesses_move s.name cells j) (starters_move s.name cells j)) ∙ words) i ++ reads i

      pub memories_move : (stores : List Store) → memories_rows p new (map moved cells) [] stores ≡ memories_rows p old cells [] stores
      memories_move stores = λ i. flat_map (λ (s : Store). memory_stays s i) stores
