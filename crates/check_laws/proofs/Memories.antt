-- The places of rows of memories: bits that read ports drive, and bits of words.
use Rattle.std.proofs.Common.{◌≡◌, ℕ, suc, true, false, ◌&&◌, List, [], ◌∷◌, ◌++◌, append-nil, Option, Some, None, inl, inr, refl, sym, ◌∙◌, ap, subst}
use Rattle.std.specs.Prelude.{map, filter, flat_map}
use Rattle.std.specs.List.{range_with_len}
use Rattle.std.specs.Option.{option_map_or}
use Rattle.std.specs.Str.{bytes_eq}
use Rattle.std.proofs.lemmas.Bool.{and_parts}
use Rattle.std.proofs.lemmas.Slice.Eq.{bytes_eq-Decides}
use Rattle.rtl_sig.specs.declared.sig.WireBit.{WireBit}
use Rattle.cell_types.specs.declared.kind.CellKind.{CellKind}
use Rattle.cell_types.specs.declared.kind.CellKind.TheVariants.{Word, Gate, Storage, StorageGate, Memory}
use Rattle.cell_types.specs.declared.memory.MemoryKind.TheVariants.{Memrd, MemrdV2, MemwrV2, Meminit, MeminitV2}
use Rattle.cell_types.specs.declared.pin_name.PinName.TheVariants.{Addr, Data}
use Rattle.cell_types.specs.Kind.{kind_of}
use Rattle.cell_types.specs.PinName.{pin_text}
use Rattle.cell_types.specs.Unsupported.{is_unsupported}
use Rattle.rtl_ir.specs.declared.cell.Cell.{Cell}
use Rattle.rtl_ir.specs.declared.process.Process.{Process}
use Rattle.rtl_ir.specs.declared.store.Store.{Store}
use Rattle.rtl_ir.specs.declared.wire.Wire.{Wire}
use Rattle.rtl_ir.specs.Flat.Access.{Access, accesses_of}
use Rattle.rtl_ir.specs.Flat.Cell.{cell_kind}
use Rattle.rtl_ir.specs.Flat.Driver.{Driven}
use Rattle.rtl_ir.specs.Flat.Memory.{is_read_kind, addresses_of, fetched_rows, read_rows, reading_cells, init_cells, word_row, word_rows, memory_rows, memories_rows}
use Rattle.rtl_ir.specs.Flat.Place.{Path, Place, OfWord, word_place}
use Rattle.rtl_ir.specs.Flat.Point.{Point, Constant, At, points, pin_points}
use Rattle.rtl_ir.specs.Flat.Tree.{places}
use Rattle.rtl_ir.specs.Outputs.{drives_pin}
use Rattle.rtl_ir.specs.Parameters.{signal_at, memory_name}
use Rattle.rtl_ir.specs.Types.{Ports, type_by, cell_type}
use Rattle.rtl_ir.specs.WritePorts.{is_of_memory}
use Rattle.net_model.specs.Lists.{In, Distinct}
use Rattle.net_model.specs.Refine.{places_of}
use Rattle.net_model.proofs.Members.{In-mapped, map-append, map-map}
use Rattle.check_laws.proofs.Parts.{IsPart, part_is, part_none, part_more, distinct_map}
use Rattle.check_laws.proofs.Groups.{In-flat, filter_true, filter_both, part_groups, distinct_flat, range_once}
use Rattle.check_laws.proofs.Rows.{pins_bits, cells_bits, at_places, pin_part, rows_pair, rows_own}
use Rattle.check_laws.proofs.Cells.{reads}

-- the bits of the words of a memory, and of memories
abbrev pub word_bits : Path → Store → ℕ → List Place
word_bits p s address = map (word_place p s.name address) (range_with_len 0 s.width)

abbrev pub store_words : Path → Store → List Place
store_words p s = flat_map (word_bits p s) (addresses_of s)

abbrev pub words : List Store → Path → List Place
words stores p = flat_map (store_words p) stores

-- a bit of a word of the memory of this name
pub record OfStore (p : Path) (name : List ℕ) (q : Place) : Type 0 where
  pub address : ℕ
  pub at : ℕ
  pub is : q ≡ word_place p name address at

pub of_store : (p : Path) (s : Store) (q : Place) → In q (store_words p s) → OfStore p s.name q
of_store p s q i =
    let a = In-flat (word_bits p s) q (addresses_of s) i in
    let k = In-mapped (word_place p s.name a.0) q (range_with_len 0 s.width) a.2 in
    record { address = a.0; at = k.0; is = k.2 }

word_once : (p : Path) (s : Store) (address : ℕ) → Distinct (word_bits p s address)
word_once p s address =
    distinct_map (word_place p s.name address) (range_with_len 0 s.width)
    (λ x y i j e.
    let both : OfWord s.name address x ≡ OfWord s.name address y = ap (λ (z : Place). z.spot) e in
    let same : x ≡ y = cc in same)
    (range_once 0 s.width)

one_address : (p : Path) (s : Store) (x y : ℕ) (q : Place) → In q (word_bits p s x) → In q (word_bits p s y) → x ≡ y
one_address p s x y q i j =
    let k = In-mapped (word_place p s.name x) q (range_with_len 0 s.width) i in
    let l = In-mapped (word_place p s.name y) q (range_with_len 0 s.width) j in
    let both : OfWord s.name x k.0 ≡ OfWord s.name y l.0 = ap (λ (z : Place). z.spot) (sym k.2 ∙ l.2) in
    cc

one_store : (p : Path) (s t : Store) (q : Place) → In q (store_words p s) → In q (store_words p t) → s.name ≡ t.name
one_store p s t q i j =
    let k = of_store p s q i in
    let l = of_store p t q j in
    let both : OfWord s.name k.address k.at ≡ OfWord t.name l.address l.at = ap (λ (z : Place). z.spot) (sym k.is ∙ l.is) in
    cc

pub words_once : (stores : List Store) → Distinct (map (λ (s : Store). s.name) stores) → (p : Path) → Distinct (words stores p)
words_once stores u p =
    distinct_flat (store_words p) (λ (s : Store). s.name) (one_store p)
    (λ s. distinct_flat (word_bits p s) (λ x. x) (one_address p s) (word_once p s) (addresses_of s)
    (distinct_map (λ x. x) (addresses_of s) (λ x y i j e. e) (range_once _ _))) stores u

fetched_part : (p : Path) (s : Store) (address ds : List Point) (at : ℕ) → IsPart (places_of (fetched_rows p s address ds at)) (places ds)
fetched_part p s address [] at = part_none []
fetched_part p s address (At q ∷ ds) at = part_more q (places_of (fetched_rows p s address ds (suc at))) (places ds) (fetched_part p s address ds (suc at))
fetched_part p s address (Constant b ∷ ds) at = fetched_part p s address ds (suc at)

module _ (checked : Ports) where
  -- a cell that reads a memory drives its pin DATA
  read_drives : (c : Cell) → reads c ≡ true → drives_pin (cell_type checked c.kind_name) (pin_text Data) ≡ true
  unfolding cell_kind cell_type
  read_drives c e = by (kind_of c.kind_name) e
    where
      by : (k : Option CellKind) → is_read_kind k ≡ true → drives_pin (type_by k (checked c.kind_name) (is_unsupported c.kind_name)) (pin_text Data) ≡ true
      by None f = absurd (cc)
      by (Some (Word kind)) f = absurd (cc)
      by (Some (Gate kind)) f = absurd (cc)
      by (Some (Storage kind)) f = absurd (cc)
      by (Some (StorageGate gate)) f = absurd (cc)
      by (Some (Memory Memrd)) f = (bytes_eq-Decides (pin_text Data) (pin_text Data)).1 refl
      by (Some (Memory MemrdV2)) f = (bytes_eq-Decides (pin_text Data) (pin_text Data)).1 refl
      by (Some (Memory MemwrV2)) f = absurd (cc)
      by (Some (Memory Meminit)) f = absurd (cc)
      by (Some (Memory MeminitV2)) f = absurd (cc)

  module _ (p : Path) (wires : List Wire) where
    reads_part : (s : Store) (cs : List Cell) → ((c : Cell) → In c cs → reads c ≡ true) → IsPart (places_of (flat_map (read_rows p wires s) cs)) (at_places p wires (cells_bits checked cs) ++ [])
    reads_part s [] h = part_none []
    reads_part s (c ∷ cs) h =
        let type = cell_type checked c.kind_name in
        rows_pair p wires (read_rows p wires s c) (flat_map (read_rows p wires s) cs) (pins_bits type c.pins) (cells_bits checked cs) [] []
        (rows_own p wires (read_rows p wires s c) (pins_bits type c.pins)
        (pin_part p wires type Data c.pins (places_of (read_rows p wires s c)) (read_drives c (h c (inl refl)))
        (fetched_part p s (points p wires (signal_at c.pins (pin_text Addr))) (pin_points p wires c.pins Data) 0)))
        (reads_part s cs (λ z i. h z (inr i)))

    words_are : (s : Store) (accesses : List Access) (inits : List Cell) (addresses : List ℕ) → places_of (flat_map (λ address. map (word_row p wires s accesses inits address) (range_with_len 0 s.width)) addresses) ≡ flat_map (word_bits p s) addresses
    words_are s accesses inits [] = refl
    words_are s accesses inits (a ∷ as') =
        map-append (λ (x : Driven). x.place) (map (word_row p wires s accesses inits a) (range_with_len 0 s.width)) (flat_map (λ address. map (word_row p wires s accesses inits address) (range_with_len 0 s.width)) as')
        ∙ (λ i. map-map (word_row p wires s accesses inits a) (λ (x : Driven). x.place) (range_with_len 0 s.width) i ++ words_are s accesses inits as' i)

    module _ (cells : List Cell) (processes : List Process) where
      memory_part : (s : Store) → IsPart (places_of (memory_rows p wires cells processes s)) (at_places p wires (cells_bits checked (reading_cells s.name cells)) ++ store_words p s)
      memory_part s =
          let own = word_rows p wires s (accesses_of s.name cells processes) (init_cells s.name cells) in
          let read = flat_map (read_rows p wires s) (reading_cells s.name cells) in
          subst (λ z. IsPart (places_of (own ++ read)) (at_places p wires (cells_bits checked (reading_cells s.name cells)) ++ z)) (append-nil (store_words p s))
          (rows_pair p wires own read [] (cells_bits checked (reading_cells s.name cells)) (store_words p s) []
          (part_is (places_of own) (store_words p s) (words_are s (accesses_of s.name cells processes) (init_cells s.name cells) (addresses_of s)))
          (reads_part s (reading_cells s.name cells) (λ c i. (and_parts (reads c) (is_of_memory s.name c) (filter_true (λ (z : Cell). reads z && is_of_memory s.name z) cells c i)).0)))

      -- the bits that the read ports of memories drive
      abbrev pub read_bits : List Store → List WireBit
      read_bits stores = flat_map (λ (s : Store). cells_bits checked (reading_cells s.name cells)) stores

      pub memories_part : (stores : List Store) → IsPart (places_of (memories_rows p wires cells processes stores)) (at_places p wires (read_bits stores) ++ words stores p)
      memories_part [] = part_none []
      memories_part (s ∷ stores) =
          rows_pair p wires (memory_rows p wires cells processes s) (memories_rows p wires cells processes stores)
          (cells_bits checked (reading_cells s.name cells)) (read_bits stores) (store_words p s) (words stores p) (memory_part s) (memories_part stores)

  -- a cell belongs to one memory
  one_memory : (s t : Store) (c : Cell) → is_of_memory s.name c ≡ true → is_of_memory t.name c ≡ true → s.name ≡ t.name
  one_memory s t c e f = by (memory_name c.params) e f
    where
      by : (o : Option (List ℕ)) → option_map_or (bytes_eq s.name) o false ≡ true → option_map_or (bytes_eq t.name) o false ≡ true → s.name ≡ t.name
      by None g h = absurd (cc)
      by (Some name) g h = (bytes_eq-Decides s.name name).0 g ∙ sym ((bytes_eq-Decides t.name name).0 h)

  -- so no two memories have a read port in common
  pub read_part : (cells : List Cell) (stores : List Store) → Distinct (map (λ (s : Store). s.name) stores) → IsPart (flat_map (λ (s : Store). cells_bits checked (reading_cells s.name cells)) stores) (cells_bits checked (filter reads cells))
  read_part cells stores u =
      let bits = λ (c : Cell). pins_bits (cell_type checked c.kind_name) c.pins in
      let groups : flat_map (λ (s : Store). cells_bits checked (reading_cells s.name cells)) stores ≡ flat_map (λ (s : Store). cells_bits checked (filter (is_of_memory s.name) (filter reads cells))) stores =
      λ i. flat_map (λ (s : Store). cells_bits checked (filter_both reads (is_of_memory s.name) cells i)) stores in
      subst (λ z. IsPart z (cells_bits checked (filter reads cells))) (sym groups)
      (part_groups bits (filter reads cells) (λ (s : Store). s.name) (λ s c. is_of_memory s.name c) one_memory stores u)
