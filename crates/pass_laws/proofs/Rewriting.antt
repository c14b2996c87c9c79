-- One cell of a module goes: cells come in its place, and connections behind all others.
use Rattle.std.proofs.Common.{◌≡◌, ◌≤◌, ◌+◌, List, [], ◌∷◌, ◌++◌, ◌⊎◌, length, inl, inr, ⊎_elim, refl, sym, ◌∙◌, ap, subst, append_assoc, arith}
use Rattle.std.specs.Prelude.{map}
use Rattle.rtl_bits.specs.declared.bit.Bit.{Bit}
use Rattle.rtl_sig.specs.declared.sig.SigBit.{SigBit}
use Rattle.rtl_sig.specs.declared.sig.WireBit.{WireBit}
use Rattle.rtl_ir.specs.Flat.Cell.{Ports, cell_kind, cell_rows, cells_rows, instances}
use Rattle.rtl_ir.specs.Flat.Driver.{Driven}
use Rattle.rtl_ir.specs.Flat.Link.{joins, link_rows}
use Rattle.rtl_ir.specs.Flat.Memory.{memories_rows}
use Rattle.rtl_ir.specs.Flat.Place.{Frame, IsOf, Path, Place}
use Rattle.rtl_ir.specs.Flat.Point.{points}
use Rattle.rtl_ir.specs.Flat.Process.{processes_rows}
use Rattle.rtl_ir.specs.Flat.Rows.{plain_rows, rows_of}
use Rattle.rtl_ir.specs.Flat.Start.{start_of}
use Rattle.rtl_ir.specs.Flat.Tree as flat
use Rattle.rtl_ir.specs.Types as types
use Rattle.rtl_ir.specs.declared.cell.Cell.{Cell}
use Rattle.rtl_ir.specs.declared.module.Link.{Link}
use Rattle.rtl_ir.specs.declared.module.Module.{Module}
use Rattle.rtl_ir.specs.declared.ports.PortTable.{PortTable}
use Rattle.rtl_ir.specs.declared.wire.Wire.{Wire}
use Rattle.net_model.proofs.Lifted.{lifted}
use Rattle.net_model.proofs.Members.{In-cases, In-left, In-map, In-mapped, In-right}
use Rattle.net_model.proofs.Swapping.{instances-append, rows-append}
use Rattle.net_model.specs.Lists.{Distinct, In}
use Rattle.net_model.specs.Refine.{IsWellDriven, RowsRefine, places_of}
use Rattle.net_model.specs.Within.{CellIn, Each, LinkIn}
use Rattle.pass_laws.specs.Bits.{cells_bits, links_bits}
use Rattle.pass_laws.specs.Pass.{IsPass}
use Rattle.pass_laws.specs.Ready.{IsReady}
use Rattle.pass_laws.specs.Replaces.{IsEven, IsOutside, Replaces, replacing}
use Rattle.pass_laws.proofs.Accesses.{AreAccesses, accesses_replaced}
use Rattle.pass_laws.proofs.Agreeing.{driven_over}
use Rattle.pass_laws.proofs.Alone.{IsSound, faultless_outside, faultless_sound}
use Rattle.pass_laws.proofs.Counting.{cells_more, count, count_more, links_more}
use Rattle.pass_laws.proofs.Faultless.{IsPlain, plain}
use Rattle.pass_laws.proofs.Forming.{IsBody, own_accesses, own_cells, own_links, ready_with}
use Rattle.pass_laws.proofs.Memories.{memories_same}
use Rattle.pass_laws.proofs.Moving.{moved_front, moved_in_front}
use Rattle.pass_laws.proofs.Placing.{places_more}

pub links-append : (p : Path) (wires : List Wire) (ls ks : List Link) → link_rows p wires (ls ++ ks) ≡ link_rows p wires ls ++ link_rows p wires ks
links-append p wires [] ks = refl
links-append p wires (l ∷ ls) ks =
    ap (λ z. joins (points p wires l.left) (points p wires l.right) ++ z) (links-append p wires ls ks) ∙ sym (append_assoc (joins (points p wires l.left) (points p wires l.right)) (link_rows p wires ls) (link_rows p wires ks))

-- of each of three lists behind one another, and of one in the middle
each_more : {A : Type 0} (P : A → Type 0) (xs ys : List A) → Each P xs → Each P ys → Each P (xs ++ ys)
each_more P xs ys h k x i = ⊎_elim (λ l. h x l) (λ r. k x r) (In-cases x xs ys i)

-- the rows of a module without processes
pub rows_are : (ports : Ports) (p : Path) (m : Module) → m.processes ≡ [] → rows_of ports p m ≡ cells_rows (start_of m.wires m.processes) ports p m.wires m.cells ++ (link_rows p m.wires m.links ++ memories_rows p m.wires m.cells m.processes m.memories)
rows_are ports p m none =
    let start : SigBit → Bit = start_of m.wires m.processes in
    let processes : processes_rows start p m.wires m m.processes ≡ [] = ap (processes_rows start p m.wires m) none in
    ap (λ z. cells_rows start ports p m.wires m.cells ++ (link_rows p m.wires m.links ++ (z ++ memories_rows p m.wires m.cells m.processes m.memories))) processes

module _ (m : Module) (pre : List Cell) (post here : List Cell) (more : List Link) where
  abbrev new : Module
  new = replacing pre here post more m

  -- which rows the new module has
  module _ (ports : Ports) (p : Path) where
    abbrev rows : List Cell → List Driven
    rows cs = cells_rows (start_of m.wires m.processes) ports p m.wires cs

    abbrev links : List Link → List Driven
    links ls = link_rows p m.wires ls

    abbrev New : List Driven
    New = rows_of ports p (replacing pre here post more m)

    cells_in : (d : Driven) → In d (rows pre ++ (rows here ++ rows post)) → In d New
    cells_in d i =
        In-left d (rows (pre ++ (here ++ post))) (plain_rows p (replacing pre here post more m)) (subst (In d) (sym (rows-append (start_of m.wires m.processes) ports p m.wires pre (here ++ post) ∙ ap (λ z. rows pre ++ z) (rows-append (start_of m.wires m.processes) ports p m.wires here post))) i)

    all_links_in : (d : Driven) → In d (links m.links ++ links more) → In d New
    all_links_in d i =
        In-right d (rows (pre ++ (here ++ post))) (plain_rows p (replacing pre here post more m)) (In-left d (links (m.links ++ more)) (processes_rows (start_of m.wires m.processes) p m.wires (replacing pre here post more m) m.processes ++ memories_rows p m.wires (pre ++ (here ++ post)) m.processes m.memories) (subst (In d) (sym (links-append p m.wires m.links more)) i))

    pub pre_in : (d : Driven) → In d (rows pre) → In d New
    pre_in d i = cells_in d (In-left d (rows pre) (rows here ++ rows post) i)

    pub here_in : (d : Driven) → In d (rows here) → In d New
    here_in d i = cells_in d (In-right d (rows pre) (rows here ++ rows post) (In-left d (rows here) (rows post) i))

    pub post_in : (d : Driven) → In d (rows post) → In d New
    post_in d i = cells_in d (In-right d (rows pre) (rows here ++ rows post) (In-right d (rows here) (rows post) i))

    pub links_in : (d : Driven) → In d (links m.links) → In d New
    links_in d i = all_links_in d (In-left d (links m.links) (links more) i)

    pub more_in : (d : Driven) → In d (links more) → In d New
    more_in d i = all_links_in d (In-right d (links m.links) (links more) i)

    memories_in : (d : Driven) → In d (memories_rows p m.wires (pre ++ (here ++ post)) m.processes m.memories) → In d New
    memories_in d i =
        In-right d (rows (pre ++ (here ++ post))) (plain_rows p (replacing pre here post more m)) (In-right d (links (m.links ++ more)) (processes_rows (start_of m.wires m.processes) p m.wires (replacing pre here post more m) m.processes ++ memories_rows p m.wires (pre ++ (here ++ post)) m.processes m.memories) (In-right d (processes_rows (start_of m.wires m.processes) p m.wires (replacing pre here post more m) m.processes) (memories_rows p m.wires (pre ++ (here ++ post)) m.processes m.memories) i))

module _ (table : PortTable) (m : Module) (pre : List Cell) (c : Cell) (post here : List Cell) (more : List Link) (ready : IsReady (types.table_ports table.modules) m) (is : m.cells ≡ pre ++ c ∷ post) (r : Replaces table m pre c post here more) where
  fine : IsPlain m
  fine = plain (types.table_ports table.modules) m ready.faultless

  abbrev ports : Ports
  ports = flat.table_ports table

  abbrev start : SigBit → Bit
  start = start_of m.wires m.processes

  new_outside : Each IsOutside here
  new_outside d i = faultless_outside (types.table_ports table.modules) d (r.cells d i)

  module _ (p : Path) where
    abbrev of_cells : List Cell → List Driven
    of_cells cs = cells_rows (start_of m.wires m.processes) (flat.table_ports table) p m.wires cs

    abbrev of_links : List Link → List Driven
    of_links ls = link_rows p m.wires ls

    abbrev of_cell : List Driven
    of_cell = cell_rows (start_of m.wires m.processes) (flat.table_ports table) p m.wires c (cell_kind c)

    -- the memories keep their rows
    abbrev of_memories : List Driven
    of_memories = memories_rows p m.wires (pre ++ (here ++ post)) m.processes m.memories

    memories_kept : memories_rows p m.wires m.cells m.processes m.memories ≡ of_memories
    memories_kept =
        ap (λ z. memories_rows p m.wires z m.processes m.memories) is
        ∙ sym (memories_same p m.wires m.processes pre c post here r.outside new_outside m.memories)

    old_rows : rows_of (flat.table_ports table) p m ≡ (of_cells pre ++ (of_cell ++ of_cells post)) ++ (of_links m.links ++ of_memories)
    old_rows =
        rows_are (flat.table_ports table) p m fine.processes
        ∙ (λ i. of_cells (is i) ++ (of_links m.links ++ memories_kept i))
        ∙ ap (λ z. z ++ (of_links m.links ++ of_memories)) (rows-append (start_of m.wires m.processes) (flat.table_ports table) p m.wires pre (c ∷ post))

    new_rows : rows_of (flat.table_ports table) p (replacing pre here post more m) ≡ (of_cells pre ++ (of_cells here ++ of_cells post)) ++ ((of_links m.links ++ of_links more) ++ of_memories)
    new_rows =
        rows_are (flat.table_ports table) p (replacing pre here post more m) fine.processes
        ∙ (λ i. cells i ++ (links-append p m.wires m.links more i ++ of_memories))
      where
        cells : of_cells (pre ++ (here ++ post)) ≡ of_cells pre ++ (of_cells here ++ of_cells post)
        cells = rows-append (start_of m.wires m.processes) (flat.table_ports table) p m.wires pre (here ++ post) ∙ ap (λ z. of_cells pre ++ z) (rows-append (start_of m.wires m.processes) (flat.table_ports table) p m.wires here post)

    -- a row from before stays, or is one of the cell
    row_stays : (d : Driven) → In d (rows_of (flat.table_ports table) p m) → In d (rows_of (flat.table_ports table) p (replacing pre here post more m)) ⊎ In d of_cell
    row_stays d i =
        ⊎_elim
        (λ l. ⊎_elim
        (λ a. inl (pre_in m pre post here more (flat.table_ports table) p d a))
        (λ b. ⊎_elim (λ k. inr k) (λ q. inl (post_in m pre post here more (flat.table_ports table) p d q)) (In-cases d of_cell (of_cells post) b))
        (In-cases d (of_cells pre) (of_cell ++ of_cells post) l))
        (λ k. inl (⊎_elim (λ l. links_in m pre post here more (flat.table_ports table) p d l) (λ s. memories_in m pre post here more (flat.table_ports table) p d s) (In-cases d (of_links m.links) of_memories k)))
        (In-cases d (of_cells pre ++ (of_cell ++ of_cells post)) (of_links m.links ++ of_memories) (subst (In d) old_rows i))

    -- six lists of places
    old_places : places_of (rows_of (flat.table_ports table) p m) ≡ (places_of (of_cells pre) ++ ((places_of (of_cells here) ++ places_of (of_links more)) ++ places_of (of_cells post))) ++ (places_of (of_links m.links) ++ places_of of_memories)
    old_places =
        ap places_of old_rows
        ∙ places_more (of_cells pre ++ (of_cell ++ of_cells post)) (of_links m.links ++ of_memories)
        ∙ (λ i. cells i ++ places_more (of_links m.links) of_memories i)
      where
        cells : places_of (of_cells pre ++ (of_cell ++ of_cells post)) ≡ places_of (of_cells pre) ++ ((places_of (of_cells here) ++ places_of (of_links more)) ++ places_of (of_cells post))
        cells =
            places_more (of_cells pre) (of_cell ++ of_cells post)
            ∙ ap (λ z. places_of (of_cells pre) ++ z) (places_more of_cell (of_cells post) ∙ ap (λ z. z ++ places_of (of_cells post)) (sym (r.places p)))

    new_places : places_of (rows_of (flat.table_ports table) p (replacing pre here post more m)) ≡ (places_of (of_cells pre) ++ (places_of (of_cells here) ++ places_of (of_cells post))) ++ ((places_of (of_links m.links) ++ places_of (of_links more)) ++ places_of of_memories)
    new_places =
        ap places_of new_rows
        ∙ places_more (of_cells pre ++ (of_cells here ++ of_cells post)) ((of_links m.links ++ of_links more) ++ of_memories)
        ∙ (λ i. cells i ++ (places_more (of_links m.links ++ of_links more) of_memories ∙ ap (λ z. z ++ places_of of_memories) (places_more (of_links m.links) (of_links more))) i)
      where
        cells : places_of (of_cells pre ++ (of_cells here ++ of_cells post)) ≡ places_of (of_cells pre) ++ (places_of (of_cells here) ++ places_of (of_cells post))
        cells = places_more (of_cells pre) (of_cells here ++ of_cells post) ∙ ap (λ z. places_of (of_cells pre) ++ z) (places_more (of_cells here) (of_cells post))

    places_apart : Distinct (places_of (rows_of (flat.table_ports table) p m)) → Distinct (places_of (rows_of (flat.table_ports table) p (replacing pre here post more m)))
    places_apart h =
        subst Distinct (sym new_places) (moved_front (places_of (of_cells pre)) (places_of (of_cells here)) (places_of (of_links more)) (places_of (of_cells post)) (places_of (of_links m.links)) (places_of of_memories) (subst Distinct old_places h))

    place_before : (q : Place) → In q (places_of (rows_of (flat.table_ports table) p (replacing pre here post more m))) → In q (places_of (rows_of (flat.table_ports table) p m))
    place_before q i =
        subst (In q) (sym old_places) (moved_in_front (places_of (of_cells pre)) (places_of (of_cells here)) (places_of (of_links more)) (places_of (of_cells post)) (places_of (of_links m.links)) (places_of of_memories) q (subst (In q) new_places i))

  same_instances : instances m.cells ≡ instances (pre ++ (here ++ post))
  same_instances =
      ap instances is
      ∙ instances-append pre (c ∷ post)
      ∙ ap (λ z. instances pre ++ z) (instances-append (c ∷ []) post ∙ ap (λ z. z ++ instances post) (sym r.children) ∙ sym (instances-append here post))
      ∙ sym (instances-append pre (here ++ post))

  still_driven : IsWellDriven (flat.table_ports table) m → IsWellDriven (flat.table_ports table) (replacing pre here post more m)
  still_driven h = record {
    inputs = h.inputs;
    rows = λ p. places_apart p (h.rows p);
    apart = λ p x i at n j role of.
        let k = In-mapped (λ (row : Driven). row.place) x.place (rows_of (flat.table_ports table) p m) (place_before p x.place (In-map (λ (row : Driven). row.place) x (rows_of (flat.table_ports table) p (replacing pre here post more m)) i)) in
        h.apart p k.0 k.1 (ap (λ q. q.path) (sym k.2) ∙ at) n j role (subst (λ q. IsOf n.name q.spot) k.2 of);
    instances = subst (λ frames. Distinct (map (λ (f : Frame). f.name) frames)) same_instances h.instances;
  }

  replaced_rows : RowsRefine m (replacing pre here post more m) (flat.table_ports table)
  replaced_rows = record {
    id = refl;
    ports_same = refl;
    children = same_instances;
    rows = λ p t w s before d i. ⊎_elim (λ l. s.met d l) (λ k. r.met p t w s before d k) (row_stays p d i);
  }

  -- what is so of each cell is so with those in the place of one
  each_replaced : (P : Cell → Type 0) → Each P m.cells → Each P here → Each P (pre ++ (here ++ post))
  each_replaced P h k =
      let old : Each P (pre ++ c ∷ post) = subst (Each P) is h in
      each_more P pre (here ++ post) (λ x i. old x (In-left x pre (c ∷ post) i)) (each_more P here post k (λ x i. old x (In-right x pre (c ∷ post) (inr i))))

  as_often : (b : WireBit) → count b (cells_bits (types.table_ports table.modules) (pre ++ (here ++ post)) ++ links_bits (m.links ++ more)) ≤ count b (cells_bits (types.table_ports table.modules) m.cells ++ links_bits m.links)
  as_often b =
      let bits : List Cell → List WireBit = cells_bits (types.table_ports table.modules) in
      let same : count b (bits here) + count b (links_bits more) ≡ count b (bits (c ∷ [])) = sym (count_more b (bits here) (links_bits more)) ∙ ap (count b) r.bits in
      let old : count b (bits m.cells ++ links_bits m.links) ≡ (count b (bits pre) + (count b (bits (c ∷ [])) + count b (bits post))) + count b (links_bits m.links) = count_more b (bits m.cells) (links_bits m.links) ∙ ap (λ z. z + count b (links_bits m.links)) (ap (λ z. count b (bits z)) is ∙ three pre (c ∷ []) post) in
      let now : count b (bits (pre ++ (here ++ post)) ++ links_bits (m.links ++ more)) ≡ (count b (bits pre) + (count b (bits here) + count b (bits post))) + (count b (links_bits m.links) + count b (links_bits more)) = count_more b (bits (pre ++ (here ++ post))) (links_bits (m.links ++ more)) ∙ (λ i. three pre here post i + (ap (count b) (links_more m.links more) ∙ count_more b (links_bits m.links) (links_bits more)) i) in
      omega (arith, same, old, now)
    where
      three : (xs ys zs : List Cell) → count b (cells_bits (types.table_ports table.modules) (xs ++ (ys ++ zs))) ≡ count b (cells_bits (types.table_ports table.modules) xs) + (count b (cells_bits (types.table_ports table.modules) ys) + count b (cells_bits (types.table_ports table.modules) zs))
      three xs ys zs =
          let types : types.Ports = types.table_ports table.modules in
          let outer = ap (count b) (cells_more types xs (ys ++ zs)) ∙ count_more b (cells_bits types xs) (cells_bits types (ys ++ zs)) in
          let inner = ap (count b) (cells_more types ys zs) ∙ count_more b (cells_bits types ys) (cells_bits types zs) in
          outer ∙ ap (λ z. count b (cells_bits types xs) + z) inner

  still_body : IsBody (types.table_ports table.modules) m (pre ++ (here ++ post)) (m.links ++ more)
  still_body = record {
    cells = each_replaced (IsSound (types.table_ports table.modules)) (own_cells (types.table_ports table.modules) m ready) (λ d i. faultless_sound (types.table_ports table.modules) d (r.cells d i));
    accesses = accesses_replaced (types.table_ports table.modules) m m refl pre c post here r.outside new_outside (subst (AreAccesses (types.table_ports table.modules) m []) is (own_accesses (types.table_ports table.modules) m ready));
    links = each_more IsEven m.links more (own_links (types.table_ports table.modules) m ready) r.links;
    cells_within = each_replaced (CellIn (length m.wires)) ready.within.cells r.cells_within;
    links_within = each_more (LinkIn (length m.wires)) m.links more ready.within.links r.links_within;
    fewer = as_often;
  }

  -- the replacement of one cell is a pass
  pub is_replaced : IsPass table m (replacing pre here post more m)
  is_replaced = record {
    id = refl;
    ports = refl;
    instances = same_instances;
    driven = driven_over (flat.table_ports table) m (replacing pre here post more m) same_instances still_driven;
    ready = λ h. ready_with (types.table_ports table.modules) m ready (pre ++ (here ++ post)) (m.links ++ more) still_body;
    refines = lifted m (replacing pre here post more m) (flat.table_ports table) replaced_rows;
  }

pub replaced : (table : PortTable) (m : Module) (pre : List Cell) (c : Cell) (post here : List Cell) (more : List Link) → IsReady (types.table_ports table.modules) m → m.cells ≡ pre ++ c ∷ post → Replaces table m pre c post here more → IsPass table m (replacing pre here post more m)
replaced = is_replaced
