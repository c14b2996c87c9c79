-- No bit has two drivers: none is driven by two connections, by a cell and a connection, by two cells, or by two places of one cell.
use Rattle.std.proofs.Common.{◌≡◌, ℕ, zero, suc, Bool, true, false, cond, List, [], ◌∷◌, ◌++◌, map, Option, Some, None, inl, inr, refl, sym, ◌∙◌, ap, subst}
use Rattle.std.specs.Prelude.{◌&&◌, slice_get}
use Rattle.std.proofs.lemmas.Bool.{eq-eqb}
use Rattle.rtl_bits.specs.declared.bit.Bit.{Bit}
use Rattle.rtl_sig.specs.declared.sig.SigBit.{SigBit}
use Rattle.rtl_sig.specs.declared.sig.SigBit.TheVariants.{Fixed, Wire as OnWire}
use Rattle.rtl_sig.specs.declared.sig.WireBit.{WireBit}
use Rattle.cell_types.specs.declared.kind.CellKind.{CellKind}
use Rattle.cell_types.specs.declared.kind.CellKind.TheVariants.{Gate, Memory, Storage, StorageGate, Word}
use Rattle.cell_types.specs.declared.shape.Shape.{Shape}
use Rattle.rtl_ir.specs.Faults.Cells.{is_memory_kind}
use Rattle.rtl_ir.specs.Flat.Cell.{Ports, cell_kind, cell_rows, cell_shape, cells_rows, kind_rows, stores}
use Rattle.rtl_ir.specs.Flat.Driver.{Driven, StorePoints}
use Rattle.rtl_ir.specs.Flat.Link as flat
use Rattle.rtl_ir.specs.Flat.Link.{link_rows}
use Rattle.rtl_ir.specs.Flat.Memory.{memories_rows}
use Rattle.rtl_ir.specs.Flat.Place.{Place}
use Rattle.rtl_ir.specs.Flat.Point.{bit_place, points}
use Rattle.rtl_ir.specs.Flat.Process.{processes_rows}
use Rattle.rtl_ir.specs.Flat.Rows.{plain_rows, rows_of}
use Rattle.rtl_ir.specs.Flat.Start.{start_of}
use Rattle.rtl_ir.specs.Follow.{all_joins, back, joins, source_at}
use Rattle.rtl_ir.specs.declared.follow.Join.{Join}
use Rattle.rtl_ir.specs.Signals.{same_bit, wire_bits}
use Rattle.rtl_ir.specs.declared.cell.Cell.{Cell}
use Rattle.rtl_ir.specs.declared.module.Link.{Link}
use Rattle.rtl_ir.specs.declared.module.Module.{Module}
use Rattle.rtl_ir.specs.declared.wire.Wire.{Wire}
use Rattle.net_model.proofs.Members.{In-left, In-map, In-right, apart_at, apart_from, map-append}
use Rattle.net_model.specs.Lists.{Distinct, In}
use Rattle.net_model.specs.Refine.{IsWellDriven, places_of}
use Rattle.pass_laws.proofs.Driving.{output_signal, own_driver, own_in, row_of}
use Rattle.pass_laws.proofs.Placing.{bits_places, outputs_places, places_more, points_places}
use Rattle.follow_laws.proofs.Following.{join_row, link_in, same_bit-same, source_in}

-- lists in which nothing stands twice, put together
pub distinct_left : {A : Type 0} (xs ys : List A) → Distinct (xs ++ ys) → Distinct xs
distinct_left [] ys h = tt
distinct_left (x ∷ xs) ys h =
    (apart_from x xs (λ y i e. apart_at x (xs ++ ys) h.0 y (In-left y xs ys i) e), distinct_left xs ys h.1)

pub distinct_right : {A : Type 0} (xs ys : List A) → Distinct (xs ++ ys) → Distinct ys
distinct_right [] ys h = h
distinct_right (x ∷ xs) ys h = distinct_right xs ys h.1

pub not_in_both : {A : Type 0} (xs ys : List A) → Distinct (xs ++ ys) → (x : A) → In x xs → In x ys → ⊥
not_in_both [] ys h x i j = i
not_in_both (y ∷ xs) ys h x (inl e) j = apart_at y (xs ++ ys) h.0 x (In-right x xs ys j) (sym e)
not_in_both (y ∷ xs) ys h x (inr i) j = not_in_both xs ys h.1 x i j

pub same_itself : (b : WireBit) → same_bit b b ≡ true
same_itself b = λ i. eq-eqb b.wire b.wire refl i && eq-eqb b.at b.at refl i

pub cell_there : (cells : List Cell) (at : ℕ) (c : Cell) → slice_get cells at ≡ Some c → In c cells
cell_there [] at c e = absurd (cc)
cell_there (x ∷ cells) zero c e = let same : c ≡ x = cc in inl same
cell_there (x ∷ cells) (suc at) c e = inr (cell_there cells at c e)

-- the places of connections are those of their joins
module _ (wires : List Wire) where
  abbrev pub place_at : WireBit → Place
  place_at b = bit_place [] wires b

  abbrev join_place : Join → Place
  join_place j = place_at j.bit

  joins_places : (left right : List SigBit) → places_of (flat.joins (points [] wires left) (points [] wires right)) ≡ map join_place (joins left right)
  joins_places [] right = refl
  joins_places (l ∷ left) [] = refl
  joins_places (Fixed c ∷ left) (r ∷ right) = joins_places left right
  joins_places (OnWire b ∷ left) (r ∷ right) = ap (λ z. place_at b ∷ z) (joins_places left right)

  links_join_places : (links : List Link) → places_of (link_rows [] wires links) ≡ map join_place (all_joins links)
  links_join_places [] = refl
  links_join_places (l ∷ links) =
      places_more (flat.joins (points [] wires l.left) (points [] wires l.right)) (link_rows [] wires links)
      ∙ (λ i. joins_places l.left l.right i ++ links_join_places links i)
      ∙ sym (map-append join_place (joins l.left l.right) (all_joins links))

  -- where each place is driven by one connection at most, a bit is given what its connection gives
  first_join : (js : List Join) → Distinct (map join_place js) → (j : Join) → In j js → source_at js j.bit ≡ Some j.source
  first_join [] h j i = absurd i
  first_join (k ∷ js) h j (inl e) =
      let here : same_bit k.bit j.bit ≡ true = ap (λ (z : Join). same_bit k.bit z.bit) e ∙ same_itself k.bit in
      ap (λ t. cond t (Some k.source) (source_at js j.bit)) here ∙ ap (λ (z : Join). Some z.source) (sym e)
  first_join (k ∷ js) h j (inr i) = by (same_bit k.bit j.bit) refl (first_join js h.1 j i)
    where
      by : (t : Bool) → same_bit k.bit j.bit ≡ t → source_at js j.bit ≡ Some j.source → cond t (Some k.source) (source_at js j.bit) ≡ Some j.source
      by true e later = absurd (apart_at (join_place k) (map join_place js) h.0 (join_place j) (In-map join_place j js i) (ap place_at (same_bit-same k.bit j.bit e)))
      by false e later = later

pub bit_there : (ys : List SigBit) (k : ℕ) (b : WireBit) → slice_get ys k ≡ Some (OnWire b) → In b (wire_bits ys)
bit_there [] k b e = absurd (cc)
bit_there (Fixed c ∷ ys) zero b e = absurd (cc)
bit_there (Fixed c ∷ ys) (suc k) b e = bit_there ys k b e
bit_there (OnWire x ∷ ys) zero b e = let same : b ≡ x = cc in inl same
bit_there (OnWire x ∷ ys) (suc k) b e = inr (bit_there ys k b e)

-- where no bit stands twice in a signal, it stands at one place
bit_once : (wires : List Wire) (ys : List SigBit) → Distinct (bits_places [] wires (wire_bits ys)) → (j k : ℕ) (b : WireBit) → slice_get ys j ≡ Some (OnWire b) → slice_get ys k ≡ Some (OnWire b) → j ≡ k
bit_once wires [] h j k b e f = absurd (cc)
bit_once wires (y ∷ ys) h zero zero b e f = refl
bit_once wires (Fixed c ∷ ys) h zero (suc k) b e f = absurd (cc)
bit_once wires (Fixed c ∷ ys) h (suc j) zero b e f = absurd (cc)
bit_once wires (Fixed c ∷ ys) h (suc j) (suc k) b e f = ap suc (bit_once wires ys h j k b e f)
bit_once wires (OnWire x ∷ ys) h zero (suc k) b e f =
    let same : x ≡ b = cc in
    absurd (apart_at (bit_place [] wires x) (bits_places [] wires (wire_bits ys)) h.0 (bit_place [] wires b) (In-map (bit_place [] wires) b (wire_bits ys) (bit_there ys k b f)) (ap (bit_place [] wires) same))
bit_once wires (OnWire x ∷ ys) h (suc j) zero b e f =
    let same : x ≡ b = cc in
    absurd (apart_at (bit_place [] wires x) (bits_places [] wires (wire_bits ys)) h.0 (bit_place [] wires b) (In-map (bit_place [] wires) b (wire_bits ys) (bit_there ys j b e)) (ap (bit_place [] wires) same))
bit_once wires (OnWire x ∷ ys) h (suc j) (suc k) b e f = ap suc (bit_once wires ys h.1 j k b e f)

module _ (over : Ports) (m : Module) (driven : IsWellDriven over m) where
  abbrev start : SigBit → Bit
  start = start_of m.wires m.processes

  abbrev of_cells : List Driven
  of_cells = cells_rows start over [] m.wires m.cells

  abbrev of_links : List Driven
  of_links = link_rows [] m.wires m.links

  abbrev rest : List Driven
  rest = plain_rows [] m

  all_once : Distinct (places_of of_cells ++ places_of rest)
  all_once = subst Distinct (places_more of_cells rest) (driven.rows [])

  links_once : Distinct (places_of of_links)
  links_once =
      let others : List Driven = processes_rows start [] m.wires m m.processes ++ memories_rows [] m.wires m.cells m.processes m.memories in
      distinct_left (places_of of_links) (places_of others)
      (subst Distinct (places_more of_links others) (distinct_right (places_of of_cells) (places_of rest) all_once))

  -- by two connections
  pub one_connection : (j : Join) → In j (all_joins m.links) → back (all_joins m.links) (OnWire j.bit) ≡ Some j.source
  one_connection j i =
      first_join m.wires (all_joins m.links) (subst Distinct (links_join_places m.wires m.links) links_once) j i

  row_place : (x : Driven) (rows : List Driven) → In x rows → In x.place (places_of rows)
  row_place x rows i = In-map (λ (y : Driven). y.place) x rows i

  -- a bit of the output of a cell has a row
  kind_place : (c : Cell) (kind : CellKind) → is_memory_kind kind ≡ false → (k : ℕ) (b : WireBit) → slice_get (output_signal c kind) k ≡ Some (OnWire b) → In (place_at m.wires b) (places_of (kind_rows start [] m.wires c kind))
  kind_place c kind plain k b e =
      row_place (row_of [] m.wires b (own_driver start [] m.wires c kind k b)) (kind_rows start [] m.wires c kind) (own_in [] m.wires start c kind plain k b e)

  abbrev rows_at : Cell → List Driven
  rows_at c = cell_rows start over [] m.wires c (cell_kind c)

  -- the cell drives a bit
  pub record Gives (c : Cell) (b : WireBit) : Type 0 where
    pub kind : CellKind
    pub own : cell_kind c ≡ Some kind
    pub plain : is_memory_kind kind ≡ false
    pub place : ℕ
    pub there : slice_get (output_signal c kind) place ≡ Some (OnWire b)

  given_place : (c : Cell) (b : WireBit) → Gives c b → In (place_at m.wires b) (places_of (rows_at c))
  given_place c b g =
      subst (λ o. In (place_at m.wires b) (places_of (cell_rows start over [] m.wires c o))) (sym g.own) (kind_place c g.kind g.plain g.place b g.there)

  among_cells : (cells : List Cell) (c : Cell) → In c cells → (q : Place) → In q (places_of (rows_at c)) → In q (places_of (cells_rows start over [] m.wires cells))
  among_cells [] c i q h = absurd i
  among_cells (d ∷ cells) c (inl e) q h =
      let here : In q (places_of (rows_at d)) = subst (λ (z : Cell). In q (places_of (rows_at z))) e h in
      subst (In q) (sym (places_more (rows_at d) (cells_rows start over [] m.wires cells))) (In-left q (places_of (rows_at d)) (places_of (cells_rows start over [] m.wires cells)) here)
  among_cells (d ∷ cells) c (inr i) q h =
      subst (In q) (sym (places_more (rows_at d) (cells_rows start over [] m.wires cells))) (In-right q (places_of (rows_at d)) (places_of (cells_rows start over [] m.wires cells)) (among_cells cells c i q h))

  -- by a cell and a connection
  pub no_connection : (c : Cell) → In c m.cells → (b : WireBit) → Gives c b → back (all_joins m.links) (OnWire b) ≡ None
  no_connection c i b g = by (source_at (all_joins m.links) b) refl
    where
      by : (o : Option SigBit) → source_at (all_joins m.links) b ≡ o → o ≡ None
      by None e = refl
      by (Some r) e =
          let j : Join = record { bit = b; source = r } in
          let row : In (join_row [] m.wires j) of_links = link_in [] m.wires m.links j (source_in (all_joins m.links) b r e) in
          let others : List Driven = processes_rows start [] m.wires m m.processes ++ memories_rows [] m.wires m.cells m.processes m.memories in
          absurd (not_in_both (places_of of_cells) (places_of rest) all_once (place_at m.wires b)
          (among_cells m.cells c i (place_at m.wires b) (given_place c b g))
          (row_place (join_row [] m.wires j) rest (In-left (join_row [] m.wires j) of_links others row)))

  -- by two cells
  two_cells : (cells : List Cell) → Distinct (places_of (cells_rows start over [] m.wires cells)) → (i j : ℕ) (c d : Cell) → slice_get cells i ≡ Some c → slice_get cells j ≡ Some d → (q : Place) → In q (places_of (rows_at c)) → In q (places_of (rows_at d)) → i ≡ j
  two_cells [] h i j c d e f q k l = absurd (cc)
  two_cells (x ∷ cells) h zero zero c d e f q k l = refl
  two_cells (x ∷ cells) h zero (suc j) c d e f q k l =
      let same : c ≡ x = cc in
      absurd (not_in_both (places_of (rows_at x)) (places_of (cells_rows start over [] m.wires cells)) (subst Distinct (places_more (rows_at x) (cells_rows start over [] m.wires cells)) h) q (subst (λ (z : Cell). In q (places_of (rows_at z))) same k) (among_cells cells d (cell_there cells j d f) q l))
  two_cells (x ∷ cells) h (suc i) zero c d e f q k l =
      let same : d ≡ x = cc in
      absurd (not_in_both (places_of (rows_at x)) (places_of (cells_rows start over [] m.wires cells)) (subst Distinct (places_more (rows_at x) (cells_rows start over [] m.wires cells)) h) q (subst (λ (z : Cell). In q (places_of (rows_at z))) same l) (among_cells cells c (cell_there cells i c e) q k))
  two_cells (x ∷ cells) h (suc i) (suc j) c d e f q k l =
      ap suc (two_cells cells (distinct_right (places_of (rows_at x)) (places_of (cells_rows start over [] m.wires cells)) (subst Distinct (places_more (rows_at x) (cells_rows start over [] m.wires cells)) h)) i j c d e f q k l)

  pub one_cell : (i j : ℕ) (c d : Cell) → slice_get m.cells i ≡ Some c → slice_get m.cells j ≡ Some d → (b : WireBit) → Gives c b → Gives d b → i ≡ j
  one_cell i j c d e f b g h =
      two_cells m.cells (distinct_left (places_of of_cells) (places_of rest) all_once) i j c d e f (place_at m.wires b) (given_place c b g) (given_place d b h)

  -- by two places of a cell
  cell_once : (cells : List Cell) (c : Cell) → In c cells → Distinct (places_of (cells_rows start over [] m.wires cells)) → Distinct (places_of (rows_at c))
  cell_once [] c i h = absurd i
  cell_once (d ∷ cells) c (inl e) h =
      subst (λ (z : Cell). Distinct (places_of (rows_at z))) (sym e)
      (distinct_left (places_of (rows_at d)) (places_of (cells_rows start over [] m.wires cells)) (subst Distinct (places_more (rows_at d) (cells_rows start over [] m.wires cells)) h))
  cell_once (d ∷ cells) c (inr i) h =
      cell_once cells c i
      (distinct_right (places_of (rows_at d)) (places_of (cells_rows start over [] m.wires cells)) (subst Distinct (places_more (rows_at d) (cells_rows start over [] m.wires cells)) h))

  stores_places : (shape : Shape) (reads : ℕ → StorePoints) (signal : List SigBit) (at : ℕ) → places_of (stores start shape reads signal (points [] m.wires signal) at) ≡ bits_places [] m.wires (wire_bits signal)
  stores_places shape reads [] at = refl
  stores_places shape reads (Fixed b ∷ signal) at = stores_places shape reads signal (suc at)
  stores_places shape reads (OnWire b ∷ signal) at = ap (λ z. place_at m.wires b ∷ z) (stores_places shape reads signal (suc at))

  kind_bits : (c : Cell) (kind : CellKind) → is_memory_kind kind ≡ false → places_of (kind_rows start [] m.wires c kind) ≡ bits_places [] m.wires (wire_bits (output_signal c kind))
  kind_bits c (Word kind) plain =
      outputs_places (cell_shape (Word kind) c.params) _ (points [] m.wires (output_signal c (Word kind))) 0
      ∙ points_places [] m.wires (output_signal c (Word kind))
  kind_bits c (Gate kind) plain =
      outputs_places (cell_shape (Gate kind) c.params) _ (points [] m.wires (output_signal c (Gate kind))) 0
      ∙ points_places [] m.wires (output_signal c (Gate kind))
  kind_bits c (Storage kind) plain = stores_places _ _ (output_signal c (Storage kind)) 0
  kind_bits c (StorageGate kind) plain = stores_places _ _ (output_signal c (StorageGate kind)) 0
  kind_bits c (Memory kind) plain = absurd (cc)

  pub one_bit : (c : Cell) → In c m.cells → (kind : CellKind) → cell_kind c ≡ Some kind → is_memory_kind kind ≡ false → (i j : ℕ) (b : WireBit) → slice_get (output_signal c kind) i ≡ Some (OnWire b) → slice_get (output_signal c kind) j ≡ Some (OnWire b) → i ≡ j
  one_bit c there kind own plain i j b e f =
      let here : Distinct (places_of (kind_rows start [] m.wires c kind)) = subst (λ o. Distinct (places_of (cell_rows start over [] m.wires c o))) own (cell_once m.cells c there (distinct_left (places_of of_cells) (places_of rest) all_once)) in
      bit_once m.wires (output_signal c kind) (subst Distinct (kind_bits c kind plain) here) i j b e f

  -- what a cell gives, and what a connection gives, has a row
  pub given_row : (c : Cell) → In c m.cells → (b : WireBit) → Gives c b → In (place_at m.wires b) (places_of (rows_of over [] m))
  given_row c i b g =
      subst (In (place_at m.wires b)) (sym (places_more of_cells rest))
      (In-left (place_at m.wires b) (places_of of_cells) (places_of rest) (among_cells m.cells c i (place_at m.wires b) (given_place c b g)))

  pub joined_row : (b : WireBit) (r : SigBit) → back (all_joins m.links) (OnWire b) ≡ Some r → In (place_at m.wires b) (places_of (rows_of over [] m))
  joined_row b r e =
      let j : Join = record { bit = b; source = r } in
      let others : List Driven = processes_rows start [] m.wires m m.processes ++ memories_rows [] m.wires m.cells m.processes m.memories in
      let row : In (join_row [] m.wires j) of_links = link_in [] m.wires m.links j (source_in (all_joins m.links) b r e) in
      row_place (join_row [] m.wires j) (rows_of over [] m) (In-right (join_row [] m.wires j) of_cells rest (In-left (join_row [] m.wires j) of_links others row))
