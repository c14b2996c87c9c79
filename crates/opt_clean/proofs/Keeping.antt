-- The cells that are kept, with the connections to what the outside sees, do what the module does.
use Rattle.std.proofs.Common.{◌≡◌, ℕ, zero, suc, ◌<◌, ◌≤◌, Bool, true, false, List, [], ◌∷◌, ◌++◌, length, Option, Some, None, ◌⊎◌, inl, inr, ⊎_elim, refl, sym, ◌∙◌, ap, subst, arith}
use Rattle.std.specs.Prelude.{map, flat_map, slice_get, ◌||◌, is_some}
use Rattle.std.specs.List.{list_any}
use Rattle.std.proofs.lemmas.Bool.{cases_lt, or_parts}
use Rattle.rtl_bits.specs.declared.bit.Bit.{Bit}
use Rattle.rtl_bits.specs.declared.bit.Bit.TheVariants.{S0, S1, X}
use Rattle.rtl_bits.specs.Knowledge.{Below}
use Rattle.rtl_bits.proofs.Orders.{Below_refl, Below_trans}
use Rattle.rtl_sig.specs.declared.sig.SigBit.{SigBit}
use Rattle.rtl_sig.specs.declared.sig.SigBit.TheVariants.{Fixed, Wire as OnWire}
use Rattle.rtl_sig.specs.declared.sig.WireBit.{WireBit}
use Rattle.cell_types.specs.declared.kind.CellKind.{CellKind}
use Rattle.cell_types.specs.declared.kind.CellKind.TheVariants.{Memory}
use Rattle.cell_types.specs.declared.memory.MemoryKind.TheVariants.{Memrd, MemrdV2}
use Rattle.cell_types.specs.declared.pin_name.PinName.TheVariants.{Data}
use Rattle.cell_types.specs.PinName.{pin_text}
use Rattle.rtl_ir.specs.declared.cell.Cell.{Cell}
use Rattle.rtl_ir.specs.declared.module.Link.{Link}
use Rattle.rtl_ir.specs.declared.module.Module.{Module}
use Rattle.rtl_ir.specs.declared.ports.PortLine.{PortLine}
use Rattle.rtl_ir.specs.declared.wire.Role.{Role}
use Rattle.rtl_ir.specs.declared.wire.Role.TheVariants.{Inner, Input, Output, Inout}
use Rattle.rtl_ir.specs.declared.wire.Wire.{Wire}
use Rattle.rtl_ir.specs.Faults.Wires.{is_inout}
use Rattle.rtl_ir.specs.Flat.Cell.{Ports, cell_kind, cell_rows, cells_rows, instance_of, instances, listed}
use Rattle.rtl_ir.specs.Flat.Driver.{Driven}
use Rattle.rtl_ir.specs.Flat.Link.{link_rows}
use Rattle.rtl_ir.specs.Flat.Place.{Frame, OfWire, OfWord, Path, Place, Spot}
use Rattle.rtl_ir.specs.Flat.Point.{At, bit_place, name_or_empty, pin_points, point}
use Rattle.rtl_ir.specs.Flat.Reads.{read_points, reads}
use Rattle.rtl_ir.specs.Flat.Rows.{plain_rows, rows_of}
use Rattle.rtl_ir.specs.Flat.Tree.{design_ports}
use Rattle.rtl_ir.specs.Flat.Start.{start_of}
use Rattle.rtl_ir.specs.Follow.{all_joins, source_at}
use Rattle.rtl_ir.specs.declared.follow.Join.{Join}
use Rattle.rtl_ir.specs.Outputs.{is_output, output_pin}
use Rattle.rtl_ir.specs.Ports.{is_port, line_of, ports_of}
use Rattle.rtl_ir.specs.Signals.{wire_bits}
use Rattle.rtl_ir.specs.Types as types
use Rattle.rtl_ir.specs.Types.{CellType, Library, cell_type}
use Rattle.rtl_ir.specs.Parameters.{signal_at}
use Rattle.std.specs.Option.{option_map_or}
use Rattle.cell_types.specs.Unsupported.{is_unsupported}
use Rattle.rtl_ir.specs.Types.{type_by}
use Rattle.rtl_ir.specs.Flat.Memory.{is_read_kind, memories_rows}
use Rattle.rtl_ir.specs.Flat.Process.{processes_rows}
use Rattle.rtl_ir.specs.Outputs.{drives_pin}
use Rattle.rtl_ir.specs.declared.cell.Pin.{Pin}
use Rattle.rtl_ir.specs.declared.process.Process.{Process}
use Rattle.std.specs.Prelude.{if◌then◌else◌}
use Rattle.net_model.specs.Lists.{In, Distinct}
use Rattle.net_model.specs.Refine.{AgreeOn, IsWellDriven, RefinesOver, Solved, places_of, with_body}
use Rattle.net_model.specs.Relate.{IsBitOf, KeepsTo, Reached, Related, RowsRelate, SameMoment, Says}
use Rattle.net_model.specs.Run.{Time}
use Rattle.net_model.specs.Valuation.{Valuation, read, passed_of}
use Rattle.net_model.specs.Value.{value_of}
use Rattle.net_model.proofs.Lifted.{related, row_stays}
use Rattle.net_model.proofs.Members.{In-cases, In-left, In-map, In-mapped, In-right, apart_at, apart_from, map-append, map-map}
use Rattle.net_model.proofs.Relating.{reached_solved}
use Rattle.net_model.specs.Within.{Each}
use Rattle.pass_laws.specs.Bits.{cells_bits, links_bits, pin_bits}
use Rattle.pass_laws.specs.Replaces.{IsOutside}
use Rattle.opt_clean.specs.Keep.{is_root, is_shown, is_shown_bit, output_bits, stays_by}
use Rattle.rtl_ir.specs.Attributes.{is_kept}
use Rattle.opt_clean.specs.Kept.{bits_read, input_bits, marked, read_bits, right_bits}
use Rattle.opt_clean.specs.Runs.{is_connected, links_of, shown_links, source_of}
use Rattle.opt_clean.specs.Wires.{cell_bits, link_bits, named_bits}
use Rattle.opt_clean.proofs.Bits.{flat_in, in_flat, none_any}
use Rattle.pass_laws.proofs.CellReads.{IsPinOf, cell_reads, driven_bits, drives_output, in_places, kind_row, pins_of, point_bit, signal_bits}
use Rattle.opt_clean.proofs.Joins.{join_row, joins_rows, lefts_in, only_source, rights_in, source_in}
use Rattle.opt_clean.proofs.Marks.{mark_cases, marked_give, marked_in, others, others_in}
use Rattle.opt_clean.proofs.Memories.{IsWord, memories_stay, memory_row}
use Rattle.opt_clean.proofs.Ports.{same_place, some_at}
use Rattle.opt_clean.proofs.Rounds.{IsClosed}
use Rattle.opt_clean.proofs.Showing.{in_sources, row_from, shown_bits, shown_has, shown_rights, shown_rows}
use Rattle.opt_clean.proofs.Ways.{origin, origin_here, origin_on, origin_or, origin_wire}
use Rattle.pass_laws.proofs.Finding.{in_place}
use Rattle.pass_laws.proofs.Ports.{line_port, port_line, same_item}

-- the wire that a bit names
pub record Home (wires : List Wire) (b : WireBit) : Type 0 where
  pub of : Wire
  pub there : slice_get wires b.wire ≡ Some of

-- the module with the marked cells and other connections
abbrev pub with_marked : List Bool → List Link → Module → Module
with_marked marks links m = record m { cells = marked marks m.cells; links = links }

-- what is relied on of a module of which the marked cells are kept
pub record MayReduce (ports : types.Ports) (m : Module) (marks : List Bool) : Type 0 where
  pub processes : m.processes ≡ []
  pub named : Distinct (map (λ (w : Wire). w.name) m.wires)
  pub homes : (b : WireBit) → In b (named_bits m) → Home m.wires b
  pub single : (w : Wire) → In w m.wires → is_inout w.role ≡ false
  -- no bit is driven by a cell and by a connection, or by a cell that is kept and one that is not
  pub linked : (b : WireBit) → In b (cells_bits ports m.cells) → In b (links_bits m.links) → ⊥
  pub apart : (b : WireBit) → In b (cells_bits ports (marked marks m.cells)) → In b (cells_bits ports (others marks m.cells)) → ⊥
  -- what cells read is followed already
  pub followed : (c : Cell) → In c m.cells → (b : WireBit) → In b (input_bits ports c) → source_of m.links b ≡ OnWire b
  pub closed : IsClosed ports m.wires (links_of m.wires m.links) m.cells marks

passed_below : (a : Bit) → Below (passed_of a) a
passed_below S0 = refl
passed_below S1 = refl
passed_below a = tt

passed_kept : (a b : Bit) → Below a b → Below (passed_of a) (passed_of b)
passed_kept S0 b h = ap passed_of h
passed_kept S1 b h = ap passed_of h
passed_kept a b h = tt

below_x : (a b : Bit) → Below a X → Below a b
below_x S0 b h = absurd (cc)
below_x S1 b h = absurd (cc)
below_x a b h = tt

not_longer : (f : Frame) (p : Path) → f ∷ p ≡ p → ⊥
not_longer f p e = let n : length (f ∷ p) ≡ length p = ap length e in absurd (omega arith)

pub parts_apart : {A : Type 0} (xs ys : List A) → Distinct (xs ++ ys) → (x : A) → In x xs → In x ys → ⊥
parts_apart [] ys h x i j = absurd i
parts_apart (z ∷ xs) ys h x (inl e) j = apart_at z (xs ++ ys) h.0 x (In-right x xs ys j) (sym e)
parts_apart (z ∷ xs) ys h x (inr i) j = parts_apart xs ys h.1 x i j

pub right_part : {A : Type 0} (xs ys : List A) → Distinct (xs ++ ys) → Distinct ys
right_part [] ys h = h
right_part (z ∷ xs) ys h = right_part xs ys h.1

pub left_part : {A : Type 0} (xs ys : List A) → Distinct (xs ++ ys) → Distinct xs
left_part [] ys h = tt
left_part (z ∷ xs) ys h = (apart_from z xs (λ y i. apart_at z (xs ++ ys) h.0 y (In-left y xs ys i)), left_part xs ys h.1)

-- each row of cells is one of a cell
pub cells_row : (start : SigBit → Bit) (ports : Ports) (p : Path) (wires : List Wire) (cs : List Cell) (x : Driven) → In x (cells_rows start ports p wires cs) → (c : Cell) × In c cs × In x (cell_rows start ports p wires c (cell_kind c))
cells_row start ports p wires [] x i = absurd i
cells_row start ports p wires (c ∷ cs) x i =
    ⊎_elim
    (λ l. (c, inl refl, l))
    (λ r. let k = cells_row start ports p wires cs x r in (k.0, inr k.1, k.2))
    (In-cases x (cell_rows start ports p wires c (cell_kind c)) (cells_rows start ports p wires cs) i)

pub row_cells : (start : SigBit → Bit) (ports : Ports) (p : Path) (wires : List Wire) (cs : List Cell) (c : Cell) (x : Driven) → In c cs → In x (cell_rows start ports p wires c (cell_kind c)) → In x (cells_rows start ports p wires cs)
row_cells start ports p wires [] c x i j = absurd i
row_cells start ports p wires (d ∷ cs) c x (inl e) j =
    In-left x (cell_rows start ports p wires d (cell_kind d)) (cells_rows start ports p wires cs) (subst (λ z. In x (cell_rows start ports p wires z (cell_kind z))) e j)
row_cells start ports p wires (d ∷ cs) c x (inr i) j =
    In-right x (cell_rows start ports p wires d (cell_kind d)) (cells_rows start ports p wires cs) (row_cells start ports p wires cs c x i j)

frames_in : (cs : List Cell) (c : Cell) → In c cs → (f : Frame) → In f (listed (instance_of c (cell_kind c))) → In f (instances cs)
frames_in [] c i f j = absurd i
frames_in (d ∷ cs) c (inl e) f j =
    In-left f (listed (instance_of d (cell_kind d))) (instances cs) (subst (λ z. In f (listed (instance_of z (cell_kind z)))) e j)
frames_in (d ∷ cs) c (inr i) f j = In-right f (listed (instance_of d (cell_kind d))) (instances cs) (frames_in cs c i f j)

-- the type of a cell of the library
type_is : (ports : types.Ports) (c : Cell) (kind : CellKind) → cell_kind c ≡ Some kind → cell_type ports c.kind_name ≡ Library kind
unfolding cell_type cell_kind
type_is ports c kind e = ap (λ k. type_by k (ports c.kind_name) (is_unsupported c.kind_name)) e

-- a cell that reads a memory drives its pin DATA
read_output : (ports : types.Ports) (c : Cell) → is_read_kind (cell_kind c) ≡ true → (b : WireBit) → In b (wire_bits (signal_at c.pins (pin_text Data))) → In b (output_bits ports c)
read_output ports c reads b i = by (cell_kind c) refl reads
  where
    of_kind : (kind : CellKind) → cell_kind c ≡ Some kind → output_pin kind ≡ Some Data → In b (output_bits ports c)
    of_kind kind own drives =
        subst (λ t. In b (pin_bits t c.pins)) (sym (type_is ports c kind own)) (driven_bits (Library kind) c.pins (pin_text Data) (drives_output kind Data drives) b i)

    by : (k : Option CellKind) → cell_kind c ≡ k → is_read_kind k ≡ true → In b (output_bits ports c)
    by (Some (Memory Memrd)) own e = of_kind (Memory Memrd) own refl
    by (Some (Memory MemrdV2)) own e = of_kind (Memory MemrdV2) own refl
    by k own e = absurd (cc)

-- the bits of pins are read or driven
in_or_out : (type : CellType) (pins : List Pin) (b : WireBit) → In b (flat_map (λ (p : Pin). wire_bits p.sig) pins) → In b (read_bits type pins) ⊎ In b (pin_bits type pins)
in_or_out type [] b i = absurd i
in_or_out type (p ∷ pins) b i = by (drives_pin type p.name) (in_or_out type pins b) (In-cases b (wire_bits p.sig) (flat_map (λ (q : Pin). wire_bits q.sig) pins) i)
  where
    by : (t : Bool) → (In b (flat_map (λ (q : Pin). wire_bits q.sig) pins) → In b (read_bits type pins) ⊎ In b (pin_bits type pins)) → In b (wire_bits p.sig) ⊎ In b (flat_map (λ (q : Pin). wire_bits q.sig) pins) → In b ((if t then [] else wire_bits p.sig) ++ read_bits type pins) ⊎ In b ((if t then wire_bits p.sig else []) ++ pin_bits type pins)
    by true later (inl j) = inr (In-left b (wire_bits p.sig) (pin_bits type pins) j)
    by true later (inr j) = ⊎_elim (λ l. inl l) (λ r. inr (In-right b (wire_bits p.sig) (pin_bits type pins) r)) (later j)
    by false later (inl j) = inl (In-left b (wire_bits p.sig) (read_bits type pins) j)
    by false later (inr j) = ⊎_elim (λ l. inl (In-right b (wire_bits p.sig) (read_bits type pins) l)) (λ r. inr r) (later j)

-- a module without processes
pub plain_links : (p : Path) (n : Module) → n.processes ≡ [] → plain_rows p n ≡ link_rows p n.wires n.links ++ memories_rows p n.wires n.cells [] n.memories
plain_links p n e = by n.processes e
  where
    by : (ps : List Process) → ps ≡ [] → link_rows p n.wires n.links ++ (processes_rows (start_of n.wires n.processes) p n.wires n ps ++ memories_rows p n.wires n.cells ps n.memories) ≡ link_rows p n.wires n.links ++ memories_rows p n.wires n.cells [] n.memories
    by [] e = refl
    by (q ∷ ps) e = absurd (cc)

not_word : (wire name : List ℕ) (i address j : ℕ) → OfWire wire i ≡ OfWord name address j → ⊥
not_word wire name i address j e = cc

abbrev own_instance : Cell → List Frame
own_instance c = listed (instance_of c (cell_kind c))

instances_are : (cs : List Cell) → instances cs ≡ flat_map own_instance cs
instances_are [] = refl
instances_are (c ∷ cs) = ap (λ z. listed (instance_of c (cell_kind c)) ++ z) (instances_are cs)

agree_self : (ports : Ports) (frames : List Frame) → AgreeOn ports ports frames
agree_self ports [] = tt
agree_self ports (f ∷ frames) = (refl, agree_self ports frames)

module _ (tports : types.Ports) (m : Module) (marks : List Bool) (fine : MayReduce tports m marks) where
  abbrev pub js : List Join
  js = all_joins m.links

  -- where a bit comes from
  abbrev pub from : WireBit → SigBit
  from b = origin js (OnWire b)

  abbrev is_driven : WireBit → Bool
  is_driven b = is_connected m.links b

  -- the connections, with x for loops
  abbrev pub x_links : List Link
  x_links = shown_links is_driven from 0 m.wires

  abbrev pub target : Module
  target = with_marked marks x_links m

  -- a cell that goes drives the bit
  abbrev pub IsGone : WireBit → Type 0
  IsGone b = In b (cells_bits tports (others marks m.cells))

  abbrev pub IsLive : SigBit → Type 0
  IsLive (Fixed c) = Unit {0}
  IsLive (OnWire b) = IsGone b → ⊥

  -- the spot is a bit that a port has
  abbrev pub OfPort : PortLine → Spot → Type 0
  OfPort n s = In n (ports_of m.wires) × IsBitOf n s

  -- the spot is that of a bit of a wire
  pub record IsAt (b : WireBit) (s : Spot) : Type 0 where
    pub within : b.wire < length m.wires
    pub is : s ≡ OfWire (name_or_empty (slice_get m.wires b.wire)) b.at

  -- of a port and of a word: below; of any other bit: below what it comes from, unless that goes
  pub record KeptSays (p : Path) (w : Valuation) (s : Spot) (a : Bit) : Type 0 where
    pub port : (n : PortLine) → OfPort n s → Below a (w (record { path = p; spot = s }))
    pub other :
        ((n : PortLine) → OfPort n s → ⊥) → (b : WireBit) → IsAt b s → IsLive (from b) →
        Below a (read w (point p m.wires (from b)))
    pub word :
        (name : List ℕ) (address at : ℕ) → s ≡ OfWord name address at → Below a (w (record { path = p; spot = s }))

  abbrev pub kept_says : Says
  kept_says p w s a = KeptSays p w s a

  -- a bit is one that a port has, or is of no port
  port_or : (w : Wire) → In w m.wires → (at : ℕ) → ((n : PortLine) → OfPort n (OfWire w.name at) → ⊥) ⊎ ((is_port w.role ≡ true) × (at < w.width))
  port_or w i at = by (is_port w.role) refl (cases_lt at w.width)
    where
      its_wire : (n : PortLine) → OfPort n (OfWire w.name at) → (is_port w.role ≡ true) × (at < w.width)
      its_wire n of =
          let k = line_port m.wires n of.0 in
          let spot : OfWire w.name at ≡ OfWire n.name of.1.0 = of.1.2 in
          let name : w.name ≡ n.name = cc in
          let place : at ≡ of.1.0 = cc in
          let names : w.name ≡ k.0.name = name ∙ ap (λ (z : PortLine). z.name) k.3 in
          let same : w ≡ k.0 = same_item (λ (z : Wire). z.name) m.wires fine.named w k.0 i k.1 names in
          let width : n.width ≡ w.width = ap (λ (z : PortLine). z.width) k.3 ∙ ap (λ (z : Wire). z.width) (sym same) in
          (ap (λ (z : Wire). is_port z.role) same ∙ k.2, omega (arith, place, of.1.1, width))

      by : (t : Bool) → is_port w.role ≡ t → (at < w.width) ⊎ (w.width ≤ at) → ((n : PortLine) → OfPort n (OfWire w.name at) → ⊥) ⊎ ((is_port w.role ≡ true) × (at < w.width))
      by true e (inl l) = inr (e, l)
      by true e (inr l) = inl (λ n of. let inside = (its_wire n of).1 in absurd (omega (arith, inside, l)))
      by false e l = inl (λ n of. let no : true ≡ false = sym (its_wire n of).0 ∙ e in absurd (cc))

  -- a bit of a module has one spot
  pub one_spot : (p : Path) (b c : WireBit) → b.wire < length m.wires → c.wire < length m.wires → bit_place p m.wires b ≡ bit_place p m.wires c → b ≡ c
  one_spot p b c h k e =
      let v = some_at m.wires b.wire h in
      let w = some_at m.wires c.wire k in
      let spots : OfWire (name_or_empty (slice_get m.wires b.wire)) b.at ≡ OfWire (name_or_empty (slice_get m.wires c.wire)) c.at = ap (λ (q : Place). q.spot) e in
      let names : name_or_empty (slice_get m.wires b.wire) ≡ name_or_empty (slice_get m.wires c.wire) = cc in
      let at : b.at ≡ c.at = cc in
      let named : v.0.name ≡ w.0.name = sym (ap name_or_empty v.1) ∙ names ∙ ap name_or_empty w.1 in
      let wire : b.wire ≡ c.wire = same_place (λ (z : Wire). z.name) m.wires fine.named b.wire c.wire v.0 w.0 v.1 w.1 named in
      λ i. record { wire = wire i; at = at i }

  pub in_length : (b : WireBit) → Home m.wires b → b.wire < length m.wires
  in_length b home = short m.wires b.wire home.there
    where
      short : (ws : List Wire) (k : ℕ) → slice_get ws k ≡ Some home.of → k < length ws
      short [] k e = absurd (cc)
      short (w ∷ ws) zero e = omega arith
      short (w ∷ ws) (suc k) e = omega (arith, short ws k e)

  -- the bits of cells and of connections are named
  cell_named : (c : Cell) → In c m.cells → (b : WireBit) → In b (cell_bits c) → In b (named_bits m)
  cell_named c i b j = In-left b (flat_map cell_bits m.cells) (flat_map link_bits m.links) (in_flat cell_bits m.cells c b i j)

  pub left_named : (b : WireBit) → In b (links_bits m.links) → In b (named_bits m)
  left_named b i =
      let k = flat_in (λ (l : Link). wire_bits l.left) m.links b i in
      In-right b (flat_map cell_bits m.cells) (flat_map link_bits m.links) (in_flat link_bits m.links k.0 b k.1 (In-left b (wire_bits k.0.left) (wire_bits k.0.right) k.2))

  pub right_named : (b : WireBit) → In b (right_bits m.links) → In b (named_bits m)
  right_named b i =
      let k = flat_in (λ (l : Link). wire_bits l.right) m.links b i in
      In-right b (flat_map cell_bits m.cells) (flat_map link_bits m.links) (in_flat link_bits m.links k.0 b k.1 (In-right b (wire_bits k.0.left) (wire_bits k.0.right) k.2))

  -- a bit that a cell drives comes from itself
  own_from : (b : WireBit) → source_at js b ≡ None → from b ≡ OnWire b
  own_from b e = origin_here js (OnWire b) e

  no_source : (b : WireBit) → (In b (links_bits m.links) → ⊥) → source_at js b ≡ None
  no_source b h = by (source_at js b) refl
    where
      by : (o : Option SigBit) → source_at js b ≡ o → source_at js b ≡ None
      by None e = e
      by (Some r) e = absurd (h (lefts_in m.links (record { bit = b; source = r }) (source_in js b r e)))

  output_alone : (c : Cell) → In c m.cells → (b : WireBit) → In b (output_bits tports c) → from b ≡ OnWire b
  output_alone c i b j =
      own_from b (no_source b (λ l. fine.linked b (in_flat (output_bits tports) m.cells c b i j) l))

  -- what a cell that is kept reads, or drives, is live
  output_live : (c : Cell) → In c (marked marks m.cells) → (b : WireBit) → In b (output_bits tports c) → IsGone b → ⊥
  output_live c i b j gone = fine.apart b (in_flat (output_bits tports) (marked marks m.cells) c b i j) gone

  read_live : (b : WireBit) → In b (bits_read tports (links_of m.wires m.links) (marked marks m.cells)) → IsGone b → ⊥
  read_live b i gone =
      let k = flat_in (output_bits tports) (others marks m.cells) b gone in
      fine.closed.read k.0 k.1 b k.2 i

  input_live : (c : Cell) → In c (marked marks m.cells) → (b : WireBit) → In b (input_bits tports c) → IsGone b → ⊥
  input_live c i b j =
      read_live b (In-right b (right_bits (links_of m.wires m.links)) (flat_map (input_bits tports) (marked marks m.cells)) (in_flat (input_bits tports) (marked marks m.cells) c b i j))

  -- a cell that goes is no instance, and none of a memory
  gone_by : (c : Cell) → In c (others marks m.cells) → stays_by (cell_kind c) ≡ false
  gone_by c i =
      (or_parts (stays_by (cell_kind c)) (is_kept c.attributes || list_any (is_shown_bit m.wires) (output_bits tports c)) (fine.closed.root c i)).0

  pub gone_outside : Each IsOutside (others marks m.cells)
  gone_outside c i kind own = sym (ap stays_by own) ∙ gone_by c i

  -- the rows of the memories, which are the same of the kept cells
  abbrev pub stored : Path → List Driven
  stored p = memories_rows p m.wires m.cells [] m.memories

  pub kept_stored : (p : Path) → memories_rows p m.wires (marked marks m.cells) [] m.memories ≡ stored p
  kept_stored p = memories_stay marks m.cells gone_outside p m.wires [] m.memories

  -- what a bit comes from that a kept cell has at a pin
  pin_from : (c : Cell) → In c (marked marks m.cells) → (b : WireBit) → In b (cell_bits c) → ((from b ≡ OnWire b) × (IsGone b → ⊥)) ⊎ (from b ≡ Fixed X)
  pin_from c i b j =
      ⊎_elim
      (λ read. ⊎_elim
      (λ e. inl (e ∙ fine.followed c (marked_in marks m.cells c i) b read, input_live c i b read))
      (λ e. inr e)
      (origin_or js (OnWire b)))
      (λ out. inl (output_alone c (marked_in marks m.cells c i) b out, output_live c i b out))
      (in_or_out (cell_type tports c.kind_name) c.pins b j)

  -- what is said of a bit that a kept cell has at a pin is that it is below
  means : (p : Path) (z : Valuation) (c : Cell) → In c (marked marks m.cells) → (b : WireBit) → In b (cell_bits c) → (a : Bit) → KeptSays p z (OfWire (name_or_empty (slice_get m.wires b.wire)) b.at) a → Below a (z (bit_place p m.wires b))
  means p z c i b j a says =
      let home : Home m.wires b = fine.homes b (cell_named c (marked_in marks m.cells c i) b j) in
      let spot : OfWire (name_or_empty (slice_get m.wires b.wire)) b.at ≡ OfWire home.of.name b.at = ap (λ o. OfWire (name_or_empty o) b.at) home.there in
      ⊎_elim
      (λ none. ⊎_elim
      (λ e. subst (λ r. Below a (read z (point p m.wires r))) e.0 (says.other (λ n of. none n (subst (OfPort n) spot of)) b (record { within = in_length b home; is = refl }) (subst IsLive (sym e.0) e.1)))
      (λ e. below_x a (z (bit_place p m.wires b)) (subst (λ r. Below a (read z (point p m.wires r))) e (says.other (λ n of. none n (subst (OfPort n) spot of)) b (record { within = in_length b home; is = refl }) (subst IsLive (sym e) tt))))
      (pin_from c i b j))
      (λ e. says.port (line_of home.of) (port_line m.wires home.of (in_place m.wires b.wire home.of home.there) e.0, (b.at, e.1, spot)))
      (port_or home.of (in_place m.wires b.wire home.of home.there) b.at)

  pin_below : (p : Path) (z : Valuation) (c : Cell) → In c (marked marks m.cells) → (q : Place) → IsPinOf p m.wires c q → (a : Bit) → KeptSays p z q.spot a → Below a (z q)
  pin_below p z c i q pin a says =
      let spot : q.spot ≡ OfWire (name_or_empty (slice_get m.wires pin.0.wire)) pin.0.at = ap (λ (y : Place). y.spot) pin.2 in
      subst (λ y. Below a (z y)) (sym pin.2) (means p z c i pin.0 pin.1 a (subst (λ y. KeptSays p z y a) spot says))

  -- what the rows of memories read: pins of kept cells, and words
  abbrev IsRead : Path → Place → Type 0
  IsRead p q = ((c : Cell) × In c (marked marks m.cells) × IsPinOf p m.wires c q) ⊎ IsWord p q

  -- a bit at a spot of a port is one that the port has
  named_port : (b : WireBit) (home : Home m.wires b) (n : PortLine) → OfPort n (OfWire (name_or_empty (slice_get m.wires b.wire)) b.at) → (is_port home.of.role ≡ true) × (b.at < home.of.width)
  named_port b home n of =
      let spot : OfWire (name_or_empty (slice_get m.wires b.wire)) b.at ≡ OfWire home.of.name b.at = ap (λ o. OfWire (name_or_empty o) b.at) home.there in
      ⊎_elim
      (λ none. absurd (none n (subst (OfPort n) spot of)))
      (λ e. e)
      (port_or home.of (in_place m.wires b.wire home.of home.there) b.at)

  -- what a connected bit comes from that the outside sees is live
  shown_live : (b : WireBit) (r : SigBit) (home : Home m.wires b) → b.at < home.of.width → source_at js b ≡ Some r → is_shown home.of ≡ true → IsLive (from b)
  unfolding links_of
  shown_live b r home inside e shown = by (from b) refl
    where
      by : (z : SigBit) → from b ≡ z → IsLive z
      by (Fixed c) f = tt
      by (OnWire d) f =
          let here : In b (shown_bits is_driven 0 m.wires) = shown_has is_driven 0 m.wires b (record { place = b.wire; of = home.of; there = home.there; is = omega arith; shown = shown; inside = inside; fit = ap is_some e }) in
          let follows : source_of m.links b ≡ OnWire d = origin_wire js (OnWire b) d f in
          let right : In d (right_bits (links_of m.wires m.links)) = subst (In d) (sym (shown_rights is_driven (source_of m.links) 0 m.wires)) (in_sources (source_of m.links) (shown_bits is_driven 0 m.wires) b d here follows) in
          read_live d (In-left d (right_bits (links_of m.wires m.links)) (flat_map (input_bits tports) (marked marks m.cells)) right)

  module _ (ports : Ports) (p : Path) (driven : IsWellDriven ports m) where
    abbrev start : SigBit → Bit
    start = start_of m.wires m.processes

    abbrev before : List Driven
    before = rows_of ports p m

    abbrev after : List Driven
    after = rows_of ports p target

    plain_is : plain_rows p m ≡ link_rows p m.wires m.links ++ stored p
    plain_is = plain_links p m fine.processes

    plain_after : plain_rows p target ≡ link_rows p m.wires x_links ++ stored p
    plain_after =
        plain_links p target fine.processes ∙ ap (λ z. link_rows p m.wires x_links ++ z) (kept_stored p)

    abbrev of_cells : List Place
    of_cells = places_of (cells_rows start ports p m.wires m.cells)

    abbrev of_links : List Place
    of_links = places_of (link_rows p m.wires m.links)

    all_apart : Distinct (of_cells ++ (of_links ++ places_of (stored p)))
    all_apart =
        subst (λ z. Distinct (of_cells ++ z)) (ap places_of plain_is ∙ map-append (λ (x : Driven). x.place) (link_rows p m.wires m.links) (stored p)) (subst Distinct (map-append (λ (x : Driven). x.place) (cells_rows start ports p m.wires m.cells) (plain_rows p m)) (driven.rows p))

    pub join_in : (j : Join) → In j js → In (join_row p m.wires j) (link_rows p m.wires m.links)
    join_in j i = subst (In (join_row p m.wires j)) (sym (joins_rows p m.wires m.links)) (In-map (join_row p m.wires) j js i)

    pub row_in : (j : Join) → In j js → In (join_row p m.wires j) before
    row_in j i = In-right (join_row p m.wires j) (cells_rows start ports p m.wires m.cells) (plain_rows p m) (subst (In (join_row p m.wires j)) (sym plain_is) (In-left (join_row p m.wires j) (link_rows p m.wires m.links) (stored p) (join_in j i)))

    -- a bit that a row of a cell has is driven by no connection
    pub alone : (x : Driven) (b : WireBit) → In x (cells_rows start ports p m.wires m.cells) → x.place ≡ bit_place p m.wires b → source_at js b ≡ None
    alone x b i e = by (source_at js b) refl
      where
        by : (o : Option SigBit) → source_at js b ≡ o → source_at js b ≡ None
        by None f = f
        by (Some r) f =
            absurd (parts_apart of_cells (of_links ++ places_of (stored p)) all_apart (bit_place p m.wires b) (subst (λ q. In q of_cells) e (In-map (λ (z : Driven). z.place) x (cells_rows start ports p m.wires m.cells) i)) (In-left (bit_place p m.wires b) of_links (places_of (stored p)) (In-map (λ (z : Driven). z.place) (join_row p m.wires (record { bit = b; source = r })) (link_rows p m.wires m.links) (join_in (record { bit = b; source = r }) (source_in js b r f)))))

    -- the connection of a bit is the only one
    sole : (j : Join) → In j js → source_at js j.bit ≡ Some j.source
    sole j i =
        let links : Distinct of_links = left_part of_links (places_of (stored p)) (right_part of_cells (of_links ++ places_of (stored p)) all_apart) in
        only_source p m.wires js (subst Distinct (ap places_of (joins_rows p m.wires m.links) ∙ map-map (join_row p m.wires) (λ (z : Driven). z.place) js) links) j i

    -- no row has a bit of an input port
    dry : (x : Driven) (b : WireBit) (w : Wire) → In x before → x.place ≡ bit_place p m.wires b → slice_get m.wires b.wire ≡ Some w → w.role ≡ Input → ⊥
    dry x b w i at e role =
        let port : is_port w.role ≡ true = ap is_port role in
        driven.apart p x i (ap (λ (q : Place). q.path) at) (line_of w) (port_line m.wires w (in_place m.wires b.wire w e) port) role (b.at, ap (λ (q : Place). q.spot) at ∙ ap (λ o. OfWire (name_or_empty o) b.at) e)

    -- a bit of a port that a row has is one that the outside sees
    seen : (x : Driven) (b : WireBit) (w : Wire) → In x before → x.place ≡ bit_place p m.wires b → slice_get m.wires b.wire ≡ Some w → is_port w.role ≡ true → is_shown w ≡ true
    seen x b w i at e port = by w.role refl port
      where
        by : (r : Role) → w.role ≡ r → is_port r ≡ true → is_shown w ≡ true
        by Inner f g = absurd (cc)
        by Input f g = absurd (dry x b w i at e f)
        by Output f g = ap (λ r. is_output r || is_kept w.attributes) f
        by Inout f g = let no : true ≡ false = sym (ap is_inout f) ∙ fine.single w (in_place m.wires b.wire w e) in absurd (cc)

    -- a connected bit that the outside sees has its row
    x_row : (b : WireBit) (r : SigBit) (home : Home m.wires b) → b.at < home.of.width → source_at js b ≡ Some r → is_shown home.of ≡ true → In (row_from p m.wires from b) after
    x_row b r home inside e shown =
        let here : In b (shown_bits is_driven 0 m.wires) = shown_has is_driven 0 m.wires b (record { place = b.wire; of = home.of; there = home.there; is = omega arith; shown = shown; inside = inside; fit = ap is_some e }) in
        let link : In (row_from p m.wires from b) (link_rows p m.wires x_links) = subst (In (row_from p m.wires from b)) (sym (shown_rows p m.wires is_driven from 0 m.wires)) (In-map (row_from p m.wires from) b (shown_bits is_driven 0 m.wires) here) in
        In-right (row_from p m.wires from b) (cells_rows start ports p m.wires (marked marks m.cells)) (plain_rows p target) (subst (In (row_from p m.wires from b)) (sym plain_after) (In-left (row_from p m.wires from b) (link_rows p m.wires x_links) (stored p) link))

    module _ (u : Time Place) (v w : Valuation) (s : Solved after u w) (h : Related ports (instances m.cells) kept_says p v w) where
      -- a bit is below what it comes from
      bit_below : (b : WireBit) → Home m.wires b → IsLive (from b) → Below (v (bit_place p m.wires b)) (read w (point p m.wires (from b)))
      bit_below b home live =
          let spot : OfWire (name_or_empty (slice_get m.wires b.wire)) b.at ≡ OfWire home.of.name b.at = ap (λ o. OfWire (name_or_empty o) b.at) home.there in
          let here : In home.of m.wires = in_place m.wires b.wire home.of home.there in
          let says : KeptSays p w (OfWire (name_or_empty (slice_get m.wires b.wire)) b.at) (v (bit_place p m.wires b)) = h.own (OfWire (name_or_empty (slice_get m.wires b.wire)) b.at) in
          ⊎_elim
          (λ none. says.other (λ n of. none n (subst (OfPort n) spot of)) b (record { within = in_length b home; is = refl }) live)
          (λ port. by port.0 port.1 (says.port (line_of home.of) (port_line m.wires home.of here port.0, (b.at, port.1, spot))) (source_at js b) refl)
          (port_or home.of here b.at)
        where
          by : is_port home.of.role ≡ true → b.at < home.of.width → Below (v (bit_place p m.wires b)) (w (bit_place p m.wires b)) → (o : Option SigBit) → source_at js b ≡ o → Below (v (bit_place p m.wires b)) (read w (point p m.wires (from b)))
          by port inside low None e = subst (λ r. Below (v (bit_place p m.wires b)) (read w (point p m.wires r))) (sym (own_from b e)) low
          by port inside low (Some r) e =
              let shown : is_shown home.of ≡ true = seen (join_row p m.wires (record { bit = b; source = r })) b home.of (row_in (record { bit = b; source = r }) (source_in js b r e)) refl home.there port in
              let tight : Below (w (bit_place p m.wires b)) (passed_of (read w (point p m.wires (from b)))) = s.tight (row_from p m.wires from b) (x_row b r home inside e shown) in
              Below_trans (v (bit_place p m.wires b)) (w (bit_place p m.wires b)) (read w (point p m.wires (from b))) low (Below_trans (w (bit_place p m.wires b)) (passed_of (read w (point p m.wires (from b)))) (read w (point p m.wires (from b))) tight (passed_below (read w (point p m.wires (from b)))))

      source_below : (r : SigBit) → ((b : WireBit) → r ≡ OnWire b → Home m.wires b) → IsLive (origin js r) → Below (read v (point p m.wires r)) (read w (point p m.wires (origin js r)))
      source_below (Fixed c) homes live = subst (λ z. Below c (read w (point p m.wires z))) (sym (origin_here js (Fixed c) refl)) (Below_refl c)
      source_below (OnWire b) homes live = bit_below b (homes b refl) live

      -- the row of a connection keeps to what is said
      join_keeps : (j : Join) → In j js → KeptSays p w (OfWire (name_or_empty (slice_get m.wires j.bit.wire)) j.bit.at) (passed_of (read v (point p m.wires j.source)))
      join_keeps j i =
          let home : Home m.wires j.bit = fine.homes j.bit (left_named j.bit (lefts_in m.links j i)) in
          let is : source_at js j.bit ≡ Some j.source = sole j i in
          let same : from j.bit ≡ origin js j.source = origin_on js (OnWire j.bit) j.source is in
          let low : IsLive (from j.bit) → Below (read v (point p m.wires j.source)) (read w (point p m.wires (from j.bit))) = λ live. subst (λ r. Below (read v (point p m.wires j.source)) (read w (point p m.wires r))) (sym same) (source_below j.source (λ b e. fine.homes b (right_named b (rights_in m.links j i b e))) (subst IsLive same live)) in
          record {
            port = λ n of.
                let port = named_port j.bit home n of in
                let shown : is_shown home.of ≡ true = seen (join_row p m.wires j) j.bit home.of (row_in j i) refl home.there port.0 in
                let met : Below (passed_of (read w (point p m.wires (from j.bit)))) (w (bit_place p m.wires j.bit)) = s.met (row_from p m.wires from j.bit) (x_row j.bit j.source home port.1 is shown) in
                Below_trans (passed_of (read v (point p m.wires j.source))) (passed_of (read w (point p m.wires (from j.bit)))) (w (bit_place p m.wires j.bit)) (passed_kept (read v (point p m.wires j.source)) (read w (point p m.wires (from j.bit))) (low (shown_live j.bit j.source home port.1 is shown))) met;
            other = λ none b at live.
                let b_is : b ≡ j.bit = one_spot p b j.bit at.within (in_length j.bit home) (λ k. record { path = p; spot = sym at.is k }) in
                let low' = low (subst (λ z. IsLive (from z)) b_is live) in
                subst (λ z. Below (passed_of (read v (point p m.wires j.source))) (read w (point p m.wires (from z)))) (sym b_is) (Below_trans (passed_of (read v (point p m.wires j.source))) (read v (point p m.wires j.source)) (read w (point p m.wires (from j.bit))) (passed_below (read v (point p m.wires j.source))) low');
            word = λ name address at is. absurd (not_word (name_or_empty (slice_get m.wires j.bit.wire)) name j.bit.at address at is);
          }

    -- a row of a cell that goes is one of a cell of the library, and has a bit that goes
    gone_row : (c : Cell) → In c (others marks m.cells) → (x : Driven) → In x (cell_rows start ports p m.wires c (cell_kind c)) → (b : WireBit) × In b (cell_bits c) × In b (output_bits tports c) × (x.place ≡ bit_place p m.wires b)
    gone_row c i x = by (cell_kind c) refl
      where
        by : (k : Option CellKind) → cell_kind c ≡ k → In x (cell_rows start ports p m.wires c k) → (b : WireBit) × In b (cell_bits c) × In b (output_bits tports c) × (x.place ≡ bit_place p m.wires b)
        by None e j =
            let no : true ≡ false = sym (ap stays_by e) ∙ gone_by c i in
            absurd (cc)
        by (Some kind) e j =
            let row = kind_row (IsPinOf p m.wires c) start p m.wires c (λ name. pins_of ports p m.wires c (pin_text name)) kind x j in
            let k = point_bit p m.wires (signal_at c.pins (pin_text row.pin)) x.place row.place in
            let out : In k.0 (pin_bits (cell_type tports c.kind_name) c.pins) = subst (λ t. In k.0 (pin_bits t c.pins)) (sym (type_is tports c kind e)) (driven_bits (Library kind) c.pins (pin_text row.pin) (drives_output kind row.pin row.drives) k.0 k.1) in
            (k.0, signal_bits c.pins (pin_text row.pin) k.0 k.1, out, k.2)

    -- the outside does not see a bit that such a cell drives
    unseen : (c : Cell) → In c (others marks m.cells) → (b : WireBit) → In b (output_bits tports c) → (w : Wire) → slice_get m.wires b.wire ≡ Some w → is_shown w ≡ true → ⊥
    unseen c i b out w e shown =
        let root : is_root tports m.wires c ≡ false = fine.closed.root c i in
        let rest : (is_kept c.attributes || list_any (is_shown_bit m.wires) (output_bits tports c)) ≡ false = (or_parts (stays_by (cell_kind c)) (is_kept c.attributes || list_any (is_shown_bit m.wires) (output_bits tports c)) root).1 in
        let none : is_shown_bit m.wires b ≡ false = none_any (is_shown_bit m.wires) (output_bits tports c) (or_parts (is_kept c.attributes) (list_any (is_shown_bit m.wires) (output_bits tports c)) rest).1 b out in
        let no : true ≡ false = sym shown ∙ sym (ap (λ o. option_map_or is_shown o false) e) ∙ none in
        differ no
      where
        differ : true ≡ false → ⊥
        differ e = cc

    -- what is said of the bit of a row of a cell that goes is so of any value
    gone_keeps : (c : Cell) → In c (others marks m.cells) → (x : Driven) → In x (cell_rows start ports p m.wires c (cell_kind c)) → (w : Valuation) (a : Bit) → (x.place.path ≡ p) × KeptSays p w x.place.spot a
    gone_keeps c i x j w a =
        let k = gone_row c i x j in
        let within : In c m.cells = others_in marks m.cells c i in
        let row : In x (cells_rows start ports p m.wires m.cells) = row_cells start ports p m.wires m.cells c x within j in
        let home : Home m.wires k.0 = fine.homes k.0 (cell_named c within k.0 k.1) in
        let spot : x.place.spot ≡ OfWire (name_or_empty (slice_get m.wires k.0.wire)) k.0.at = ap (λ (q : Place). q.spot) k.3 in (
          ap (λ (q : Place). q.path) k.3,
          record {
            port = λ n of.
                let port : is_port home.of.role ≡ true = (named_port k.0 home n (subst (OfPort n) spot of)).0 in
                absurd (unseen c i k.0 k.2 home.of home.there (seen x k.0 home.of (In-left x (cells_rows start ports p m.wires m.cells) (plain_rows p m) row) k.3 home.there port));
            other = λ none b at live.
                let is : b ≡ k.0 = one_spot p b k.0 at.within (in_length k.0 home) (λ z. record { path = p; spot = (sym at.is ∙ spot) z }) in
                let own : from b ≡ OnWire b = ap from is ∙ own_from k.0 (alone x k.0 row k.3) ∙ ap OnWire (sym is) in
                let gone : IsGone b = subst IsGone (sym is) (in_flat (output_bits tports) (others marks m.cells) c k.0 i k.2) in
                absurd (subst IsLive own live gone);
            word = λ name address at is.
                absurd (not_word (name_or_empty (slice_get m.wires k.0.wire)) name k.0.at address at (sym spot ∙ is));
          },
        )

    -- each row keeps to what is said
    keeps : (t u : Time Place) → SameMoment ports (instances m.cells) kept_says p t u → (v w : Valuation) → Related ports (instances m.cells) kept_says p v w → (n : ℕ) → Reached n after u w → (x : Driven) → In x before → KeepsTo ports (instances m.cells) kept_says p w x.place (value_of x.driver t v)
    keeps t u st v w h n r x i =
        ⊎_elim
        (λ cell. let c = cells_row start ports p m.wires m.cells x cell in
        ⊎_elim
        (λ kept. stays c.0 kept c.2 cell)
        (λ gone. let k = gone_keeps c.0 gone x c.2 w (value_of x.driver t v) in
        record { own = λ e. k.1; outer = λ o. absurd (not_longer o.0 p (sym o.4 ∙ k.0)) })
        (mark_cases marks m.cells c.0 c.1))
        (λ plain. ⊎_elim
        (λ link. let k = In-mapped (join_row p m.wires) x js (subst (In x) (joins_rows p m.wires m.links) link) in
        let says = join_keeps u v w (reached_solved after n u w r) h k.0 k.1 in
        subst (λ (z : Driven). KeepsTo ports (instances m.cells) kept_says p w z.place (value_of z.driver t v)) (sym k.2) (record { own = λ e. says; outer = λ o. absurd (not_longer o.0 p (sym o.4)) }))
        (λ memory. remembered memory)
        (In-cases x (link_rows p m.wires m.links) (stored p) (subst (In x) plain_is plain)))
        (In-cases x (cells_rows start ports p m.wires m.cells) (plain_rows p m) i)
      where
        -- the value of a row that stays is below, in whatever it is read
        own_below : Below (value_of x.driver t v) (w x.place) → x.place.path ≡ p → Below (value_of x.driver t v) (w (record { path = p; spot = x.place.spot }))
        own_below low e = subst (λ q. Below (value_of x.driver t v) (w q)) (λ z. record { path = e z; spot = x.place.spot }) low

        wire_below : Below (value_of x.driver t v) (w x.place) → x.place.path ≡ p → (b : WireBit) → IsAt b x.place.spot → from b ≡ OnWire b → Below (value_of x.driver t v) (read w (point p m.wires (from b)))
        wire_below low e b at own =
            subst (λ y. Below (value_of x.driver t v) (read w (point p m.wires y))) (sym own) (subst (λ q. Below (value_of x.driver t v) (w q)) (λ z. record { path = e z; spot = at.is z }) low)

        stays : (c : Cell) → In c (marked marks m.cells) → In x (cell_rows start ports p m.wires c (cell_kind c)) → In x (cells_rows start ports p m.wires m.cells) → KeepsTo ports (instances m.cells) kept_says p w x.place (value_of x.driver t v)
        stays c kept j row =
            let here : In x after = In-left x (cells_rows start ports p m.wires (marked marks m.cells)) (plain_rows p target) (row_cells start ports p m.wires (marked marks m.cells) c x kept j) in
            let low : Below (value_of x.driver t v) (w x.place) = row_stays m ports kept_says after p t u st v w h n r x i here (λ z q k e a says. reading z q k e a says) in
            record {
              own = λ e. record {
                port = λ n of. own_below low e;
                other = λ none b at live.
                    wire_below low e b at (own_from b (alone x b row (λ z. record { path = e z; spot = at.is z })));
                word = λ name address at is. own_below low e;
              };
              outer = λ o. low;
            }
          where
            reading : (z : Valuation) (q : Place) → In q (reads x.driver) → q.path ≡ p → (a : Bit) → KeptSays p z q.spot a → Below a (z q)
            reading z q k e a says =
                ⊎_elim
                (λ pin. pin_below p z c kept q pin a says)
                (λ o. absurd (not_longer o.0 p (sym o.4 ∙ e)))
                (cell_reads ports p m.wires c start (instances m.cells) (cell_kind c) (frames_in m.cells c (marked_in marks m.cells c kept)) x j q k)

        remembered : In x (stored p) → KeepsTo ports (instances m.cells) kept_says p w x.place (value_of x.driver t v)
        remembered j =
            let row = memory_row (IsRead p) p m.wires (marked marks m.cells) (λ c kept name q l. inl (c, kept, pins_of ports p m.wires c (pin_text name) q l)) (λ q word. inr word) m.memories x (subst (In x) (sym (kept_stored p)) j) in
            let here : In x after = In-right x (cells_rows start ports p m.wires (marked marks m.cells)) (plain_rows p target) (subst (In x) (sym plain_after) (In-right x (link_rows p m.wires x_links) (stored p) j)) in
            let low : Below (value_of x.driver t v) (w x.place) = row_stays m ports kept_says after p t u st v w h n r x i here (λ z q k e a says. reading z q e a says (row.read q (in_places (read_points x.driver) q k))) in
            record {
              own = λ e. record {
                port = λ n of. own_below low e;
                other = λ none b at live. wire_below low e b at (given b at row.place);
                word = λ name address at is. own_below low e;
              };
              outer = λ o. low;
            }
          where
            reading : (z : Valuation) (q : Place) → q.path ≡ p → (a : Bit) → KeptSays p z q.spot a → IsRead p q → Below a (z q)
            reading z q e a says (inl pin) = pin_below p z pin.0 pin.1 q pin.2 a says
            reading z q e a says (inr word) =
                subst (λ y. Below a (z y)) (λ k. record { path = sym e k; spot = q.spot }) (says.word word.0 word.1 word.2 (ap (λ (y : Place). y.spot) word.3))

            -- a bit that a read port gives comes from itself
            given : (b : WireBit) → IsAt b x.place.spot → IsWord p x.place ⊎ ((c : Cell) × In c (marked marks m.cells) × (is_read_kind (cell_kind c) ≡ true) × In (At x.place) (pin_points p m.wires c.pins Data)) → from b ≡ OnWire b
            given b at (inl word) =
                absurd (not_word (name_or_empty (slice_get m.wires b.wire)) word.0 b.at word.1 word.2 (sym at.is ∙ ap (λ (y : Place). y.spot) word.3))
            given b at (inr r) =
                let c : Cell = r.0 in
                let within : In c m.cells = marked_in marks m.cells c r.1 in
                let k = point_bit p m.wires (signal_at c.pins (pin_text Data)) x.place r.3 in
                let home : Home m.wires k.0 = fine.homes k.0 (cell_named c within k.0 (signal_bits c.pins (pin_text Data) k.0 k.1)) in
                let is : b ≡ k.0 = one_spot p b k.0 at.within (in_length k.0 home) (λ z. record { path = p; spot = (sym at.is ∙ ap (λ (y : Place). y.spot) k.2) z }) in
                ap from is ∙ output_alone c within k.0 (read_output tports c r.2 k.0 k.1) ∙ ap OnWire (sym is)

  -- the instances stay
  pub children_stay : instances m.cells ≡ instances (marked marks m.cells)
  children_stay = instances_are m.cells ∙ marked_give own_instance marks m.cells (λ c i. by c i (cell_kind c) refl) ∙ sym (instances_are (marked marks m.cells))
    where
      by : (c : Cell) → In c (others marks m.cells) → (k : Option CellKind) → cell_kind c ≡ k → own_instance c ≡ []
      by c i (Some kind) e = ap (λ k. listed (instance_of c k)) e
      by c i None e =
          let no : true ≡ false = sym (ap stays_by e) ∙ gone_by c i in
          absurd (cc)

  pub relates : (ports : Ports) → IsWellDriven ports m → RowsRelate m target ports kept_says
  relates ports driven = record {
    id = refl;
    ports_same = refl;
    children = children_stay;
    port_to = λ p w n i at lt a low. record {
      port = λ k of. low;
      other = λ none b is live. absurd (none n (i, (at, lt, refl)));
      word = λ name address j is. low;
    };
    port_from = λ p w n i at lt a says. says.port n (i, (at, lt, refl));
    unknown = λ p w s. record { port = λ n of. tt; other = λ none b at live. tt; word = λ name address at is. tt };
    rows = λ p t u st v w h n r x i. keeps ports p driven t u st v w h n r x i;
  }

  -- in any two designs, one with the module and one with the kept cells, no known output bit is lost
  pub reduced_x_refines : (ports : Ports) → RefinesOver m target ports
  reduced_x_refines ports = record {
    holds = λ pre post fb fc agree.
        let over : Ports = design_ports (with_body pre m post) in
        let driven : IsWellDriven over m = fb.modules m (In-right m pre (m ∷ post) (inl refl)) in
        (related m target over kept_says (relates over driven)).holds pre post fb fc (agree_self over (instances m.cells));
  }
