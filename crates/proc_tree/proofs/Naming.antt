-- Rows know wires by the places of their bits: where two lists of wires name the same places, cells, connections and
-- memories have the same rows, as far as storage bits start alike.
use Rattle.std.proofs.Common.{◌≡◌, ℕ, suc, Bool, true, false, List, [], ◌∷◌, ◌++◌, Option, Some, None, inl, inr, refl, ◌∙◌, ap}
use Rattle.std.specs.Prelude.{map, find, flat_map, if◌then◌else◌}
use Rattle.std.specs.List.{range_with_len}
use Rattle.std.specs.Option.{option_map_or}
use Rattle.std.specs.Str.{bytes_eq}
use Rattle.rtl_bits.specs.declared.bit.Bit.{Bit}
use Rattle.rtl_sig.specs.declared.sig.SigBit.{SigBit}
use Rattle.rtl_sig.specs.declared.sig.SigBit.TheVariants.{Fixed, Wire as OnWire}
use Rattle.rtl_sig.specs.declared.sig.WireBit.{WireBit}
use Rattle.cell_types.specs.declared.kind.CellKind.{CellKind}
use Rattle.cell_types.specs.declared.kind.CellKind.TheVariants.{Word, Gate, Storage, StorageGate, Memory}
use Rattle.cell_types.specs.declared.pin_name.PinName.{PinName}
use Rattle.cell_types.specs.declared.pin_name.PinName.TheVariants.{A, B, S, Y, Clk, En, Arst, Srst, Aload, Set, Clr, Ad, D, Q, C, E, R, L, Addr, Data}
use Rattle.cell_types.specs.declared.shape.Shape.{Shape}
use Rattle.cell_types.specs.PinName.{pin_text}
use Rattle.rtl_ir.specs.declared.cell.Cell.{Cell}
use Rattle.rtl_ir.specs.declared.cell.Pin.{Pin}
use Rattle.rtl_ir.specs.declared.module.Link.{Link}
use Rattle.rtl_ir.specs.declared.ports.PortLine.{PortLine}
use Rattle.rtl_ir.specs.declared.process.Process.{Process}
use Rattle.rtl_ir.specs.declared.store.Store.{Store}
use Rattle.rtl_ir.specs.declared.wire.Wire.{Wire}
use Rattle.rtl_ir.specs.Decisions.{Decision, Leaf, Choice, Branches, NoBranch, OneBranch}
use Rattle.rtl_ir.specs.Faults.TwoEdges.{SwitchTest, branch_patterns}
use Rattle.rtl_ir.specs.Flat.Access.{Access, accesses_of, first_trigger}
use Rattle.rtl_ir.specs.Flat.Cell.{cell_kind, cell_shape, outputs, worked_rows, word_store, gate_store, stores, stored_rows, kind_rows, port_joins, instance_rows, Ports, cell_rows, cells_rows}
use Rattle.rtl_ir.specs.Flat.Driver.{StorePoints, Stored, Remembered}
use Rattle.rtl_ir.specs.Flat.Link.{joins, link_rows}
use Rattle.rtl_ir.specs.Flat.Memory.{init_cells, start_word_bit, may_follow, port_points, word_row, addresses_of, fetched_rows, read_rows, reading_cells, memory_rows, memories_rows}
use Rattle.rtl_ir.specs.Flat.Pick.{Pick, Is, where_of, pick_of, picks_of}
use Rattle.rtl_ir.specs.Flat.Place.{Frame, frame, Path, word_place}
use Rattle.rtl_ir.specs.Flat.Point.{Point, Constant, At, bit_place, point, points, point_at, pin_points, wire_points}
use Rattle.rtl_ir.specs.Parameters.{signal_at}
use Rattle.net_model.specs.Within.{Each}
use Rattle.net_model.proofs.Ranges.{each_none}

-- two lists of wires name the same places
abbrev pub SamePlaces : Path → List Wire → List Wire → Type 0
SamePlaces p vs ws = (b : WireBit) → bit_place p vs b ≡ bit_place p ws b

-- what is so of each pin is so of the signal at a pin
pub signal_each : (P : SigBit → Type 0) (pins : List Pin) (name : List ℕ) → Each (λ (pin : Pin). Each P pin.sig) pins → Each P (signal_at pins name)
signal_each P [] name h = each_none P
signal_each P (pin ∷ pins) name h =
    by (bytes_eq pin.name name) (signal_each P pins name (λ x i. h x (inr i)))
  where
    by : (t : Bool) → Each P (signal_at pins name) → Each P (option_map_or (λ (p : Pin). p.sig) (if t then Some pin else find (λ (p : Pin). bytes_eq p.name name) pins) [])
    by true i = h pin (inl refl)
    by false i = i

module _ (p : Path) (vs ws : List Wire) (same : SamePlaces p vs ws) where
  pub point_named : (s : SigBit) → point p vs s ≡ point p ws s
  point_named (Fixed c) = refl
  point_named (OnWire b) = ap At (same b)

  pub points_named : (ss : List SigBit) → points p vs ss ≡ points p ws ss
  points_named [] = refl
  points_named (s ∷ ss) = λ i. point_named s i ∷ points_named ss i

  -- decisions
  where_named : (o : Option Bool) (signal : List SigBit) (patterns : List (List SigBit)) (a a' b b' : Pick) → a ≡ a' → b ≡ b'
      → where_of o (points p vs signal) (map (points p vs) patterns) a b ≡ where_of o (points p ws signal) (map (points p ws) patterns) a' b'
  where_named o signal patterns a a' b b' e f =
      λ i. where_of o (points_named signal i) (map (λ ss. points_named ss i) patterns) (e i) (f i)

  mutual
    pub pick_named : (test : SwitchTest) (d : Decision) → pick_of test p vs d ≡ pick_of test p ws d
    pick_named test (Leaf s) = ap (λ z. Is z) (point_named s)
    pick_named test (Choice signal branches last) =
        picks_named test (test signal (branch_patterns branches)) signal branches (pick_of test p vs last) (pick_of test p ws last) (pick_named test last)

    picks_named : (test : SwitchTest) (o : Option Bool) (signal : List SigBit) (branches : Branches) (last last' : Pick) → last ≡ last' → picks_of test p vs o signal branches last ≡ picks_of test p ws o signal branches last'
    picks_named test o signal NoBranch last last' e = e
    picks_named test o signal (OneBranch [] value rest) last last' e = pick_named test value
    picks_named test o signal (OneBranch (first ∷ patterns) value rest) last last' e =
        where_named o signal (first ∷ patterns) _ _ _ _ (pick_named test value) (picks_named test o signal rest last last' e)

  -- pins
  module _ (pins : List Pin) where
    pin_named : (name : PinName) → pin_points p vs pins name ≡ pin_points p ws pins name
    pin_named name = points_named (signal_at pins (pin_text name))

    word_store_named : (at : ℕ) → word_store p vs pins at ≡ word_store p ws pins at
    word_store_named at = λ i. record {
      clk = point_at (pin_named Clk i) 0;
      en = point_at (pin_named En i) 0;
      arst = point_at (pin_named Arst i) 0;
      srst = point_at (pin_named Srst i) 0;
      aload = point_at (pin_named Aload i) 0;
      ad = point_at (pin_named Ad i) at;
      set = point_at (pin_named Set i) at;
      clr = point_at (pin_named Clr i) at;
      d = point_at (pin_named D i) at;
    }

    gate_store_named : (at : ℕ) → gate_store p vs pins at ≡ gate_store p ws pins at
    gate_store_named at = λ i. record {
      clk = point_at (pin_named C i) 0;
      en = point_at (pin_named E i) 0;
      arst = point_at (pin_named R i) 0;
      srst = point_at (pin_named R i) 0;
      aload = point_at (pin_named L i) 0;
      ad = point_at (pin_named Ad i) 0;
      set = point_at (pin_named S i) 0;
      clr = point_at (pin_named R i) 0;
      d = point_at (pin_named D i) 0;
    }

    worked_named : (shape : Shape) → worked_rows p vs pins shape ≡ worked_rows p ws pins shape
    worked_named shape = λ i. outputs shape (pin_named A i ∷ pin_named B i ∷ pin_named S i ∷ []) (pin_named Y i) 0

    instance_named : (f : Frame) (ns : List PortLine) → instance_rows p vs pins f ns ≡ instance_rows p ws pins f ns
    instance_named f [] = refl
    instance_named f (n ∷ ns) =
        λ i. port_joins n.role (points_named (signal_at pins n.name) i) (wire_points (f ∷ p) n.name 0 n.width) ++ instance_named f ns i

  module _ (new old : SigBit → Bit) where
    stores_named : (shape : Shape) (reads : ℕ → StorePoints) (ss : List SigBit) (qs : List Point) (at : ℕ) → Each (λ s. new s ≡ old s) ss → stores new shape reads ss qs at ≡ stores old shape reads ss qs at
    stores_named shape reads [] qs at e = refl
    stores_named shape reads (s ∷ ss) [] at e = refl
    stores_named shape reads (s ∷ ss) (At q ∷ qs) at e =
        λ i. record { place = q; driver = Stored (e s (inl refl) i) shape at (reads at) q } ∷ stores_named shape reads ss qs (suc at) (λ x j. e x (inr j)) i
    stores_named shape reads (s ∷ ss) (Constant c ∷ qs) at e = stores_named shape reads ss qs (suc at) (λ x j. e x (inr j))

    stored_named : (pins : List Pin) (shape : Shape) (reads reads' : ℕ → StorePoints) → Each (λ (pin : Pin). Each (λ s. new s ≡ old s) pin.sig) pins → ((at : ℕ) → reads at ≡ reads' at) → stored_rows new p vs pins shape reads ≡ stored_rows old p ws pins shape reads'
    stored_named pins shape reads reads' h e =
        (λ i. stores new shape (λ at. e at i) (signal_at pins (pin_text Q)) (pin_named pins Q i) 0)
        ∙ stores_named shape reads' (signal_at pins (pin_text Q)) (pin_points p ws pins Q) 0 (signal_each (λ s. new s ≡ old s) pins (pin_text Q) h)

    kind_named : (c : Cell) → Each (λ (pin : Pin). Each (λ s. new s ≡ old s) pin.sig) c.pins → (kind : CellKind) → kind_rows new p vs c kind ≡ kind_rows old p ws c kind
    kind_named c h (Word kind) = worked_named c.pins (cell_shape (Word kind) c.params)
    kind_named c h (Gate kind) = worked_named c.pins (cell_shape (Gate kind) c.params)
    kind_named c h (Storage kind) =
        stored_named c.pins (cell_shape (Storage kind) c.params) (word_store p vs c.pins) (word_store p ws c.pins) h (word_store_named c.pins)
    kind_named c h (StorageGate gate) =
        stored_named c.pins (cell_shape (StorageGate gate) c.params) (gate_store p vs c.pins) (gate_store p ws c.pins) h (gate_store_named c.pins)
    kind_named c h (Memory kind) = refl

    cell_named : (ports : Ports) (c : Cell) → Each (λ (pin : Pin). Each (λ s. new s ≡ old s) pin.sig) c.pins → (kind : Option CellKind) → cell_rows new ports p vs c kind ≡ cell_rows old ports p ws c kind
    cell_named ports c h (Some kind) = kind_named c h kind
    cell_named ports c h None = instance_named c.pins (frame c.name c.kind_name) (ports c.kind_name)

    pub cells_named : (ports : Ports) (cs : List Cell) → Each (λ (c : Cell). Each (λ (pin : Pin). Each (λ s. new s ≡ old s) pin.sig) c.pins) cs → cells_rows new ports p vs cs ≡ cells_rows old ports p ws cs
    cells_named ports [] h = refl
    cells_named ports (c ∷ cs) h =
        λ i. cell_named ports c (h c (inl refl)) (cell_kind c) i ++ cells_named ports cs (λ x j. h x (inr j)) i

  pub links_named : (ls : List Link) → link_rows p vs ls ≡ link_rows p ws ls
  links_named [] = refl
  links_named (l ∷ ls) = λ i. joins (points_named l.left i) (points_named l.right i) ++ links_named ls i

  -- memories
  ports_named : (at : ℕ) (before accesses : List Access) → port_points p vs at before accesses ≡ port_points p ws at before accesses
  ports_named at before [] = refl
  ports_named at before (a ∷ accesses) =
      λ i. record { address = points_named a.address i; enable = point_at (points_named a.enable i) at; new = point_at (points_named a.new i) at; follows = map (may_follow a.mask) before } ∷ ports_named at (before ++ a ∷ []) accesses i

  word_named : (s : Store) (accesses : List Access) (inits : List Cell) (address at : ℕ) → word_row p vs s accesses inits address at ≡ word_row p ws s accesses inits address at
  word_named s accesses inits address at = λ i. record {
    place = word_place p s.name address at;
    driver = Remembered (start_word_bit inits s.width address at) (point_at (points_named (first_trigger accesses).signal i) 0) (first_trigger accesses).level address (ports_named at [] accesses i) (word_place p s.name address at);
  }

  read_named : (s : Store) (c : Cell) → read_rows p vs s c ≡ read_rows p ws s c
  read_named s c = λ i. fetched_rows p s (points_named (signal_at c.pins (pin_text Addr)) i) (points_named (signal_at c.pins (pin_text Data)) i) 0

  memory_named : (cells : List Cell) (qs ps : List Process) → ((name : List ℕ) → accesses_of name cells qs ≡ accesses_of name cells ps) → (s : Store) → memory_rows p vs cells qs s ≡ memory_rows p ws cells ps s
  memory_named cells qs ps h s =
      let inits : List Cell = init_cells s.name cells in
      let accesses : List Access = accesses_of s.name cells ps in
      (λ i. flat_map (λ address. map (word_row p vs s (h s.name i) inits address) (range_with_len 0 s.width)) (addresses_of s) ++ flat_map (read_rows p vs s) (reading_cells s.name cells))
      ∙ (λ i. flat_map (λ address. map (λ at. word_named s accesses inits address at i) (range_with_len 0 s.width)) (addresses_of s) ++ flat_map (λ c. read_named s c i) (reading_cells s.name cells))

  pub memories_named : (cells : List Cell) (qs ps : List Process) → ((name : List ℕ) → accesses_of name cells qs ≡ accesses_of name cells ps) → (stores : List Store) → memories_rows p vs cells qs stores ≡ memories_rows p ws cells ps stores
  memories_named cells qs ps h stores = λ i. flat_map (λ s. memory_named cells qs ps h s i) stores
