-- Wires that are added behind a module's own change none of its rows.
use Rattle.std.proofs.Common.{◌≡◌, ◌<◌, ℕ, zero, suc, Bool, List, [], ◌∷◌, ◌++◌, length, Option, Some, None, inl, inr, refl, ◌∙◌, ap, arith}
use Rattle.std.specs.Prelude.{map, flat_map, slice_get, slice_index_or, unwrap_or}
use Rattle.rtl_bits.specs.declared.bit.Bit.{Bit}
use Rattle.rtl_bits.specs.declared.bit.Bit.TheVariants.{X}
use Rattle.rtl_bits.specs.Tables.{seen_of}
use Rattle.rtl_sig.specs.declared.sig.SigBit.{SigBit}
use Rattle.rtl_sig.specs.declared.sig.SigBit.TheVariants.{Fixed, Wire as OnWire}
use Rattle.rtl_sig.specs.declared.sig.WireBit.{WireBit}
use Rattle.cell_types.specs.declared.kind.CellKind.{CellKind}
use Rattle.cell_types.specs.declared.kind.CellKind.TheVariants.{Word, Gate, Storage, StorageGate, Memory}
use Rattle.cell_types.specs.declared.pin_name.PinName.{PinName}
use Rattle.cell_types.specs.declared.pin_name.PinName.TheVariants.{A, B, S, Y, Clk, En, Arst, Srst, Aload, Set, Clr, Ad, D, Q, C, E, R, L}
use Rattle.cell_types.specs.declared.shape.Shape.{Shape}
use Rattle.cell_types.specs.PinName.{pin_text}
use Rattle.rtl_ir.specs.declared.cell.Cell.{Cell}
use Rattle.rtl_ir.specs.declared.cell.Pin.{Pin}
use Rattle.rtl_ir.specs.declared.module.Link.{Link}
use Rattle.rtl_ir.specs.declared.ports.PortLine.{PortLine}
use Rattle.rtl_ir.specs.declared.process.Process.{Process}
use Rattle.rtl_ir.specs.declared.wire.Wire.{Wire}
use Rattle.rtl_ir.specs.Decisions.{Decision, Leaf, Choice, Branches, NoBranch, OneBranch}
use Rattle.rtl_ir.specs.Faults.TwoEdges.{SwitchTest, branch_patterns}
use Rattle.rtl_ir.specs.Flat.Cell.{cell_kind, cell_shape, outputs, worked_rows, word_store, gate_store, stores, stored_rows, kind_rows, port_joins, instance_rows, Ports, cell_rows, cells_rows}
use Rattle.rtl_ir.specs.Flat.Driver.{StorePoints, Stored}
use Rattle.rtl_ir.specs.Flat.Link.{joins, link_rows}
use Rattle.rtl_ir.specs.Flat.Pick.{Pick, Is, where_of, pick_of, picks_of}
use Rattle.rtl_ir.specs.Flat.Place.{Frame, frame, Path, wire_place}
use Rattle.rtl_ir.specs.Flat.Point.{Point, Constant, At, name_or_empty, bit_place, point, points, point_at, pin_points, wire_points}
use Rattle.rtl_ir.specs.Flat.Start.{init_bits, process_starts, last_start, start_of}
use Rattle.rtl_ir.specs.Parameters.{signal_at}
use Rattle.net_model.specs.Lists.{In}
use Rattle.net_model.specs.Within.{Each, BitIn, SigIn, LinkIn, CellIn}
use Rattle.net_model.proofs.Ranges.{DecisionIn, BranchesIn, signal_in}

pub map_more : {A B : Type 0} (f g : A → B) (xs : List A) → ((x : A) → In x xs → f x ≡ g x) → map f xs ≡ map g xs
map_more f g [] h = refl
map_more f g (x ∷ xs) h = λ i. h x (inl refl) i ∷ map_more f g xs (λ y j. h y (inr j)) i

pub flat_map_more : {A B : Type 0} (f g : A → List B) (xs : List A) → ((x : A) → In x xs → f x ≡ g x) → flat_map f xs ≡ flat_map g xs
flat_map_more f g [] h = refl
flat_map_more f g (x ∷ xs) h = λ i. h x (inl refl) i ++ flat_map_more f g xs (λ y j. h y (inr j)) i

get_more : (ws fs : List Wire) (k : ℕ) → k < length ws → slice_get (ws ++ fs) k ≡ slice_get ws k
get_more [] fs k h = absurd (omega arith)
get_more (w ∷ ws) fs zero h = refl
get_more (w ∷ ws) fs (suc k) h = let h' : k < length ws = omega arith in get_more ws fs k h'

module _ (p : Path) (ws fs : List Wire) where
  pub place_more : (b : WireBit) → b.wire < length ws → bit_place p (ws ++ fs) b ≡ bit_place p ws b
  place_more b h = ap (λ z. wire_place p (name_or_empty z) b.at) (get_more ws fs b.wire h)

  pub point_more : (s : SigBit) → BitIn (length ws) s → point p (ws ++ fs) s ≡ point p ws s
  point_more (Fixed c) h = refl
  point_more (OnWire b) h = ap At (place_more b h)

  pub points_more : (ss : List SigBit) → SigIn (length ws) ss → points p (ws ++ fs) ss ≡ points p ws ss
  points_more [] h = refl
  points_more (s ∷ ss) h = λ i. point_more s (h s (inl refl)) i ∷ points_more ss (λ x j. h x (inr j)) i

  pub start_more : (processes : List Process) (s : SigBit) → BitIn (length ws) s → start_of (ws ++ fs) processes s ≡ start_of ws processes s
  start_more processes (Fixed c) h = refl
  start_more processes (OnWire b) h =
      ap (λ z. seen_of (unwrap_or (last_start (flat_map process_starts processes) b) (slice_index_or (init_bits z) b.at X))) (get_more ws fs b.wire h)

  -- decisions
  where_more : (o : Option Bool) (signal : List SigBit) (patterns : List (List SigBit)) (a a' b b' : Pick) → SigIn (length ws) signal → Each (SigIn (length ws)) patterns → a ≡ a' → b ≡ b' → where_of o (points p (ws ++ fs) signal) (map (points p (ws ++ fs)) patterns) a b ≡ where_of o (points p ws signal) (map (points p ws) patterns) a' b'
  where_more o signal patterns a a' b b' h g e f =
      λ i. where_of o (points_more signal h i) (map_more (points p (ws ++ fs)) (points p ws) patterns (λ ss j. points_more ss (g ss j)) i) (e i) (f i)

  mutual
    pub pick_more : (test : SwitchTest) (d : Decision) → DecisionIn (length ws) d → pick_of test p (ws ++ fs) d ≡ pick_of test p ws d
    pick_more test (Leaf s) h = ap (λ z. Is z) (point_more s h)
    pick_more test (Choice signal branches last) h =
        picks_more test (test signal (branch_patterns branches)) signal branches (pick_of test p (ws ++ fs) last) (pick_of test p ws last) h.0 h.1.0 (pick_more test last h.1.1)

    picks_more : (test : SwitchTest) (o : Option Bool) (signal : List SigBit) (branches : Branches) (last last' : Pick) → SigIn (length ws) signal → BranchesIn (length ws) branches → last ≡ last' → picks_of test p (ws ++ fs) o signal branches last ≡ picks_of test p ws o signal branches last'
    picks_more test o signal NoBranch last last' h g e = e
    picks_more test o signal (OneBranch [] value rest) last last' h g e = pick_more test value g.1.0
    picks_more test o signal (OneBranch (first ∷ patterns) value rest) last last' h g e =
        where_more o signal (first ∷ patterns) _ _ _ _ h g.0 (pick_more test value g.1.0) (picks_more test o signal rest last last' h g.1.1 e)

  -- pins
  module _ (pins : List Pin) (h : Each (λ (pin : Pin). SigIn (length ws) pin.sig) pins) where
    pub pin_more : (name : PinName) → pin_points p (ws ++ fs) pins name ≡ pin_points p ws pins name
    pin_more name = points_more (signal_at pins (pin_text name)) (signal_in (length ws) pins (pin_text name) h)

    word_store_more : (at : ℕ) → word_store p (ws ++ fs) pins at ≡ word_store p ws pins at
    word_store_more at = λ i. record {
      clk = point_at (pin_more Clk i) 0;
      en = point_at (pin_more En i) 0;
      arst = point_at (pin_more Arst i) 0;
      srst = point_at (pin_more Srst i) 0;
      aload = point_at (pin_more Aload i) 0;
      ad = point_at (pin_more Ad i) at;
      set = point_at (pin_more Set i) at;
      clr = point_at (pin_more Clr i) at;
      d = point_at (pin_more D i) at;
    }

    gate_store_more : (at : ℕ) → gate_store p (ws ++ fs) pins at ≡ gate_store p ws pins at
    gate_store_more at = λ i. record {
      clk = point_at (pin_more C i) 0;
      en = point_at (pin_more E i) 0;
      arst = point_at (pin_more R i) 0;
      srst = point_at (pin_more R i) 0;
      aload = point_at (pin_more L i) 0;
      ad = point_at (pin_more Ad i) 0;
      set = point_at (pin_more S i) 0;
      clr = point_at (pin_more R i) 0;
      d = point_at (pin_more D i) 0;
    }

    worked_more : (shape : Shape) → worked_rows p (ws ++ fs) pins shape ≡ worked_rows p ws pins shape
    worked_more shape = λ i. outputs shape (pin_more A i ∷ pin_more B i ∷ pin_more S i ∷ []) (pin_more Y i) 0

    stores_more : (f g : SigBit → Bit) (shape : Shape) (reads : ℕ → StorePoints) (ss : List SigBit) (qs : List Point) (at : ℕ) → ((s : SigBit) → In s ss → f s ≡ g s) → stores f shape reads ss qs at ≡ stores g shape reads ss qs at
    stores_more f g shape reads [] qs at e = refl
    stores_more f g shape reads (s ∷ ss) [] at e = refl
    stores_more f g shape reads (s ∷ ss) (At q ∷ qs) at e =
        λ i. record { place = q; driver = Stored (e s (inl refl) i) shape at (reads at) q } ∷ stores_more f g shape reads ss qs (suc at) (λ x j. e x (inr j)) i
    stores_more f g shape reads (s ∷ ss) (Constant c ∷ qs) at e =
        stores_more f g shape reads ss qs (suc at) (λ x j. e x (inr j))

    stored_more : (processes : List Process) (shape : Shape) (reads reads' : ℕ → StorePoints) → ((at : ℕ) → reads at ≡ reads' at) → stored_rows (start_of (ws ++ fs) processes) p (ws ++ fs) pins shape reads ≡ stored_rows (start_of ws processes) p ws pins shape reads'
    stored_more processes shape reads reads' e =
        (λ i. stores (start_of (ws ++ fs) processes) shape (λ at. e at i) (signal_at pins (pin_text Q)) (pin_more Q i) 0) ∙ stores_more (start_of (ws ++ fs) processes) (start_of ws processes) shape reads' (signal_at pins (pin_text Q)) (pin_points p ws pins Q) 0 (λ s j. start_more processes s (signal_in (length ws) pins (pin_text Q) h s j))

    instance_more : (f : Frame) (ns : List PortLine) → instance_rows p (ws ++ fs) pins f ns ≡ instance_rows p ws pins f ns
    instance_more f [] = refl
    instance_more f (n ∷ ns) =
        λ i. port_joins n.role (points_more (signal_at pins n.name) (signal_in (length ws) pins n.name h) i) (wire_points (f ∷ p) n.name 0 n.width) ++ instance_more f ns i

  kind_more : (processes : List Process) (c : Cell) → CellIn (length ws) c → (kind : CellKind) → kind_rows (start_of (ws ++ fs) processes) p (ws ++ fs) c kind ≡ kind_rows (start_of ws processes) p ws c kind
  kind_more processes c h (Word kind) = worked_more c.pins h (cell_shape (Word kind) c.params)
  kind_more processes c h (Gate kind) = worked_more c.pins h (cell_shape (Gate kind) c.params)
  kind_more processes c h (Storage kind) =
      stored_more c.pins h processes (cell_shape (Storage kind) c.params) (word_store p (ws ++ fs) c.pins) (word_store p ws c.pins) (word_store_more c.pins h)
  kind_more processes c h (StorageGate gate) =
      stored_more c.pins h processes (cell_shape (StorageGate gate) c.params) (gate_store p (ws ++ fs) c.pins) (gate_store p ws c.pins) (gate_store_more c.pins h)
  kind_more processes c h (Memory kind) = refl

  cell_more : (processes : List Process) (ports : Ports) (c : Cell) → CellIn (length ws) c → (kind : Option CellKind) → cell_rows (start_of (ws ++ fs) processes) ports p (ws ++ fs) c kind ≡ cell_rows (start_of ws processes) ports p ws c kind
  cell_more processes ports c h (Some kind) = kind_more processes c h kind
  cell_more processes ports c h None = instance_more c.pins h (frame c.name c.kind_name) (ports c.kind_name)

  pub cells_more : (processes : List Process) (ports : Ports) (cs : List Cell) → Each (CellIn (length ws)) cs → cells_rows (start_of (ws ++ fs) processes) ports p (ws ++ fs) cs ≡ cells_rows (start_of ws processes) ports p ws cs
  cells_more processes ports [] h = refl
  cells_more processes ports (c ∷ cs) h =
      λ i. cell_more processes ports c (h c (inl refl)) (cell_kind c) i ++ cells_more processes ports cs (λ x j. h x (inr j)) i

  pub links_more : (ls : List Link) → Each (LinkIn (length ws)) ls → link_rows p (ws ++ fs) ls ≡ link_rows p ws ls
  links_more [] h = refl
  links_more (l ∷ ls) h =
      let k = h l (inl refl) in
      λ i. joins (points_more l.left k.0 i) (points_more l.right k.1 i) ++ links_more ls (λ x j. h x (inr j)) i
