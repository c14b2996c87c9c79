-- What a step adds is driven once: each bit that new cells drive is one of a fresh wire, or one of some others; each bit that
-- new connections drive is one of these.
use Rattle.std.proofs.Common.{◌≡◌, ◌≤◌, ℕ, suc, ◌+◌, List, [], ◌∷◌, ◌++◌, length, Some, refl, sym, ◌∙◌, ap, subst, arith, append_assoc, length-append}
use Rattle.std.specs.Prelude.{codes}
use Rattle.std.proofs.lemmas.List.{append-nil}
use Rattle.rtl_bits.specs.declared.bit.Bit.{Bit}
use Rattle.rtl_sig.specs.declared.sig.SigBit.{SigBit}
use Rattle.rtl_sig.specs.declared.sig.SigBit.TheVariants.{Fixed, Wire as OnWire}
use Rattle.rtl_sig.specs.declared.sig.WireBit.{WireBit}
use Rattle.cell_types.specs.Kind.{kind_of}
use Rattle.cell_types.specs.PinName.{pin_text}
use Rattle.cell_types.specs.declared.kind.CellKind.TheVariants.{Storage, Word}
use Rattle.cell_types.specs.declared.pin_name.PinName.TheVariants.{Q, Y}
use Rattle.cell_types.specs.declared.shape.Shape.{Shape}
use Rattle.cell_types.specs.declared.storage.StorageKind.{StorageKind}
use Rattle.cell_types.specs.declared.word.WordKind.{WordKind}
use Rattle.rtl_ir.specs.Build.{Building, fresh_wire, inner_wire, made_name, new_cell, new_driver, new_link, pin_of, whole}
use Rattle.rtl_ir.specs.Flat.Cell.{Ports, cell_kind, cell_rows, cells_rows, stores}
use Rattle.rtl_ir.specs.Flat.Driver.{StorePoints}
use Rattle.rtl_ir.specs.Flat.Link.{joins, link_rows}
use Rattle.rtl_ir.specs.Flat.Place.{Path, Place, place_same}
use Rattle.rtl_ir.specs.Flat.Point.{At, Constant, Point, bit_place, points}
use Rattle.rtl_ir.specs.Flat.Tree.{places}
use Rattle.rtl_ir.specs.Parameters.{signal_at}
use Rattle.rtl_ir.specs.Signals.{bits_of_wire, wire_bits}
use Rattle.rtl_ir.specs.Types as types
use Rattle.rtl_ir.specs.Types.{Library, cell_type}
use Rattle.rtl_ir.specs.declared.cell.Cell.{Cell}
use Rattle.rtl_ir.specs.declared.cell.CellParam.{CellParam}
use Rattle.rtl_ir.specs.declared.cell.Pin.{Pin}
use Rattle.rtl_ir.specs.declared.module.Module.{Module}
use Rattle.rtl_ir.specs.declared.value.Attribute.{Attribute}
use Rattle.rtl_ir.specs.declared.wire.Wire.{Wire}
use Rattle.net_model.proofs.Members.{map-append}
use Rattle.net_model.proofs.Swapping.{rows-append}
use Rattle.net_model.specs.Refine.{places_of}
use Rattle.map_laws.proofs.Expanding.{rising_more}
use Rattle.map_laws.proofs.FreshWires.{names_of}
use Rattle.map_laws.specs.Expansion.{AreRising, bits_from}
use Rattle.pass_laws.proofs.Counting.{cells_more, count, count_more, links_more}
use Rattle.pass_laws.proofs.Faultless.{type_is}
use Rattle.pass_laws.specs.Bits.{cells_bits, links_bits, pin_bits}
use Rattle.pass_laws.proofs.Placing.{bits_places, outputs_places, places_more, points_places}
use Rattle.pass_laws.proofs.Rewriting.{links-append}
use Rattle.build_laws.proofs.CountingItems.{often_more}
use Rattle.build_laws.proofs.CellFits.{bits_back}
use Rattle.build_laws.proofs.Growing.{IsPlainCell, with_more}
use Rattle.net_model.proofs.Ranges.{each_both, each_more, each_none}
use Rattle.net_model.specs.Within.{AreInner, Each}
use Rattle.rtl_ir.specs.declared.module.Link.{Link}
use Rattle.build_laws.proofs.CountingPlaces.{times, times_bits}

-- what is added between two states: the bits that the cells drive are among those of the wires and these further ones, those
-- that the connections drive among these
pub record Makes (old new : Building) (extra lefts : List WireBit) : Type 0 where
  pub cells : List Cell
  pub wires : List Wire
  pub links : List Link
  pub body : new.body ≡ with_more cells wires links old.body
  pub plain : Each IsPlainCell cells
  pub inner : AreInner wires
  pub names : AreRising old.next new.next (names_of wires)
  pub cells_low :
      (start : SigBit → Bit) (over : Ports) (p : Path) (ws : List Wire) (q : Place) →
      times q (places_of (cells_rows start over p ws cells)) ≤ times q (bits_places p ws (bits_from (length old.body.wires) wires)) + times q (bits_places p ws extra)
  pub links_low : (p : Path) (ws : List Wire) (q : Place) → times q (places_of (link_rows p ws links)) ≤ times q (bits_places p ws lefts)
  -- the same as the check counts bits
  pub cells_count : (ports : types.Ports) (x : WireBit) → count x (cells_bits ports cells) ≤ count x (bits_from (length old.body.wires) wires) + count x extra
  pub links_count : (x : WireBit) → count x (links_bits links) ≤ count x lefts

pub makes_none : (b : Building) → Makes b b [] []
makes_none b = record {
  cells = [];
  wires = [];
  links = [];
  body = let none : with_more [] [] [] b.body ≡ b.body = λ i. record b.body { cells = append-nil b.body.cells i; wires = append-nil b.body.wires i; links = append-nil b.body.links i } in sym none;
  plain = each_none IsPlainCell;
  inner = λ w i. absurd i;
  names = omega arith;
  cells_low = λ start over p ws q. omega arith;
  links_low = λ p ws q. omega arith;
  cells_count = λ ports x. omega arith;
  links_count = λ x. omega arith;
}

pub bits_more : (first : ℕ) (ws vs : List Wire) → bits_from first (ws ++ vs) ≡ bits_from first ws ++ bits_from (first + length ws) vs
bits_more first [] vs = ap (λ n. bits_from n vs) (omega arith)
bits_more first (w ∷ ws) vs =
    let place : (first + 1) + length ws ≡ first + length (w ∷ ws) = omega arith in
    ap (λ z. bits_of_wire first w.width ++ z) (bits_more (first + 1) ws vs ∙ ap (λ n. bits_from (first + 1) ws ++ bits_from n vs) place)
    ∙ sym (append_assoc (bits_of_wire first w.width) (bits_from (first + 1) ws) (bits_from (first + length (w ∷ ws)) vs))

pub makes_both : (a b c : Building) (xs ys ls ks : List WireBit) → Makes a b xs ls → Makes b c ys ks → Makes a c (xs ++ ys) (ls ++ ks)
makes_both a b c xs ys ls ks g h = record {
  cells = g.cells ++ h.cells;
  wires = g.wires ++ h.wires;
  links = g.links ++ h.links;
  body =
      h.body
      ∙ ap (with_more h.cells h.wires h.links) g.body
      ∙ (λ i. record a.body { cells = append_assoc a.body.cells g.cells h.cells i; wires = append_assoc a.body.wires g.wires h.wires i; links = append_assoc a.body.links g.links h.links i });
  plain = each_both IsPlainCell g.cells h.cells g.plain h.plain;
  inner = each_both _ g.wires h.wires g.inner h.inner;
  names = subst (AreRising a.next c.next) (sym (map-append (λ (w : Wire). w.name) g.wires h.wires)) (rising_more a.next b.next c.next (names_of g.wires) (names_of h.wires) g.names h.names);
  cells_low = λ start over p ws q.
      let count : length b.body.wires ≡ length a.body.wires + length g.wires = ap (λ (k : Module). length k.wires) g.body ∙ length-append a.body.wires g.wires in
      let cells = ap (λ z. times q (places_of z)) (rows-append start over p ws g.cells h.cells) ∙ ap (times q) (places_more (cells_rows start over p ws g.cells) (cells_rows start over p ws h.cells)) ∙ often_more place_same q (places_of (cells_rows start over p ws g.cells)) (places_of (cells_rows start over p ws h.cells)) in
      let fresh = ap (λ z. times q (bits_places p ws z)) (bits_more (length a.body.wires) g.wires h.wires ∙ ap (λ k. bits_from (length a.body.wires) g.wires ++ bits_from k h.wires) (sym count)) ∙ times_bits p ws q (bits_from (length a.body.wires) g.wires) (bits_from (length b.body.wires) h.wires) in
      omega (arith, cells, fresh, times_bits p ws q xs ys, g.cells_low start over p ws q, h.cells_low start over p ws q);
  links_low = λ p ws q.
      let links = ap (λ z. times q (places_of z)) (links-append p ws g.links h.links) ∙ ap (times q) (places_more (link_rows p ws g.links) (link_rows p ws h.links)) ∙ often_more place_same q (places_of (link_rows p ws g.links)) (places_of (link_rows p ws h.links)) in
      omega (arith, links, times_bits p ws q ls ks, g.links_low p ws q, h.links_low p ws q);
  cells_count = λ ports x.
      let count' : length b.body.wires ≡ length a.body.wires + length g.wires = ap (λ (k : Module). length k.wires) g.body ∙ length-append a.body.wires g.wires in
      let cells = ap (count x) (cells_more ports g.cells h.cells) ∙ count_more x (cells_bits ports g.cells) (cells_bits ports h.cells) in
      let fresh = ap (count x) (bits_more (length a.body.wires) g.wires h.wires ∙ ap (λ k. bits_from (length a.body.wires) g.wires ++ bits_from k h.wires) (sym count')) ∙ count_more x (bits_from (length a.body.wires) g.wires) (bits_from (length b.body.wires) h.wires) in
      omega (arith, cells, fresh, count_more x xs ys, g.cells_count ports x, h.cells_count ports x);
  links_count = λ x.
      let links = ap (count x) (links_more g.links h.links) ∙ count_more x (links_bits g.links) (links_bits h.links) in
      omega (arith, links, count_more x ls ks, g.links_count x, h.links_count x);
}

-- two steps of which neither drives other bits
pub makes_plain : (a b c : Building) → Makes a b [] [] → Makes b c [] [] → Makes a c [] []
makes_plain a b c g h = makes_both a b c [] [] [] [] g h

-- a cell that drives a fresh wire
pub makes_driver : (name : List ℕ) (kind : WordKind) (e : kind_of name ≡ Some (Word kind)) (params : List CellParam) (pins : List Pin) (width : ℕ) (b : Building) → signal_at (pins ++ pin_of (codes "\\Y") (whole (length b.body.wires) width) ∷ []) (pin_text Y) ≡ whole (length b.body.wires) width
    → pin_bits (Library (Word kind)) (pins ++ pin_of (codes "\\Y") (whole (length b.body.wires) width) ∷ []) ≡ wire_bits (whole (length b.body.wires) width) ++ []
    → Makes b (new_driver name params pins (codes "\\Y") width b).1 [] []
unfolding cell_kind
makes_driver name kind e params pins width b out drives = record {
  cells = record { kind_name = name; name = made_name b.next; params = params; pins = pins ++ pin_of (codes "\\Y") (whole (length b.body.wires) width) ∷ []; attributes = [] } ∷ [];
  wires = inner_wire (made_name (b.next + 1)) width [] ∷ [];
  links = [];
  body = λ i. record b.body { cells = b.body.cells ++ record { kind_name = name; name = made_name b.next; params = params; pins = pins ++ pin_of (codes "\\Y") (whole (length b.body.wires) width) ∷ []; attributes = [] } ∷ []; wires = b.body.wires ++ inner_wire (made_name (b.next + 1)) width [] ∷ []; links = sym (append-nil b.body.links) i };
  plain = each_more IsPlainCell _ [] (record { kind = Word kind; is = e; plain = refl }) (each_none IsPlainCell);
  inner = each_more _ _ [] refl (λ w i. absurd i);
  names = (b.next + 1, omega arith, refl, omega arith);
  cells_low = λ start over p ws q.
      let wire : ℕ = length b.body.wires in
      let c : Cell = record { kind_name = name; name = made_name b.next; params = params; pins = pins ++ pin_of (codes "\\Y") (whole wire width) ∷ []; attributes = [] } in
      let drives : places_of (cell_rows start over p ws c (Some (Word kind))) ≡ bits_places p ws (bits_of_wire wire width) =
      outputs_places _ _ (points p ws (signal_at c.pins (pin_text Y))) 0 ∙ points_places p ws (signal_at c.pins (pin_text Y)) ∙ ap (λ z. bits_places p ws (wire_bits z)) out ∙ ap (bits_places p ws) (bits_back (bits_of_wire wire width)) in
      let all : places_of (cells_rows start over p ws (c ∷ [])) ≡ bits_places p ws (bits_of_wire wire width) =
      ap places_of (append-nil (cell_rows start over p ws c (kind_of name))) ∙ ap (λ k. places_of (cell_rows start over p ws c k)) e ∙ drives in
      let fresh : bits_from wire (inner_wire (made_name (b.next + 1)) width [] ∷ []) ≡ bits_of_wire wire width = append-nil (bits_of_wire wire width) in
      omega (arith, ap (times q) all, ap (λ z. times q (bits_places p ws z)) fresh);
  links_low = λ p ws q. omega arith;
  cells_count = λ ports x.
      let wire : ℕ = length b.body.wires in
      let c : Cell = record { kind_name = name; name = made_name b.next; params = params; pins = pins ++ pin_of (codes "\\Y") (whole wire width) ∷ []; attributes = [] } in
      let own : cells_bits ports (c ∷ []) ≡ bits_of_wire wire width =
      append-nil (pin_bits (cell_type ports name) c.pins) ∙ ap (λ t. pin_bits t c.pins) (type_is ports c (Word kind) e) ∙ drives ∙ append-nil (wire_bits (whole wire width)) ∙ bits_back (bits_of_wire wire width) in
      let fresh : bits_from wire (inner_wire (made_name (b.next + 1)) width [] ∷ []) ≡ bits_of_wire wire width = append-nil (bits_of_wire wire width) in
      omega (arith, ap (count x) own, ap (count x) fresh);
  links_count = λ x. omega arith;
}

-- a fresh wire
pub makes_wire : (width : ℕ) (attributes : List Attribute) (b : Building) → Makes b (fresh_wire width attributes b).1 [] []
makes_wire width attributes b = record {
  cells = [];
  wires = inner_wire (made_name b.next) width attributes ∷ [];
  links = [];
  body = λ i. record b.body { cells = sym (append-nil b.body.cells) i; wires = b.body.wires ++ inner_wire (made_name b.next) width attributes ∷ []; links = sym (append-nil b.body.links) i };
  plain = each_none IsPlainCell;
  inner = each_more _ _ [] refl (λ w i. absurd i);
  names = (b.next, omega arith, refl, omega arith);
  cells_low = λ start over p ws q. omega arith;
  links_low = λ p ws q. omega arith;
  cells_count = λ ports x. omega arith;
  links_count = λ x. omega arith;
}

stores_places : (start : SigBit → Bit) (shape : Shape) (reads : ℕ → StorePoints) (p : Path) (ws : List Wire) (ss : List SigBit) (at : ℕ) → places_of (stores start shape reads ss (points p ws ss) at) ≡ places (points p ws ss)
stores_places start shape reads p ws [] at = refl
stores_places start shape reads p ws (Fixed b ∷ ss) at = stores_places start shape reads p ws ss (suc at)
stores_places start shape reads p ws (OnWire b ∷ ss) at =
    ap (λ z. bit_place p ws b ∷ z) (stores_places start shape reads p ws ss (suc at))

-- a storage cell that drives bits that were there
pub makes_store : (name : List ℕ) (kind : StorageKind) (e : kind_of name ≡ Some (Storage kind)) (params : List CellParam) (pins : List Pin) (b : Building) → pin_bits (Library (Storage kind)) pins ≡ wire_bits (signal_at pins (pin_text Q)) ++ [] → Makes b (new_cell name params pins b) (wire_bits (signal_at pins (pin_text Q))) []
unfolding cell_kind
makes_store name kind e params pins b drives = record {
  cells = record { kind_name = name; name = made_name b.next; params = params; pins = pins; attributes = [] } ∷ [];
  wires = [];
  links = [];
  body = λ i. record b.body { cells = b.body.cells ++ record { kind_name = name; name = made_name b.next; params = params; pins = pins; attributes = [] } ∷ []; wires = sym (append-nil b.body.wires) i; links = sym (append-nil b.body.links) i };
  plain = each_more IsPlainCell _ [] (record { kind = Storage kind; is = e; plain = refl }) (each_none IsPlainCell);
  inner = λ w i. absurd i;
  names = omega arith;
  cells_low = λ start over p ws q.
      let c : Cell = record { kind_name = name; name = made_name b.next; params = params; pins = pins; attributes = [] } in
      let drives : places_of (cell_rows start over p ws c (Some (Storage kind))) ≡ bits_places p ws (wire_bits (signal_at pins (pin_text Q))) =
      stores_places start _ _ p ws (signal_at pins (pin_text Q)) 0 ∙ points_places p ws (signal_at pins (pin_text Q)) in
      let all : places_of (cells_rows start over p ws (c ∷ [])) ≡ bits_places p ws (wire_bits (signal_at pins (pin_text Q))) =
      ap places_of (append-nil (cell_rows start over p ws c (kind_of name))) ∙ ap (λ k. places_of (cell_rows start over p ws c k)) e ∙ drives in
      omega (arith, ap (times q) all);
  links_low = λ p ws q. omega arith;
  cells_count = λ ports x.
      let c : Cell = record { kind_name = name; name = made_name b.next; params = params; pins = pins; attributes = [] } in
      let own : cells_bits ports (c ∷ []) ≡ wire_bits (signal_at pins (pin_text Q)) =
      append-nil (pin_bits (cell_type ports name) pins) ∙ ap (λ t. pin_bits t pins) (type_is ports c (Storage kind) e) ∙ drives ∙ append-nil (wire_bits (signal_at pins (pin_text Q))) in
      omega (arith, ap (count x) own);
  links_count = λ x. omega arith;
}

joins_low : (q : Place) (ls rs : List Point) → times q (places_of (joins ls rs)) ≤ times q (places ls)
joins_low q [] rs = omega arith
joins_low q (At l ∷ ls) [] = omega arith
joins_low q (Constant b ∷ ls) [] = omega arith
joins_low q (At l ∷ ls) (r ∷ rs) = omega (arith, joins_low q ls rs)
joins_low q (Constant b ∷ ls) (r ∷ rs) = joins_low q ls rs

-- a connection
pub makes_link : (left right : List SigBit) (b : Building) → Makes b (new_link left right b) [] (wire_bits left)
makes_link left right b = record {
  cells = [];
  wires = [];
  links = record { left = left; right = right } ∷ [];
  body = λ i. record b.body { cells = sym (append-nil b.body.cells) i; wires = sym (append-nil b.body.wires) i; links = b.body.links ++ record { left = left; right = right } ∷ [] };
  plain = each_none IsPlainCell;
  inner = λ w i. absurd i;
  names = omega arith;
  cells_low = λ start over p ws q. omega arith;
  links_low = λ p ws q.
      let all : places_of (link_rows p ws (record { left = left; right = right } ∷ [])) ≡ places_of (joins (points p ws left) (points p ws right)) = ap places_of (append-nil (joins (points p ws left) (points p ws right))) in
      omega (arith, ap (times q) all, joins_low q (points p ws left) (points p ws right), ap (times q) (points_places p ws left));
  cells_count = λ ports x. omega arith;
  links_count = λ x. omega (arith, ap (count x) (append-nil (wire_bits left)));
}
