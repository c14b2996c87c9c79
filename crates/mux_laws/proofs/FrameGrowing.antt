-- What is added to a module: word cells that each drive the whole of one fresh wire, and connections.
use Rattle.std.proofs.Common.{◌≡◌, ◌≤◌, ◌<◌, ℕ, ◌+◌, List, [], ◌∷◌, ◌++◌, length, refl, sym, ◌∙◌, ap, subst, append_assoc, arith, length-append}
use Rattle.std.specs.Prelude.{codes, flat_map, map, not}
use Rattle.std.proofs.lemmas.Bool.{eq-eqb}
use Rattle.std.proofs.lemmas.Grind.{flat_map-append}
use Rattle.std.proofs.lemmas.List.{append-nil, length-map}
use Rattle.cell_types.specs.PinName.{pin_text}
use Rattle.cell_types.specs.declared.kind.CellKind.TheVariants.{Word}
use Rattle.cell_types.specs.declared.pin_name.PinName.TheVariants.{Y}
use Rattle.cell_types.specs.declared.word.WordKind.{WordKind}
use Rattle.rtl_sig.specs.declared.sig.SigBit.{SigBit}
use Rattle.rtl_sig.specs.declared.sig.SigBit.TheVariants.{Wire as OnWire}
use Rattle.rtl_sig.specs.declared.sig.WireBit.{WireBit}
use Rattle.rtl_ir.specs.Build.{Building, inner_wire, made_name, new_driver, new_link, pin_of, whole}
use Rattle.rtl_ir.specs.Parameters.{signal_at}
use Rattle.rtl_ir.specs.Signals.{bits_of_wire, wire_bits}
use Rattle.rtl_ir.specs.declared.cell.Cell.{Cell}
use Rattle.rtl_ir.specs.declared.cell.CellParam.{CellParam}
use Rattle.rtl_ir.specs.declared.cell.Pin.{Pin}
use Rattle.rtl_ir.specs.declared.module.Link.{Link}
use Rattle.rtl_ir.specs.declared.wire.Wire.{Wire}
use Rattle.net_model.proofs.Members.{map-append}
use Rattle.net_model.proofs.Ranges.{each_both, each_more, each_none}
use Rattle.net_model.specs.Within.{Each, SigIn}
use Rattle.map_laws.proofs.Expanding.{adds_more, adds_none, rising_more}
use Rattle.map_laws.proofs.FreshWires.{names_of}
use Rattle.map_laws.proofs.Wholes.{cell_more, line_more}
use Rattle.map_laws.specs.Expansion.{Adds, AreRising, IsBare, IsWhole, IsWholeLink, bits_from, cell_bits, kind_bits}
use Rattle.pass_laws.proofs.Counting.{links_more}
use Rattle.pass_laws.specs.Bits.{links_bits}
use Rattle.build_laws.proofs.CellFits.{bits_back, bits_within, no_constant}

-- a combinational cell on words, in a module of so many wires
pub record IsWholeWord (count : ℕ) (c : Cell) : Type 0 where
  pub kind : WordKind
  pub whole : IsWhole count (Word kind) c

pub word_more : (few many : ℕ) (c : Cell) → few ≤ many → IsWholeWord few c → IsWholeWord many c
word_more few many c h w = record {
  kind = w.kind;
  whole = record { own = w.whole.own; shape = w.whole.shape; output = w.whole.output; within = cell_more few many c h w.whole.within };
}

-- from one module to another there went last cells that each drive the whole of one fresh wire, in order, and connections that
-- drive these bits
pub record GrowsBy (old new : Building) (driven : List WireBit) : Type 0 where
  pub cells : List Cell
  pub wires : List Wire
  pub links : List Link
  pub adds : Adds old new cells wires links
  pub named : AreRising old.next new.next (names_of wires)
  pub bare : Each IsBare wires
  pub words : Each (IsWholeWord (length new.body.wires)) cells
  pub lines : Each (IsWholeLink (length new.body.wires)) links
  pub outputs : flat_map cell_bits cells ≡ bits_from (length old.body.wires) wires
  pub lefts : links_bits links ≡ driven

pub grows_none : (b : Building) → GrowsBy b b []
grows_none b = record {
  cells = [];
  wires = [];
  links = [];
  adds = adds_none b;
  named = omega arith;
  bare = each_none IsBare;
  words = each_none (IsWholeWord (length b.body.wires));
  lines = each_none (IsWholeLink (length b.body.wires));
  outputs = refl;
  lefts = refl;
}

-- there are no fewer wires
pub wires_count : (old new : Building) (driven : List WireBit) (g : GrowsBy old new driven) → length new.body.wires ≡ length old.body.wires + length g.wires
wires_count old new driven g = ap (λ m. length m.wires) g.adds.body ∙ length-append old.body.wires g.wires

pub no_fewer : (old new : Building) (driven : List WireBit) → GrowsBy old new driven → length old.body.wires ≤ length new.body.wires
no_fewer old new driven g = omega (arith, wires_count old new driven g)

bits_more : (first : ℕ) (ws vs : List Wire) → bits_from first (ws ++ vs) ≡ bits_from first ws ++ bits_from (first + length ws) vs
bits_more first [] vs = ap (λ n. bits_from n vs) (omega arith)
bits_more first (w ∷ ws) vs =
    let place : (first + 1) + length ws ≡ first + length (w ∷ ws) = omega arith in
    ap (λ z. bits_of_wire first w.width ++ z) (bits_more (first + 1) ws vs ∙ ap (λ n. bits_from (first + 1) ws ++ bits_from n vs) place)
    ∙ sym (append_assoc (bits_of_wire first w.width) (bits_from (first + 1) ws) (bits_from (first + length (w ∷ ws)) vs))

pub grows_more : (a b c : Building) (xs ys : List WireBit) → GrowsBy a b xs → GrowsBy b c ys → GrowsBy a c (xs ++ ys)
grows_more a b c xs ys g h =
    let later = no_fewer b c ys h in
    record {
      cells = g.cells ++ h.cells;
      wires = g.wires ++ h.wires;
      links = g.links ++ h.links;
      adds = adds_more a b c g.cells h.cells g.wires h.wires g.links h.links g.adds h.adds;
      named = subst (AreRising a.next c.next) (sym (map-append (λ (w : Wire). w.name) g.wires h.wires)) (rising_more a.next b.next c.next (names_of g.wires) (names_of h.wires) g.named h.named);
      bare = each_both IsBare g.wires h.wires g.bare h.bare;
      words = each_both (IsWholeWord (length c.body.wires)) g.cells h.cells (λ d i. word_more (length b.body.wires) (length c.body.wires) d later (g.words d i)) h.words;
      lines = each_both (IsWholeLink (length c.body.wires)) g.links h.links (λ l i. line_more (length b.body.wires) (length c.body.wires) l later (g.lines l i)) h.lines;
      outputs =
          flat_map-append cell_bits g.cells h.cells
          ∙ (λ i. g.outputs i ++ h.outputs i)
          ∙ ap (λ n. bits_from (length a.body.wires) g.wires ++ bits_from n h.wires) (wires_count a b xs g)
          ∙ sym (bits_more (length a.body.wires) g.wires h.wires);
      lefts = links_more g.links h.links ∙ (λ i. g.lefts i ++ h.lefts i);
    }

-- two steps that add no connection
pub grows_both : (a b c : Building) → GrowsBy a b [] → GrowsBy b c [] → GrowsBy a c []
grows_both a b c g h = grows_more a b c [] [] g h

-- a cell that drives the whole of one fresh wire
module _ (b : Building) (kind : WordKind) (type : List ℕ) (params : List CellParam) (pins : List Pin) (width : ℕ) where
  abbrev pub driver_cell : Cell
  driver_cell = record {
    kind_name = type;
    name = made_name b.next;
    params = params;
    pins = pins ++ pin_of (codes "\\Y") (whole (length b.body.wires) width) ∷ [];
    attributes = [];
  }

  abbrev pub with_driver : Building
  with_driver = (new_driver type params pins (codes "\\Y") width b).1

  pub driver_there : length b.body.wires < length with_driver.body.wires
  driver_there = omega (arith, length-append b.body.wires (inner_wire (made_name (b.next + 1)) width [] ∷ []))

  pub grows_driver : IsWhole (length with_driver.body.wires) (Word kind) driver_cell → signal_at driver_cell.pins (pin_text Y) ≡ whole (length b.body.wires) width → GrowsBy b with_driver []
  grows_driver is output = record {
    cells = driver_cell ∷ [];
    wires = inner_wire (made_name (b.next + 1)) width [] ∷ [];
    links = [];
    adds = record {
      body =
          let same : record b.body { cells = b.body.cells ++ driver_cell ∷ []; wires = b.body.wires ++ inner_wire (made_name (b.next + 1)) width [] ∷ []; links = b.body.links ++ [] } ≡ with_driver.body = λ i. record b.body { cells = b.body.cells ++ driver_cell ∷ []; wires = b.body.wires ++ inner_wire (made_name (b.next + 1)) width [] ∷ []; links = append-nil b.body.links i } in
          sym same;
      next = omega arith;
    };
    named = (b.next + 1, omega arith, refl, omega arith);
    bare = each_more IsBare (inner_wire (made_name (b.next + 1)) width []) [] refl (each_none IsBare);
    words = each_more (IsWholeWord (length with_driver.body.wires)) driver_cell [] (record { kind = kind; whole = is }) (each_none (IsWholeWord (length with_driver.body.wires)));
    lines = each_none (IsWholeLink (length with_driver.body.wires));
    outputs = ap (λ z. z ++ []) (ap (λ k. kind_bits k driver_cell) is.own ∙ ap wire_bits output ∙ bits_back (bits_of_wire (length b.body.wires) width));
    lefts = refl;
  }

-- a connection
pub grows_link : (b : Building) (bits : List WireBit) (right : List SigBit) → length right ≡ length bits → Each (λ (x : WireBit). x.wire < length b.body.wires) bits → SigIn (length b.body.wires) right → GrowsBy b (new_link (map OnWire bits) right b) bits
grows_link b bits right wide h i = record {
  cells = [];
  wires = [];
  links = record { left = map OnWire bits; right = right } ∷ [];
  adds = record {
    body =
        let with_nothing : record b.body { links = b.body.links ++ record { left = map OnWire bits; right = right } ∷ [] } ≡ record b.body { cells = b.body.cells ++ []; wires = b.body.wires ++ []; links = b.body.links ++ record { left = map OnWire bits; right = right } ∷ [] } = sym (λ i. record b.body { cells = append-nil b.body.cells i; wires = append-nil b.body.wires i; links = b.body.links ++ record { left = map OnWire bits; right = right } ∷ [] }) in
        with_nothing;
    next = omega arith;
  };
  named = omega arith;
  bare = each_none IsBare;
  words = each_none (IsWholeWord (length b.body.wires));
  lines = each_more (IsWholeLink (length b.body.wires)) (record { left = map OnWire bits; right = right }) [] (record {
    even = ap not (eq-eqb (length (map OnWire bits)) (length right) (length-map bits OnWire ∙ sym wide));
    left = no_constant bits;
    within = (bits_within (length b.body.wires) bits h, i);
  }) (each_none (IsWholeLink (length b.body.wires)));
  outputs = refl;
  lefts = append-nil (wire_bits (map OnWire bits)) ∙ bits_back bits;
}
