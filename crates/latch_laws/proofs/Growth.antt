-- What the step adds to a module: cells that drive fresh wires and storage bits, and connections.
use Rattle.std.proofs.Common.{◌≡◌, ◌≤◌, ◌<◌, ℕ, ◌+◌, false, List, [], ◌∷◌, ◌++◌, length, Some, refl, sym, ◌∙◌, ap, subst, arith, append_assoc, length-append, append-nil}
use Rattle.std.specs.Prelude.{flat_map}
use Rattle.std.proofs.lemmas.Grind.{flat_map-append}
use Rattle.cell_types.specs.declared.kind.CellKind.{CellKind}
use Rattle.cell_types.specs.declared.kind.CellKind.TheVariants.{Storage, Word}
use Rattle.cell_types.specs.declared.level.Level.TheVariants.{High}
use Rattle.cell_types.specs.declared.pin_name.PinName.{PinName}
use Rattle.cell_types.specs.declared.pin_name.PinName.TheVariants.{Q, Y}
use Rattle.rtl_sig.specs.declared.sig.SigBit.{SigBit}
use Rattle.rtl_sig.specs.declared.sig.WireBit.{WireBit}
use Rattle.rtl_ir.specs.Build.{Building}
use Rattle.rtl_ir.specs.Faults.Cells.{is_memory_kind}
use Rattle.rtl_ir.specs.Flat.Process.{Trigger}
use Rattle.rtl_ir.specs.declared.follow.Join.{Join}
use Rattle.rtl_ir.specs.Outputs.{output_pin}
use Rattle.rtl_ir.specs.Signals.{bits_of_wire}
use Rattle.rtl_ir.specs.declared.cell.Cell.{Cell}
use Rattle.rtl_ir.specs.declared.module.Link.{Link}
use Rattle.rtl_ir.specs.declared.wire.Wire.{Wire}
use Rattle.net_model.proofs.Members.{map-append}
use Rattle.net_model.proofs.Ranges.{JoinIn, each_both, each_more, each_none}
use Rattle.net_model.specs.Proc.Latch.{latch_cell}
use Rattle.net_model.specs.Within.{BitIn, Each}
use Rattle.map_laws.proofs.Expanding.{adds_more, adds_none, rising_more}
use Rattle.map_laws.proofs.FreshWires.{names_of}
use Rattle.map_laws.proofs.Wholes.{cell_more, line_more}
use Rattle.map_laws.specs.Expansion.{Adds, AreRising, IsBare, IsWhole, IsWholeLink, bits_from, cell_bits, kind_bits}
use Rattle.pass_laws.proofs.Counting.{count, count_more, links_more}
use Rattle.pass_laws.specs.Bits.{links_bits}
use Rattle.mux_laws.proofs.FrameGrowing.{GrowsBy, IsWholeWord}
use Rattle.sync_laws.proofs.Parts.{dlatch_part, named}
use Rattle.sync_laws.proofs.StoreParts.{IsOneBit, IsStorePart, dlatch_whole}

-- a cell of the library that is none of a memory, in a module of so many wires
pub record IsPlain (wires : ℕ) (c : Cell) : Type 0 where
  pub kind : CellKind
  pub apart : is_memory_kind kind ≡ false
  pub name : PinName
  pub output : output_pin kind ≡ Some name
  pub whole : IsWhole wires kind c

plain_more : (few many : ℕ) (c : Cell) → few ≤ many → IsPlain few c → IsPlain many c
plain_more few many c h p = record {
  kind = p.kind;
  apart = p.apart;
  name = p.name;
  output = p.output;
  whole = record { own = p.whole.own; shape = p.whole.shape; output = p.whole.output; within = cell_more few many c h p.whole.within };
}

-- from one module to another there went last fresh wires, plain cells and connections: together these drive each bit of a fresh
-- wire once, and these bits
pub record Grows (old new : Building) (driven : List WireBit) : Type 0 where
  pub cells : List Cell
  pub wires : List Wire
  pub links : List Link
  pub adds : Adds old new cells wires links
  pub named : AreRising old.next new.next (names_of wires)
  pub bare : Each IsBare wires
  pub plain : Each (IsPlain (length new.body.wires)) cells
  pub lines : Each (IsWholeLink (length new.body.wires)) links
  pub drives : (x : WireBit) → count x (flat_map cell_bits cells) + count x (links_bits links) ≡ count x (bits_from (length old.body.wires) wires) + count x driven

pub grows_none : (b : Building) → Grows b b []
grows_none b = record {
  cells = [];
  wires = [];
  links = [];
  adds = adds_none b;
  named = omega arith;
  bare = each_none IsBare;
  plain = each_none (IsPlain (length b.body.wires));
  lines = each_none (IsWholeLink (length b.body.wires));
  drives = λ x. refl;
}

wires_count : (old new : Building) (driven : List WireBit) (g : Grows old new driven) → length new.body.wires ≡ length old.body.wires + length g.wires
wires_count old new driven g = ap (λ m. length m.wires) g.adds.body ∙ length-append old.body.wires g.wires

-- there are no fewer wires
pub no_fewer : (old new : Building) (driven : List WireBit) → Grows old new driven → length old.body.wires ≤ length new.body.wires
no_fewer old new driven g = omega (arith, wires_count old new driven g)

fresh_more : (first : ℕ) (ws vs : List Wire) → bits_from first (ws ++ vs) ≡ bits_from first ws ++ bits_from (first + length ws) vs
fresh_more first [] vs = ap (λ n. bits_from n vs) (omega arith)
fresh_more first (w ∷ ws) vs =
    let place : (first + 1) + length ws ≡ first + length (w ∷ ws) = omega arith in
    ap (λ z. bits_of_wire first w.width ++ z) (fresh_more (first + 1) ws vs ∙ ap (λ n. bits_from (first + 1) ws ++ bits_from n vs) place)
    ∙ sym (append_assoc (bits_of_wire first w.width) (bits_from (first + 1) ws) (bits_from (first + length (w ∷ ws)) vs))

pub grows_more : (a b c : Building) (xs ys : List WireBit) → Grows a b xs → Grows b c ys → Grows a c (xs ++ ys)
grows_more a b c xs ys g h =
    let later = no_fewer b c ys h in
    record {
      cells = g.cells ++ h.cells;
      wires = g.wires ++ h.wires;
      links = g.links ++ h.links;
      adds = adds_more a b c g.cells h.cells g.wires h.wires g.links h.links g.adds h.adds;
      named = subst (AreRising a.next c.next) (sym (map-append (λ (w : Wire). w.name) g.wires h.wires)) (rising_more a.next b.next c.next (names_of g.wires) (names_of h.wires) g.named h.named);
      bare = each_both IsBare g.wires h.wires g.bare h.bare;
      plain = each_both (IsPlain (length c.body.wires)) g.cells h.cells (λ d i. plain_more (length b.body.wires) (length c.body.wires) d later (g.plain d i)) h.plain;
      lines = each_both (IsWholeLink (length c.body.wires)) g.links h.links (λ l i. line_more (length b.body.wires) (length c.body.wires) l later (g.lines l i)) h.lines;
      drives = λ x.
          let cells = ap (count x) (flat_map-append cell_bits g.cells h.cells) ∙ count_more x (flat_map cell_bits g.cells) (flat_map cell_bits h.cells) in
          let links = ap (count x) (links_more g.links h.links) ∙ count_more x (links_bits g.links) (links_bits h.links) in
          let fresh = ap (count x) (fresh_more (length a.body.wires) g.wires h.wires ∙ ap (λ n. bits_from (length a.body.wires) g.wires ++ bits_from n h.wires) (sym (wires_count a b xs g))) ∙ count_more x (bits_from (length a.body.wires) g.wires) (bits_from (length b.body.wires) h.wires) in
          omega (arith, cells, links, fresh, count_more x xs ys, g.drives x, h.drives x);
    }

-- cells of trees, and connections
pub of_words : (old new : Building) (driven : List WireBit) → GrowsBy old new driven → Grows old new driven
of_words old new driven g = record {
  cells = g.cells;
  wires = g.wires;
  links = g.links;
  adds = g.adds;
  named = g.named;
  bare = g.bare;
  plain = λ c i. let w : IsWholeWord (length new.body.wires) c = g.words c i in record { kind = Word w.kind; apart = refl; name = Y; output = refl; whole = w.whole };
  lines = g.lines;
  drives = λ x. λ i. count x (g.outputs i) + count x (g.lefts i);
}

-- a latch of one bit
module _ (b : Building) (q : WireBit) (new enable : SigBit) (there : BitIn (length b.body.wires) new) (level : BitIn (length b.body.wires) enable) (own : q.wire < length b.body.wires) where
  abbrev trigger : Trigger
  trigger = record { signal = enable ∷ []; level = High }

  abbrev place : Join
  place = record { bit = q; source = new }

  abbrev cell : Cell
  cell = named (dlatch_part trigger (place ∷ [])) b.next

  one : IsOneBit (length b.body.wires) trigger
  one = record { one = refl; within = each_more (BitIn (length b.body.wires)) enable [] level (each_none (BitIn (length b.body.wires))) }

  inside : Each (JoinIn (length b.body.wires)) (place ∷ [])
  inside = each_more (JoinIn (length b.body.wires)) place [] (record { bit = own; source = there }) (each_none (JoinIn (length b.body.wires)))

  part : IsStorePart (length b.body.wires) (dlatch_part trigger (place ∷ []))
  part = dlatch_whole (length b.body.wires) (place ∷ []) (omega arith) (omega arith) inside trigger one

  drives_own : cell_bits cell ≡ q ∷ []
  drives_own = ap (λ k. kind_bits k cell) (part.whole b.next).own ∙ own_bits
    where
      own_bits : kind_bits (Some (Storage part.kind)) cell ≡ q ∷ []
      own_bits = refl

  pub grows_latch : Grows b (latch_cell q new enable b) (q ∷ [])
  grows_latch = record {
    cells = cell ∷ [];
    wires = [];
    links = [];
    adds = record {
      body =
          let same : record b.body { cells = b.body.cells ++ cell ∷ []; wires = b.body.wires ++ []; links = b.body.links ++ [] } ≡ (latch_cell q new enable b).body = λ i. record b.body { cells = b.body.cells ++ cell ∷ []; wires = append-nil b.body.wires i; links = append-nil b.body.links i } in
          sym same;
      next = omega arith;
    };
    named = omega arith;
    bare = each_none IsBare;
    plain = each_more (IsPlain (length b.body.wires)) cell [] (record { kind = Storage part.kind; apart = refl; name = Q; output = refl; whole = part.whole b.next }) (each_none (IsPlain (length b.body.wires)));
    lines = each_none (IsWholeLink (length b.body.wires));
    drives = λ x. let d = ap (count x) (ap (λ z. z ++ []) drives_own) in omega (arith, d);
  }
