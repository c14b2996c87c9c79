-- What is added to a module piece by piece: each piece drives its own wires and certain bits, and solutions of its rows have
-- a fact.
use Rattle.std.proofs.Common.{◌≡◌, ℕ, ◌+◌, ◌*◌, ◌≤◌, List, [], ◌++◌, length, Some, refl, sym, ◌∙◌, ap, subst, arith}
use Rattle.std.specs.Prelude.{flat_map, map, IsPermutation}
use Rattle.std.proofs.lemmas.Grind.{flat_map-append}
use Rattle.std.proofs.lemmas.List.{append-nil}
use Rattle.std.proofs.lemmas.List.Sorted.{IsPermutation-append, IsPermutation-refl, IsPermutation-trans}
use Rattle.cell_types.specs.declared.kind.CellKind.TheVariants.{Word}
use Rattle.cell_types.specs.declared.word.WordKind.{WordKind}
use Rattle.rtl_bits.specs.declared.bit.Bit.{Bit}
use Rattle.rtl_bits.specs.declared.bit.Bit.TheVariants.{X}
use Rattle.rtl_ir.specs.Build.{Build, Building}
use Rattle.rtl_ir.specs.Flat.Cell.{Ports, cell_kind, cell_rows, cells_rows, instance_of, instances, listed}
use Rattle.rtl_ir.specs.Flat.Driver.{Driven}
use Rattle.rtl_ir.specs.Flat.Link.{link_rows}
use Rattle.rtl_ir.specs.Flat.Place.{Path, Place}
use Rattle.rtl_ir.specs.declared.cell.Cell.{Cell}
use Rattle.rtl_ir.specs.declared.wire.Wire.{Wire}
use Rattle.rtl_sig.specs.declared.sig.SigBit.{SigBit}
use Rattle.rtl_sig.specs.declared.sig.WireBit.{WireBit}
use Rattle.net_model.proofs.Members.{In-left, In-right, map-append}
use Rattle.net_model.proofs.Ranges.{each_both}
use Rattle.net_model.proofs.Swapping.{instances-append, rows-append}
use Rattle.net_model.specs.Lists.{In}
use Rattle.net_model.specs.Refine.{IsMet}
use Rattle.net_model.specs.Run.{Time, Start}
use Rattle.net_model.specs.Valuation.{Valuation}
use Rattle.net_model.specs.Within.{Each}
use Rattle.map_laws.proofs.Expanding.{adds_more, adds_none, bits_further, cells_are, expansion, rising_more, wires_count}
use Rattle.map_laws.proofs.Reordering.{exchanged, to_permutation}
use Rattle.map_laws.proofs.Wholes.{gate_more}
use Rattle.map_laws.specs.Expansion.{Adds, AreRising, IsBare, IsExpansion, IsWholeGate, StandsWith, bits_from, cell_bits, cells_added, links_added}
use Rattle.gate_nets.proofs.Added.{adds_gates, cells_of, wires_of}
use Rattle.gate_nets.proofs.Expanding.{next_after}
use Rattle.gate_nets.proofs.Nets.{Net, nothing, wires_after}
use Rattle.gate_nets.proofs.Standing.{fair_rows, here, here_reads, reads}
use Rattle.gate_nets.proofs.Wholes.{cell_names, fair_names, gates_bits, gates_whole, names, no_instances, wire_names, wires_bare}
use Rattle.gate_nets.specs.declared.gate.Gate.{Gate}

-- whole gates and bare wires of rising names, which drive each bit of the wires and each of these bits once
pub record Piece (old new : Building) (bits : List WireBit) : Type 0 where
  pub cells : List Cell
  pub wires : List Wire
  pub adds : Adds old new cells wires []
  pub cell_names : AreRising old.next new.next (map (λ (d : Cell). d.name) cells)
  pub wire_names : AreRising old.next new.next (map (λ (w : Wire). w.name) wires)
  pub bare : Each IsBare wires
  pub gates : Each (IsWholeGate (length new.body.wires)) cells
  pub driven : IsPermutation (flat_map cell_bits cells) (bits_from (length old.body.wires) wires ++ bits)

pub piece_none : (b : Building) → Piece b b []
piece_none b = record {
  cells = [];
  wires = [];
  adds = adds_none b;
  cell_names = omega arith;
  wire_names = omega arith;
  bare = λ w i. absurd i;
  gates = λ d i. absurd i;
  driven = IsPermutation-refl [];
}

-- a piece only adds wires
pub piece_grows : (a b : Building) (bits : List WireBit) → Piece a b bits → length a.body.wires ≤ length b.body.wires
piece_grows a b bits h = omega (arith, wires_count a b h.cells h.wires [] h.adds)

-- one piece after another
pub piece_more : (a b c : Building) (xs ys : List WireBit) → Piece a b xs → Piece b c ys → Piece a c (xs ++ ys)
piece_more a b c xs ys h k =
    let few : ℕ = length a.body.wires in
    let own : List WireBit = bits_from few h.wires in
    let more : List WireBit = bits_from (length b.body.wires) k.wires in
    let bits : own ++ more ≡ bits_from few (h.wires ++ k.wires) =
    ap (λ n. own ++ bits_from n k.wires) (wires_count a b h.cells h.wires [] h.adds) ∙ sym (bits_further few h.wires k.wires)
    in
    record {
      cells = h.cells ++ k.cells;
      wires = h.wires ++ k.wires;
      adds = adds_more a b c h.cells k.cells h.wires k.wires [] [] h.adds k.adds;
      cell_names =
          subst (AreRising a.next c.next) (sym (map-append (λ (d : Cell). d.name) h.cells k.cells))
          (rising_more a.next b.next c.next _ _ h.cell_names k.cell_names);
      wire_names =
          subst (AreRising a.next c.next) (sym (map-append (λ (w : Wire). w.name) h.wires k.wires))
          (rising_more a.next b.next c.next _ _ h.wire_names k.wire_names);
      bare = each_both IsBare h.wires k.wires h.bare k.bare;
      gates =
          each_both (IsWholeGate (length c.body.wires)) h.cells k.cells
          (λ d i. gate_more (length b.body.wires) (length c.body.wires) d (piece_grows b c ys k) (h.gates d i)) k.gates;
      driven =
          IsPermutation-trans _ _ _ (to_permutation _ _ (flat_map-append cell_bits h.cells k.cells))
          (IsPermutation-trans _ _ _ (IsPermutation-append _ _ _ _ h.driven k.driven)
          (IsPermutation-trans _ _ _ (exchanged own xs more ys) (to_permutation _ _ (ap (λ z. z ++ (xs ++ ys)) bits))));
    }

-- a piece that drives what a cell drives is an expansion of the cell
pub piece_expands : (old new : Building) (c : Cell) → Piece old new (cell_bits c) → IsExpansion old new c
piece_expands old new c h =
    expansion old new h.cells h.wires [] h.adds c (record {
      adds = h.adds;
      cell_names = h.cell_names;
      wire_names = h.wire_names;
      bare = h.bare;
      gates = h.gates;
      lines = λ l i. absurd i;
      driven =
          IsPermutation-trans _ _ _ (to_permutation _ _ (append-nil (flat_map cell_bits h.cells))) h.driven;
    })

-- a net only adds wires
pub net_grows : {A R : Type 0} {W : A → Type 0} (m : Build A) (b : Building) → Net nothing R m W → length b.body.wires ≤ length (m b).1.body.wires
net_grows m b n = omega (arith, ap (λ z. length z.body.wires) (n.is b), wires_after (n.gates b) b)

-- a net is a piece that drives its own wires alone, where its inputs name wires of the module
pub net_piece : {A R : Type 0} {W : A → Type 0} (m : Build A) (b : Building) → Net (names (length (m b).1.body.wires)) R m W → R → Piece b (m b).1 [] × W (m b).0
net_piece m b n r =
    let gates : List Gate = n.gates b in
    let few : ℕ = length b.body.wires in
    let new : Building = (m b).1 in
    let count : ℕ = length new.body.wires in
    let fits : few + length gates ≤ count = omega (arith, ap (λ z. length z.body.wires) (n.is b), wires_after gates b) in
    let fed = n.holds b r (fair_names count few gates fits) in
    let numbers : b.next + 2 * length gates ≤ new.next = omega (arith, ap (λ z. z.next) (n.is b), next_after gates b) in (
      record {
        cells = cells_of b.next few gates;
        wires = wires_of b.next gates;
        adds = subst (λ z. Adds b z (cells_of b.next few gates) (wires_of b.next gates) []) (sym (n.is b)) (adds_gates gates b);
        cell_names = cell_names b.next few gates new.next numbers;
        wire_names = wire_names b.next gates new.next numbers;
        bare = wires_bare b.next gates;
        gates = gates_whole count b.next few gates fed.0 fits;
        driven = to_permutation _ _ (gates_bits b.next few gates ∙ sym (append-nil (bits_from few (wires_of b.next gates))));
      },
      fed.1,
    )

module _ (ports : Ports) (start : SigBit → Bit) (p : Path) (wires : List Wire) (t : Time Place) (w : Valuation) where
  -- cells are added, none of them an instance, and where their rows are met, this is so
  pub record Says (old new : Building) (fact : Type 0) : Type 0 where
    pub cells : List Cell
    pub fresh : List Wire
    pub adds : Adds old new cells fresh []
    pub childless : instances cells ≡ []
    pub says : ((d : Driven) → In d (cells_rows start ports p wires cells) → IsMet d t w) → fact

  pub says_none : (b : Building) {fact : Type 0} → fact → Says b b fact
  says_none b h = record { cells = []; fresh = []; adds = adds_none b; childless = refl; says = λ met. h }

  pub says_since : {old new : Building} {F G : Type 0} → Says old new F → (F → G) → Says old new G
  says_since h k = record { cells = h.cells; fresh = h.fresh; adds = h.adds; childless = h.childless; says = λ met. k (h.says met) }

  pub says_more : (a b c : Building) {F G : Type 0} → Says a b F → Says b c G → Says a c (F × G)
  says_more a b c h k = record {
    cells = h.cells ++ k.cells;
    fresh = h.fresh ++ k.fresh;
    adds = adds_more a b c h.cells k.cells h.fresh k.fresh [] [] h.adds k.adds;
    childless = instances-append h.cells k.cells ∙ (λ i. h.childless i ++ k.childless i);
    says = λ met.
        let first : List Driven = cells_rows start ports p wires h.cells in
        let rest : List Driven = cells_rows start ports p wires k.cells in
        let all : (d : Driven) → In d (first ++ rest) → IsMet d t w =
        λ d i. met d (subst (In d) (sym (rows-append start ports p wires h.cells k.cells)) i)
        in
        (h.says (λ d i. all d (In-left d first rest i)), k.says (λ d i. all d (In-right d first rest i)));
  }

  -- a net, with what its result has under the valuation
  pub net_says : {A R : Type 0} {W : A → Type 0} (m : Build A) (b : Building) → Net (reads (here ports start p wires t w) (here_reads ports start p wires t w)) R m W → Says b (m b).1 (R → W (m b).0)
  net_says m b n =
      let gates : List Gate = n.gates b in
      let few : ℕ = length b.body.wires in
      record {
        cells = cells_of b.next few gates;
        fresh = wires_of b.next gates;
        adds = subst (λ z. Adds b z (cells_of b.next few gates) (wires_of b.next gates) []) (sym (n.is b)) (adds_gates gates b);
        childless = no_instances b.next few gates;
        says = λ met r. (n.holds b r (fair_rows ports start p wires t w b.next few gates met)).1;
      }

-- what is added stands for a word cell where it meets the cell's rows, under whatever valuation
pub says_stands : (ports : Ports) (start : SigBit → Bit) (wires : List Wire) (c : Cell) (kind : WordKind) (old new : Building)
    → cell_kind c ≡ Some (Word kind)
    → ((p : Path) (t : Time Place) (w : Valuation) → Says ports start p wires t w old new ((d : Driven) → In d (cell_rows start ports p wires c (Some (Word kind))) → IsMet d t w))
    → StandsWith ports start wires c (cells_added old new) (links_added old new)
says_stands ports start wires c kind old new word h =
    let some = h [] Start (λ q. X) in
    record {
      children =
          ap instances (cells_are old new some.cells some.fresh [] some.adds) ∙ some.childless ∙ ap (λ k. listed (instance_of c k) ++ []) (sym word);
      rows = λ p t w s before d i.
          let x = h p t w in
          let cells : cells_added old new ≡ x.cells = cells_are old new x.cells x.fresh [] x.adds in
          x.says
          (λ e j. s.met e (In-left e (cells_rows start ports p wires (cells_added old new)) (link_rows p wires (links_added old new)) (subst (λ z. In e (cells_rows start ports p wires z)) (sym cells) j)))
          d (subst (λ k. In d (cell_rows start ports p wires c k)) word i);
    }
