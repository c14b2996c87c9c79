-- The module with gates in the places of cells refines the module.
use Rattle.std.proofs.Common.{◌≡◌, List, [], ◌∷◌, ◌++◌, length, Option, Some, None, inl, ⊎_elim, refl, sym, ◌∙◌, ap, subst}
use Rattle.cell_types.specs.declared.kind.CellKind.{CellKind}
use Rattle.rtl_bits.specs.declared.bit.Bit.{Bit}
use Rattle.rtl_sig.specs.declared.sig.SigBit.{SigBit}
use Rattle.rtl_ir.specs.Build.{Building, building_of}
use Rattle.rtl_ir.specs.Flat.Cell.{Ports, cell_kind, cell_rows, cells_rows, instances}
use Rattle.rtl_ir.specs.Flat.Driver.{Driven}
use Rattle.rtl_ir.specs.Flat.Link.{link_rows}
use Rattle.rtl_ir.specs.Flat.Memory.{memories_rows}
use Rattle.rtl_ir.specs.Flat.Place.{Path, Place}
use Rattle.rtl_ir.specs.Flat.Rows.{rows_of}
use Rattle.rtl_ir.specs.Flat.Start.{start_of}
use Rattle.rtl_ir.specs.Ports.{ports_of}
use Rattle.rtl_ir.specs.declared.cell.Cell.{Cell}
use Rattle.rtl_ir.specs.declared.module.Link.{Link}
use Rattle.rtl_ir.specs.declared.module.Module.{Module}
use Rattle.rtl_ir.specs.declared.wire.Wire.{Wire}
use Rattle.net_model.proofs.Grown.{ports_more}
use Rattle.net_model.proofs.GrowingMore.{rows_more}
use Rattle.net_model.proofs.Lifted.{lifted}
use Rattle.net_model.proofs.Members.{In-cases, In-left, In-right}
use Rattle.net_model.proofs.Relating.{Within, solved_within}
use Rattle.net_model.proofs.Swapping.{before_within, instances-append, rows-append}
use Rattle.net_model.specs.Lists.{In}
use Rattle.net_model.specs.Refine.{IsMet, RefinesOver, Solved, SolvedBefore}
use Rattle.net_model.specs.Run.{Time}
use Rattle.net_model.specs.Valuation.{Valuation}
use Rattle.net_model.specs.Within.{AreInner, Each, IsWithin, with_wires}
use Rattle.map_laws.specs.Expansion.{IsBare, IsWholeCell, StandsWith, links_added, wires_added}
use Rattle.pass_laws.proofs.Rewriting.{links-append, rows_are}
use Rattle.tech_map.specs.Techmap.{stand_in, stand_ins, taken_kind, techmap_of, with_gates}
use Rattle.tech_map.proofs.Growing.{AreWhole, all_add, all_added, one_added, whole_next}
use Rattle.tech_map.proofs.ByKind.{mapped, taken_is}
use Rattle.tech_map.proofs.Remembering.{memories_kept}

-- each of these wires and of those
pub each_of_two : {A : Type 0} (P : A → Type 0) (xs ys : List A) → Each P xs → Each P ys → Each P (xs ++ ys)
each_of_two P xs ys h k x i = ⊎_elim (λ l. h x l) (λ r. k x r) (In-cases x xs ys i)

module _ (ports : Ports) (start : SigBit → Bit) (wires : List Wire) where
  -- a cell stands for itself
  itself : (c : Cell) → StandsWith ports start wires c (c ∷ []) []
  itself c = record {
    children = refl;
    rows = λ p t w s before d i. s.met d (In-left d (cell_rows start ports p wires c (cell_kind c) ++ []) [] (In-left d (cell_rows start ports p wires c (cell_kind c)) [] i));
  }

  -- what stands in the place of a cell stands for it
  stands : (c : Cell) (b : Building) → IsWholeCell (length b.body.wires) c → (k : Option CellKind) → taken_kind c ≡ k → StandsWith ports start wires c (stand_in k c b) (one_added links_added k c b)
  stands c b whole None e = itself c
  stands c b whole (Some kind) e =
      let is = taken_is (cell_kind c) kind e in
      (mapped kind is.taken c b (whole kind is.own)).stands ports start wires

  children : (cs : List Cell) (b : Building) → AreWhole cs b → instances cs ≡ instances (stand_ins cs b)
  children [] b whole = refl
  children (c ∷ cs) b whole =
      let here : List Cell = stand_in (taken_kind c) c b in
      let next : Building = with_gates (taken_kind c) c b in
      instances-append (c ∷ []) cs
      ∙ (λ i. sym (stands c b (whole c (inl refl)) (taken_kind c) refl).children i ++ children cs next (whole_next c cs b whole) i)
      ∙ sym (instances-append here (stand_ins cs next))

  -- a solution of rows, among which are those of all that stands in the places of cells, meets each row of the cells
  module _ (p : Path) (all : List Driven) (t : Time Place) (w : Valuation) (s : Solved all t w) (before : SolvedBefore all t) where
    abbrev rows : List Cell → List Driven
    rows cs = cells_rows start ports p wires cs

    abbrev lines : List Link → List Driven
    lines ls = link_rows p wires ls

    met : (cs : List Cell) (b : Building) → AreWhole cs b → Within (rows (stand_ins cs b)) all → Within (lines (all_added links_added cs b)) all → (d : Driven) → In d (rows cs) → IsMet d t w
    met [] b whole cells links d i = absurd i
    met (c ∷ cs) b whole cells links d i =
        let next : Building = with_gates (taken_kind c) c b in
        let here : List Cell = stand_in (taken_kind c) c b in
        let more : List Link = one_added links_added (taken_kind c) c b in
        let cells_first : Within (rows here) all = λ x j. cells x (subst (In x) (sym (rows-append start ports p wires here (stand_ins cs next))) (In-left x (rows here) (rows (stand_ins cs next)) j)) in
        let cells_later : Within (rows (stand_ins cs next)) all = λ x j. cells x (subst (In x) (sym (rows-append start ports p wires here (stand_ins cs next))) (In-right x (rows here) (rows (stand_ins cs next)) j)) in
        let links_first : Within (lines more) all = λ x j. links x (subst (In x) (sym (links-append p wires more (all_added links_added cs next))) (In-left x (lines more) (lines (all_added links_added cs next)) j)) in
        let links_later : Within (lines (all_added links_added cs next)) all = λ x j. links x (subst (In x) (sym (links-append p wires more (all_added links_added cs next))) (In-right x (lines more) (lines (all_added links_added cs next)) j)) in
        let both : Within (rows here ++ lines more) all = λ x j. ⊎_elim (λ l. cells_first x l) (λ r. links_first x r) (In-cases x (rows here) (lines more) j) in
        ⊎_elim
        (λ l. (stands c b (whole c (inl refl)) (taken_kind c) refl).rows p t w (solved_within (rows here ++ lines more) all both t w s) (before_within (rows here ++ lines more) all both t before) d l)
        (λ r. met cs next (whole_next c cs b whole) cells_later links_later d r)
        (In-cases d (cell_rows start ports p wires c (cell_kind c)) (rows cs) i)

-- fresh wires are bare
one_bare : (c : Cell) (b : Building) → IsWholeCell (length b.body.wires) c → (k : Option CellKind) → taken_kind c ≡ k → Each IsBare (one_added wires_added k c b)
one_bare c b whole None e = λ x i. absurd i
one_bare c b whole (Some kind) e =
    let is = taken_is (cell_kind c) kind e in
    (mapped kind is.taken c b (whole kind is.own)).expansion.bare

pub all_bare : (cs : List Cell) (b : Building) → AreWhole cs b → Each IsBare (all_added wires_added cs b)
all_bare [] b whole = λ x i. absurd i
all_bare (c ∷ cs) b whole =
    each_of_two IsBare (one_added wires_added (taken_kind c) c b) (all_added wires_added cs (with_gates (taken_kind c) c b)) (one_bare c b (whole c (inl refl)) (taken_kind c) refl) (all_bare cs (with_gates (taken_kind c) c b) (whole_next c cs b whole))

pub bare_inner : (ws : List Wire) → Each IsBare ws → AreInner ws
bare_inner ws bare w i = ap (λ (v : Wire). v.role) (bare w i)

-- what the pass needs of a module
pub record IsTakable (m : Module) : Type 0 where
  pub processes : m.processes ≡ []
  pub whole : AreWhole m.cells (building_of m)
  pub within : IsWithin m

module _ (m : Module) (fine : IsTakable m) where
  abbrev pub fresh : List Wire
  fresh = all_added wires_added m.cells (building_of m)

  abbrev pub lines_more : List Link
  lines_more = all_added links_added m.cells (building_of m)

  abbrev pub cells_after : List Cell
  cells_after = stand_ins m.cells (building_of m)

  abbrev pub grown : Module
  grown = with_wires fresh m

  -- the module with these cells, wires and connections
  abbrev pub swapped : Module
  swapped = record m { cells = cells_after; wires = m.wires ++ fresh; links = m.links ++ lines_more }

  pub swapped_is : techmap_of m ≡ swapped
  swapped_is = ap {A = Module} (λ n. record n { cells = cells_after }) (all_add m.cells (building_of m) fine.whole).body

  pub inner : AreInner fresh
  inner = bare_inner fresh (all_bare m.cells (building_of m) fine.whole)

  pub swapped_ports : ports_of m.wires ≡ ports_of (m.wires ++ fresh)
  swapped_ports = sym (ports_more m.wires fresh inner)

  pub swapped_children : instances m.cells ≡ instances cells_after
  swapped_children = children (λ name. []) (start_of m.wires m.processes) m.wires m.cells (building_of m) fine.whole

  module _ (ports : Ports) (p : Path) where
    abbrev start : SigBit → Bit
    start = start_of grown.wires m.processes

    abbrev of_cells : List Cell → List Driven
    of_cells cs = cells_rows start ports p grown.wires cs

    abbrev of_links : List Link → List Driven
    of_links ls = link_rows p grown.wires ls

    -- the rows of the memories, which stay
    abbrev pub of_memories : List Driven
    of_memories = memories_rows p grown.wires m.cells m.processes m.memories

    pub old_rows : rows_of ports p m ≡ of_cells m.cells ++ (of_links m.links ++ of_memories)
    old_rows = sym (rows_more ports p m fresh fine.within) ∙ rows_are ports p grown fine.processes

    pub new_rows : rows_of ports p swapped ≡ of_cells cells_after ++ ((of_links m.links ++ of_links lines_more) ++ of_memories)
    new_rows =
        rows_are ports p swapped fine.processes
        ∙ (λ i. of_cells cells_after ++ (links-append p grown.wires m.links lines_more i ++ memories_kept m.cells (building_of m) fine.whole p grown.wires m.processes m.memories i))

    abbrev new : List Driven
    new = of_cells cells_after ++ ((of_links m.links ++ of_links lines_more) ++ of_memories)

    rows_met : (t : Time Place) (w : Valuation) → Solved new t w → SolvedBefore new t → (d : Driven) → In d (of_cells m.cells ++ (of_links m.links ++ of_memories)) → IsMet d t w
    rows_met t w s before d i =
        let links : List Driven = of_links m.links ++ of_links lines_more in
        let cells : Within (of_cells cells_after) new = λ x j. In-left x (of_cells cells_after) (links ++ of_memories) j in
        let all_links : Within links new = λ x j. In-right x (of_cells cells_after) (links ++ of_memories) (In-left x links of_memories j) in
        let more : Within (of_links lines_more) new = λ x j. all_links x (In-right x (of_links m.links) (of_links lines_more) j) in
        ⊎_elim
        (λ l. met ports start grown.wires p new t w s before m.cells (building_of m) fine.whole cells more d l)
        (λ r. s.met d (⊎_elim (λ k. all_links d (In-left d (of_links m.links) (of_links lines_more) k)) (λ k. In-right d (of_cells cells_after) (links ++ of_memories) (In-right d links of_memories k)) (In-cases d (of_links m.links) of_memories r)))
        (In-cases d (of_cells m.cells) (of_links m.links ++ of_memories) i)

  swap_refines : (ports : Ports) → RefinesOver m swapped ports
  swap_refines ports = lifted m swapped ports (record {
    id = refl;
    ports_same = swapped_ports;
    children = swapped_children;
    rows = λ p t w s before d i.
        rows_met ports p t w (subst (λ z. Solved z t w) (new_rows ports p) s) (subst (λ z. SolvedBefore z t) (new_rows ports p) before) d (subst (In d) (old_rows ports p) i);
  })

  pub techmap_refines : (ports : Ports) → RefinesOver m (techmap_of m) ports
  techmap_refines ports = subst (λ n. RefinesOver m n ports) (sym swapped_is) (swap_refines ports)
