-- A module with flip-flops, latches and write ports in the place of the rules of its processes refines the module.
use Rattle.std.proofs.Common.{◌≡◌, ℕ, ◌+◌, List, [], ◌∷◌, ◌++◌, length, inl, inr, ⊎_elim, refl, sym, ap, subst, append-nil}
use Rattle.std.specs.Prelude.{flat_map, map}
use Rattle.rtl_bits.specs.declared.bit.Bit.{Bit}
use Rattle.cell_types.specs.declared.kind.CellKind.TheVariants.{Storage}
use Rattle.rtl_sig.specs.declared.sig.SigBit.{SigBit}
use Rattle.rtl_ir.specs.Assigns.{tree_bits}
use Rattle.rtl_ir.specs.Build.{Building, building_of}
use Rattle.rtl_ir.specs.Flat.Cell.{Ports, cells_rows}
use Rattle.rtl_ir.specs.Flat.Driver.{Driven}
use Rattle.rtl_ir.specs.Flat.Link.{link_rows}
use Rattle.rtl_ir.specs.Flat.Memory.{memories_rows}
use Rattle.rtl_ir.specs.Flat.Place.{Path, Place}
use Rattle.rtl_ir.specs.Flat.Process.{process_rows, processes_rows, rules_rows, tree_bit_rows}
use Rattle.rtl_ir.specs.Flat.Rows.{plain_rows, rows_of}
use Rattle.rtl_ir.specs.Flat.Start.{process_starts, start_of}
use Rattle.rtl_ir.specs.Flat.Tree as flat
use Rattle.rtl_ir.specs.Rules.{acting_rules}
use Rattle.rtl_ir.specs.Scope.{with_processes}
use Rattle.rtl_ir.specs.SwitchRules.{root_by_rules}
use Rattle.rtl_ir.specs.Types as types
use Rattle.rtl_ir.specs.declared.cell.Cell.{Cell}
use Rattle.rtl_ir.specs.declared.module.Module.{Module}
use Rattle.rtl_ir.specs.declared.ports.PortTable.{PortTable}
use Rattle.rtl_ir.specs.declared.process.Process.{Process}
use Rattle.rtl_ir.specs.declared.wire.Wire.{Wire}
use Rattle.net_model.proofs.Members.{In-cases, In-left, In-right}
use Rattle.net_model.proofs.Ranges.{each_more, each_none}
use Rattle.net_model.specs.Lists.{In}
use Rattle.net_model.specs.Refine.{IsMet, RefinesOver, Solved}
use Rattle.net_model.specs.Run.{Time}
use Rattle.net_model.specs.Valuation.{Valuation}
use Rattle.net_model.specs.Within.{Each, with_wires}
use Rattle.proc_laws.specs.Ready.{HaveNoStarts, IsReady}
use Rattle.build_laws.proofs.Built.{after, built_refines, moment, process_among}
use Rattle.build_laws.proofs.Growing.{Grows, IsPlainCell}
use Rattle.build_laws.proofs.Meeting.{BodyMet}
use Rattle.build_laws.proofs.Moments.{Moment}
use Rattle.proc_laws.specs.Kinds.{HaveNoAlways, HaveNoTwoEdges}
use Rattle.sync_laws.proofs.GoodRules.{all_whole}
use Rattle.sync_laws.proofs.Parts.{Part, all_parts, cells_from, named, process_parts, with_parts}
use Rattle.sync_laws.proofs.RuleRows.{rules_given}
use Rattle.sync_laws.proofs.StoreParts.{IsStorePart}
use Rattle.sync_laws.proofs.StoreRows.{given_met}
use Rattle.sync_laws.proofs.Silent.{same_begun, writing, writing_accesses, writing_rule}

-- cells of whole parts are none of a memory
pub cells_plain : (count n : ℕ) (qs : List Part) → Each (IsStorePart count) qs → Each IsPlainCell (cells_from n qs)
cells_plain count n [] h = each_none IsPlainCell
cells_plain count n (q ∷ qs) h =
    let is : IsStorePart count q = h q (inl refl) in
    each_more IsPlainCell (named q n) (cells_from (n + 1) qs) (record { kind = Storage is.kind; is = (is.whole n).own; plain = refl }) (cells_plain count (n + 1) qs (λ x i. h x (inr i)))

-- a part is one of the cells
record HasCell (cells : List Cell) (q : Part) : Type 0 where
  number : ℕ
  there : In (named q number) cells

cell_of : (n : ℕ) (qs : List Part) (q : Part) → In q qs → HasCell (cells_from n qs) q
cell_of n [] q i = absurd i
cell_of n (x ∷ qs) q (inl e) = record { number = n; there = inl (ap (λ z. named z n) e) }
cell_of n (x ∷ qs) q (inr i) = let k = cell_of (n + 1) qs q i in record { number = k.number; there = inr k.there }

part_in : (ps : List Process) (p : Process) → In p ps → (q : Part) → In q (process_parts p) → In q (flat_map process_parts ps)
part_in [] p i q j = absurd i
part_in (x ∷ ps) p (inl e) q j =
    In-left q (process_parts x) (flat_map process_parts ps) (subst (λ (z : Process). In q (process_parts z)) e j)
part_in (x ∷ ps) p (inr i) q j = In-right q (process_parts x) (flat_map process_parts ps) (part_in ps p i q j)

-- the tree bits of a process are driven as before
tree_stays : (start : SigBit → Bit) (p : Path) (wires : List Wire) (m : Module) (ps : List Process) (q : Process) → In q ps → (d : Driven) → In d (tree_bit_rows start p wires (root_by_rules q.root) (tree_bits q.root)) → In d (processes_rows start p wires m (map writing ps))
tree_stays start p wires m [] q i d j = absurd i
tree_stays start p wires m (x ∷ ps) q (inl e) d j =
    In-left d (process_rows start p wires m (writing x)) (processes_rows start p wires m (map writing ps))
    (In-left d (tree_bit_rows start p wires (root_by_rules x.root) (tree_bits x.root)) (rules_rows start p wires m (root_by_rules x.root) (tree_bits x.root) (acting_rules (map writing_rule x.syncs))) (subst (λ (z : Process). In d (tree_bit_rows start p wires (root_by_rules z.root) (tree_bits z.root))) e j))
tree_stays start p wires m (x ∷ ps) q (inr i) d j =
    In-right d (process_rows start p wires m (writing x)) (processes_rows start p wires m (map writing ps)) (tree_stays start p wires m ps q i d j)

module _ (table : PortTable) (m : Module) (ready : IsReady with_processes (types.table_ports table.modules) m) (acts : HaveNoAlways m) (edges : HaveNoTwoEdges m) (starts : HaveNoStarts m) where
  abbrev pub built : Building
  built = with_parts (all_parts m) (building_of m)

  abbrev pub changed : List Process
  changed = map writing m.processes

  abbrev pub new : List Cell
  new = cells_from (building_of m).next (all_parts m)

  pub new_plain : Each IsPlainCell (cells_from (building_of m).next (all_parts m))
  new_plain = cells_plain (length m.wires) (building_of m).next (all_parts m) (all_whole (types.table_ports table.modules) m ready acts edges).whole

  grown : Grows (building_of m) built
  grown = record {
    cells = new;
    wires = [];
    links = [];
    body =
        λ i. record m { cells = m.cells ++ new; wires = sym (append-nil m.wires) i; links = sym (append-nil m.links) i };
    plain = new_plain;
    inner = λ w i. absurd i;
  }

  begun : flat_map process_starts m.processes ≡ flat_map process_starts changed
  begun = same_begun m starts

  rows_met : (ports : Ports) (p : Path) (t : Time Place) (w : Valuation) → Solved (rows_of ports p (after m built changed grown begun (writing_accesses m.processes))) t w → BodyMet (moment m built changed grown begun (writing_accesses m.processes) ports p t w) built
      → (d : Driven) → In d (processes_rows (start_of (m.wires ++ []) changed) p (m.wires ++ []) (with_wires [] m) m.processes) → IsMet d t w
  unfolding grown
  rows_met ports p t w s met d i =
      let ws : List Wire = m.wires ++ [] in
      let start : SigBit → Bit = start_of ws changed in
      let k = process_among start p ws (with_wires [] m) m.processes d i in
      let q : Process = k.0 in
      ⊎_elim
      (λ l. tree_met q k.1 l)
      (λ r. rule_met q k.1 r)
      (In-cases d (tree_bit_rows start p ws (root_by_rules q.root) (tree_bits q.root)) (rules_rows start p ws (with_wires [] m) (root_by_rules q.root) (tree_bits q.root) (acting_rules q.syncs)) k.2)
    where
      tree_met : (q : Process) → In q m.processes → In d (tree_bit_rows (start_of (m.wires ++ []) changed) p (m.wires ++ []) (root_by_rules q.root) (tree_bits q.root)) → IsMet d t w
      tree_met q at l =
          let n : Module = after m built changed grown begun (writing_accesses m.processes) in
          let start : SigBit → Bit = start_of n.wires changed in
          s.met d
          (In-right d (cells_rows start ports p n.wires n.cells) (plain_rows p n)
          (In-right d (link_rows p n.wires n.links) (processes_rows start p n.wires n changed ++ memories_rows p n.wires n.cells changed n.memories)
          (In-left d (processes_rows start p n.wires n changed) (memories_rows p n.wires n.cells changed n.memories)
          (tree_stays start p n.wires n m.processes q at d l))))

      rule_met : (q : Process) → In q m.processes → In d (rules_rows (start_of (m.wires ++ []) changed) p (m.wires ++ []) (with_wires [] m) (root_by_rules q.root) (tree_bits q.root) (acting_rules q.syncs)) → IsMet d t w
      rule_met q at r =
          let mo : Moment = moment m built changed grown begun (writing_accesses m.processes) ports p t w in
          let g = rules_given mo.start p mo.wires (with_wires [] m) (root_by_rules q.root) (tree_bits q.root) (acting_rules q.syncs) (acts q at) (edges q at) d r in
          let c = cell_of (building_of m).next (all_parts m) g.part (part_in m.processes q at g.part g.there) in
          let here : In (named g.part c.number) built.body.cells = In-right (named g.part c.number) m.cells new c.there in
          given_met mo d g.part c.number g.given (met.cells (named g.part c.number) here)

  -- the module with flip-flops and latches, whose rules only write
  pub flops_refine : RefinesOver m (record m { cells = m.cells ++ cells_from (building_of m).next (all_parts m); processes = map writing m.processes }) (flat.table_ports table)
  unfolding grown
  flops_refine =
      built_refines m built changed grown begun (writing_accesses m.processes) rows_met (flat.table_ports table) ready.within
