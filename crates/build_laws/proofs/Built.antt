-- What is built beside a module, with other processes in the place of its own, refines it where each row of its processes is
-- met.
use Rattle.std.proofs.Common.{◌≡◌, List, [], ◌∷◌, ◌++◌, inl, inr, ⊎_elim, refl, sym, ◌∙◌, ap, subst}
use Rattle.std.specs.Prelude.{flat_map}
use Rattle.std.proofs.lemmas.List.{append-nil}
use Rattle.rtl_bits.specs.declared.bit.Bit.{Bit}
use Rattle.rtl_ir.specs.Build.{Building, building_of}
use Rattle.rtl_ir.specs.Flat.Cell.{Ports, cell_kind, cell_rows, cells_rows, instance_of, instances, listed}
use Rattle.rtl_ir.specs.Flat.Driver.{Driven}
use Rattle.rtl_ir.specs.Flat.Link.{link_rows}
use Rattle.rtl_ir.specs.Flat.Memory.{memories_rows}
use Rattle.rtl_ir.specs.Flat.Place.{Path, Place}
use Rattle.rtl_ir.specs.Flat.Process.{process_rows, processes_rows}
use Rattle.rtl_ir.specs.Flat.Rows.{plain_rows, rows_of}
use Rattle.rtl_ir.specs.Flat.Start.{process_starts, start_of}
use Rattle.rtl_ir.specs.Flat.Tree as flat
use Rattle.rtl_ir.specs.declared.cell.Cell.{Cell}
use Rattle.rtl_ir.specs.declared.module.Module.{Module}
use Rattle.rtl_ir.specs.declared.process.Process.{Process}
use Rattle.rtl_ir.specs.declared.wire.Role.TheVariants.{Input}
use Rattle.rtl_ir.specs.declared.wire.Wire.{Wire}
use Rattle.rtl_sig.specs.declared.sig.SigBit.{SigBit}
use Rattle.net_model.proofs.Grown.{grown_refines, ports_more}
use Rattle.net_model.proofs.GrowingMore.{rows_more}
use Rattle.net_model.proofs.Lifted.{lifted}
use Rattle.net_model.proofs.Members.{In-cases, In-left, In-right}
use Rattle.net_model.proofs.Swapping.{instances-append, rows-append}
use Rattle.net_model.specs.Lists.{Distinct, In}
use Rattle.net_model.specs.Refine.{IsMet, IsWellDriven, RefinesOver, RowsRefine, Solved, places_of}
use Rattle.net_model.specs.Run.{Time}
use Rattle.net_model.specs.Valuation.{Valuation}
use Rattle.net_model.specs.Within.{AreInner, Each, IsWithin, with_wires}
use Rattle.pass_laws.proofs.Passes.{refines_in_turn}
use Rattle.pass_laws.proofs.Rewriting.{links-append}
use Rattle.build_laws.proofs.Growing.{Grows, IsPlainCell}
use Rattle.build_laws.proofs.Staying.{SameAccesses, memories_same, starts_same}
use Rattle.build_laws.proofs.Meeting.{BodyMet}
use Rattle.build_laws.proofs.Moments.{Moment}

-- cells of the library are no instances
no_instances : (cells : List Cell) → Each IsPlainCell cells → instances cells ≡ []
no_instances [] h = refl
no_instances (c ∷ cells) h =
    (λ i. listed (instance_of c ((h c (inl refl)).is i)) ++ no_instances cells (λ x j. h x (inr j)) i)

-- the rows of one cell are among those of all
rows_among : (start : SigBit → Bit) (ports : Ports) (p : Path) (wires : List Wire) (cells : List Cell) (c : Cell) → In c cells → (d : Driven) → In d (cell_rows start ports p wires c (cell_kind c)) → In d (cells_rows start ports p wires cells)
rows_among start ports p wires [] c i d j = absurd i
rows_among start ports p wires (x ∷ cells) c (inl e) d j =
    In-left d _ _ (subst (λ z. In d (cell_rows start ports p wires z (cell_kind z))) e j)
rows_among start ports p wires (x ∷ cells) c (inr i) d j =
    In-right d (cell_rows start ports p wires x (cell_kind x)) _ (rows_among start ports p wires cells c i d j)

-- a row of processes is one of a process
pub process_among : (start : SigBit → Bit) (p : Path) (wires : List Wire) (m : Module) (ps : List Process) (d : Driven) → In d (processes_rows start p wires m ps) → (q : Process) × In q ps × In d (process_rows start p wires m q)
process_among start p wires m [] d i = absurd i
process_among start p wires m (q ∷ ps) d i =
    ⊎_elim
    (λ l. (q, inl refl, l))
    (λ r. let k = process_among start p wires m ps d r in (k.0, inr k.1, k.2))
    (In-cases d (process_rows start p wires m q) (processes_rows start p wires m ps) i)

-- fresh wires give no bit a second driver
pub still_driven : (m : Module) (fresh : List Wire) → AreInner fresh → IsWithin m → (ports : Ports) → IsWellDriven ports m → IsWellDriven ports (with_wires fresh m)
still_driven m fresh inner within ports h = record {
  inputs = λ p. subst (λ lines. Distinct (flat.places (flat.role_points Input p lines))) (sym (ports_more m.wires fresh inner)) (h.inputs p);
  rows = λ p. subst (λ rows. Distinct (places_of rows)) (sym (rows_more ports p m fresh within)) (h.rows p);
  apart = λ p x i at n j. h.apart p x (subst (In x) (rows_more ports p m fresh within) i) at n (subst (In n) (ports_more m.wires fresh inner) j);
  instances = h.instances;
}

module _ (m : Module) (b : Building) (qs : List Process) (grown : Grows (building_of m) b) (starts : flat_map process_starts m.processes ≡ flat_map process_starts qs) (accesses : SameAccesses m.processes qs) where
  -- the module with what is built and the other processes, by what is added
  abbrev pub after : Module
  after = record m { cells = m.cells ++ grown.cells; wires = m.wires ++ grown.wires; links = m.links ++ grown.links; processes = qs }

  pub after_is : record b.body { processes = qs } ≡ after
  after_is = ap (λ (n : Module). record n { processes = qs }) grown.body

  -- with the fresh wires alone
  abbrev pub wide : Module
  wide = with_wires grown.wires m

  -- at a path, at a time and over a valuation
  abbrev pub moment : Ports → Path → Time Place → Valuation → Moment
  moment ports p t w =
      record { start = start_of (m.wires ++ grown.wires) qs; ports = ports; path = p; wires = m.wires ++ grown.wires; time = t; has = w }

  -- what is left to show: the rows of its own processes are met
  abbrev pub ProcessesMet : Type 0
  ProcessesMet =
      (ports : Ports) (p : Path) (t : Time Place) (w : Valuation) → Solved (rows_of ports p after) t w → BodyMet (moment ports p t w) b →
      (d : Driven) → In d (processes_rows (start_of (m.wires ++ grown.wires) qs) p (m.wires ++ grown.wires) wide m.processes) → IsMet d t w

  module _ (met : ProcessesMet) (ports : Ports) (p : Path) (t : Time Place) (w : Valuation) (s : Solved (rows_of ports p after) t w) where
    abbrev cells : List Driven
    cells = cells_rows (start_of (m.wires ++ grown.wires) qs) ports p (m.wires ++ grown.wires) (m.cells ++ grown.cells)

    abbrev links : List Driven
    links = link_rows p (m.wires ++ grown.wires) (m.links ++ grown.links)

    abbrev processes : List Driven
    processes = processes_rows (start_of (m.wires ++ grown.wires) qs) p (m.wires ++ grown.wires) after qs

    abbrev memories : List Driven
    memories = memories_rows p (m.wires ++ grown.wires) (m.cells ++ grown.cells) qs m.memories

    cells_met : (d : Driven) → In d cells → IsMet d t w
    cells_met d i = s.met d (In-left d cells (plain_rows p after) i)

    links_met : (d : Driven) → In d links → IsMet d t w
    links_met d i = s.met d (In-right d cells (plain_rows p after) (In-left d links (processes ++ memories) i))

    memories_met : (d : Driven) → In d memories → IsMet d t w
    memories_met d i =
        s.met d (In-right d cells (plain_rows p after) (In-right d links (processes ++ memories) (In-right d processes memories i)))

    built_met : BodyMet (moment ports p t w) b
    built_met = record {
      cells = λ c i d j. cells_met d (rows_among (start_of (m.wires ++ grown.wires) qs) ports p (m.wires ++ grown.wires) (m.cells ++ grown.cells) c (subst (In c) (ap (λ (n : Module). n.cells) grown.body) i) d j);
      links = λ d i. links_met d (subst (λ ls. In d (link_rows p (m.wires ++ grown.wires) ls)) (ap (λ (n : Module). n.links) grown.body) i);
    }

    same_starts : start_of (m.wires ++ grown.wires) m.processes ≡ start_of (m.wires ++ grown.wires) qs
    same_starts = starts_same (m.wires ++ grown.wires) m.processes qs starts

    -- rows of cells, connections and memories stay
    old_cells : (d : Driven) → In d (cells_rows (start_of (m.wires ++ grown.wires) m.processes) ports p (m.wires ++ grown.wires) m.cells) → IsMet d t w
    old_cells d i =
        cells_met d (subst (In d) (sym (rows-append (start_of (m.wires ++ grown.wires) qs) ports p (m.wires ++ grown.wires) m.cells grown.cells)) (In-left d _ _ (subst (λ z. In d (cells_rows z ports p (m.wires ++ grown.wires) m.cells)) same_starts i)))

    old_links : (d : Driven) → In d (link_rows p (m.wires ++ grown.wires) m.links) → IsMet d t w
    old_links d i = links_met d (subst (In d) (sym (links-append p (m.wires ++ grown.wires) m.links grown.links)) (In-left d _ _ i))

    old_memories : (d : Driven) → In d (memories_rows p (m.wires ++ grown.wires) m.cells m.processes m.memories) → IsMet d t w
    old_memories d i =
        memories_met d (subst (In d) (sym (memories_same p (m.wires ++ grown.wires) m.cells grown.cells m.processes qs m.memories grown.plain accesses)) i)

    old_processes : (d : Driven) → In d (processes_rows (start_of (m.wires ++ grown.wires) m.processes) p (m.wires ++ grown.wires) wide m.processes) → IsMet d t w
    old_processes d i =
        met ports p t w s built_met d (subst (λ z. In d (processes_rows z p (m.wires ++ grown.wires) wide m.processes)) same_starts i)

    old_met : (d : Driven) → In d (rows_of ports p wide) → IsMet d t w
    old_met d i =
        let cs : List Driven = cells_rows (start_of (m.wires ++ grown.wires) m.processes) ports p (m.wires ++ grown.wires) m.cells in
        let ls : List Driven = link_rows p (m.wires ++ grown.wires) m.links in
        let ps : List Driven = processes_rows (start_of (m.wires ++ grown.wires) m.processes) p (m.wires ++ grown.wires) wide m.processes in
        let ms : List Driven = memories_rows p (m.wires ++ grown.wires) m.cells m.processes m.memories in
        ⊎_elim (λ c. old_cells d c) (λ r. ⊎_elim (λ l. old_links d l) (λ q. ⊎_elim (λ x. old_processes d x) (λ y. old_memories d y) (In-cases d ps ms q)) (In-cases d ls (ps ++ ms) r)) (In-cases d cs (ls ++ (ps ++ ms)) i)

  no_children : instances m.cells ≡ instances (m.cells ++ grown.cells)
  no_children =
      sym (instances-append m.cells grown.cells ∙ ap (λ z. instances m.cells ++ z) (no_instances grown.cells grown.plain) ∙ append-nil (instances m.cells))

  rows_refine : ProcessesMet → (ports : Ports) → RowsRefine wide after ports
  rows_refine met ports = record {
    id = refl;
    ports_same = refl;
    children = no_children;
    rows = λ p t w s before d i. old_met met ports p t w s d i;
  }

  -- the fresh wires come first
  pub built_refines : ProcessesMet → (ports : Ports) → IsWithin m → RefinesOver m (record b.body { processes = qs }) ports
  built_refines met ports within =
      subst (λ n. RefinesOver m n ports) (sym after_is)
      (refines_in_turn m wide after ports refl (sym (ports_more m.wires grown.wires grown.inner)) refl (λ over agree h. still_driven m grown.wires grown.inner within over h) (grown_refines m grown.wires ports within grown.inner) (lifted wide after ports (rows_refine met ports)))
