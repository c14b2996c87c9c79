-- Lines that write may become write ports: the flat netlist is the same.
use Rattle.std.proofs.Common.{◌≡◌, ◌+◌, List, [], ◌∷◌, ◌++◌, length, inl, inr, refl, sym, ◌∙◌, ap, subst, append-nil, append_assoc}
use Rattle.std.specs.Prelude.{map}
use Rattle.rtl_bits.specs.declared.bit.Bit.{Bit}
use Rattle.rtl_sig.specs.declared.sig.SigBit.{SigBit}
use Rattle.rtl_ir.specs.Build.{Building, building_of}
use Rattle.rtl_ir.specs.Flat.Cell.{Ports, cell_rows, cells_rows, instance_of, instances, listed}
use Rattle.rtl_ir.specs.Flat.Driver.{Driven}
use Rattle.rtl_ir.specs.Flat.Link.{link_rows}
use Rattle.rtl_ir.specs.Flat.Memory.{memories_rows}
use Rattle.rtl_ir.specs.Flat.Place.{Frame, IsOf, Path, Place}
use Rattle.rtl_ir.specs.Flat.Process.{processes_rows}
use Rattle.rtl_ir.specs.Flat.Rows.{rows_of}
use Rattle.rtl_ir.specs.Flat.Start.{start_of}
use Rattle.rtl_ir.specs.Flat.Tree as flat
use Rattle.rtl_ir.specs.Scope.{with_processes}
use Rattle.rtl_ir.specs.Types as types
use Rattle.rtl_ir.specs.declared.cell.Cell.{Cell}
use Rattle.rtl_ir.specs.declared.module.Module.{Module}
use Rattle.rtl_ir.specs.declared.ports.PortTable.{PortTable}
use Rattle.rtl_ir.specs.declared.process.Process.{Process}
use Rattle.rtl_ir.specs.declared.wire.Wire.{Wire}
use Rattle.net_model.proofs.Lifted.{lifted}
use Rattle.net_model.proofs.Members.{In-map, In-mapped}
use Rattle.net_model.proofs.Swapping.{instances-append, rows-append}
use Rattle.net_model.specs.Lists.{Distinct, In}
use Rattle.net_model.specs.Proc.Sync.{proc_sync_of}
use Rattle.net_model.specs.Refine.{IsWellDriven, RefinesIn, RefinesOver, places_of}
use Rattle.net_model.specs.Within.{Each}
use Rattle.build_laws.proofs.Growing.{IsPlainCell}
use Rattle.build_laws.proofs.Staying.{memories_same, starts_same}
use Rattle.pass_laws.proofs.Faultless.{no_faults}
use Rattle.pass_laws.proofs.Passes.{refines_in_turn}
use Rattle.pass_laws.proofs.Placing.{places_more}
use Rattle.build_laws.proofs.RebuildPlaces.{memories_alike}
use Rattle.proc_laws.specs.Ready.{HaveNoStarts, IsReady}
use Rattle.build_laws.specs.Rebuilds.{rebuilt}
use Rattle.proc_laws.specs.Kinds.{HaveNoAlways, HaveNoTwoEdges}
use Rattle.sync_laws.proofs.GoodRules.{all_whole, without_rules}
use Rattle.sync_laws.proofs.Parts.{all_parts, cells_from}
use Rattle.sync_laws.proofs.FlopsFormed.{flops_driven, flops_instances}
use Rattle.sync_laws.proofs.GoodLines.{none_numbered, rules_good, rules_small}
use Rattle.sync_laws.proofs.Lines.{RulesSmall}
use Rattle.sync_laws.proofs.FlopsRefined.{cells_plain, flops_refine}
use Rattle.sync_laws.proofs.Silent.{writing, writing_accesses, writing_rows, writing_starts}
use Rattle.sync_laws.proofs.Words.{IsWrite, all_writes, words_same}
use Rattle.sync_laws.proofs.WriteParts.{cells_both, module_rules, step_is, write_parts}

-- write ports drive no bit, and are no instances
pub no_rows : (start : SigBit → Bit) (ports : Ports) (p : Path) (wires : List Wire) (cells : List Cell) → Each IsWrite cells → cells_rows start ports p wires cells ≡ []
no_rows start ports p wires [] h = refl
no_rows start ports p wires (c ∷ cells) h =
    λ i. cell_rows start ports p wires c (h c (inl refl) i) ++ no_rows start ports p wires cells (λ x j. h x (inr j)) i

pub no_instances : (cells : List Cell) → Each IsWrite cells → instances cells ≡ []
no_instances [] h = refl
no_instances (c ∷ cells) h =
    λ i. listed (instance_of c (h c (inl refl) i)) ++ no_instances cells (λ x j. h x (inr j)) i

-- the cells that the step adds
abbrev pub flops : Module → List Cell
flops m = cells_from (building_of m).next (all_parts m)

abbrev pub ports_made : Module → List Cell
ports_made m = cells_from ((building_of m).next + length (all_parts m)) (write_parts m)

-- flip-flops and latches, beside rules that only write
abbrev pub half : Module → Module
half m = record m { cells = m.cells ++ flops m; processes = map writing m.processes }

-- the module after the step
abbrev pub whole : Module → Module
whole m = record m { cells = m.cells ++ (flops m ++ ports_made m); processes = map without_rules m.processes }

-- the same without write ports
abbrev pub bare : Module → Module
bare m = record m { cells = m.cells ++ flops m; processes = map without_rules m.processes }

pub sync_is : (m : Module) → proc_sync_of m ≡ whole m
sync_is m =
    ap (λ (b : Building). record b.body { processes = map without_rules m.processes }) (step_is m (building_of m))
    ∙ ap (λ cs. record m { cells = m.cells ++ cs; processes = map without_rules m.processes }) (cells_both (building_of m).next (all_parts m) (write_parts m))

pub ports_write : (m : Module) → Each IsWrite (cells_from ((building_of m).next + length (all_parts m)) (write_parts m))
ports_write m = all_writes m [] (module_rules m) ((building_of m).next + length (all_parts m))

pub numbers_small : (ports : types.Ports) (m : Module) → IsReady with_processes ports m → RulesSmall m [] (module_rules m)
numbers_small ports m ready =
    rules_small m (module_rules m) [] [] (none_numbered m) (rules_good m ports (no_faults with_processes ports m ready.faultless).processes)

begun_alike : (m : Module) → start_of m.wires (map writing m.processes) ≡ start_of m.wires (map without_rules m.processes)
begun_alike m =
    starts_same m.wires (map writing m.processes) (map without_rules m.processes) (writing_starts m.processes)

-- cells with the write ports behind them
module _ (m : Module) (ports : Ports) (p : Path) where
  cells_alike : cells_rows (start_of m.wires (map writing m.processes)) ports p m.wires (m.cells ++ flops m) ≡ cells_rows (start_of m.wires (map without_rules m.processes)) ports p m.wires (m.cells ++ (flops m ++ ports_made m))
  cells_alike =
      let start : SigBit → Bit = start_of m.wires (map without_rules m.processes) in
      ap (λ z. cells_rows z ports p m.wires (m.cells ++ flops m)) (begun_alike m)
      ∙ sym
      (ap (cells_rows start ports p m.wires) (sym (append_assoc m.cells (flops m) (ports_made m)))
      ∙ rows-append start ports p m.wires (m.cells ++ flops m) (ports_made m)
      ∙ ap (λ z. cells_rows start ports p m.wires (m.cells ++ flops m) ++ z) (no_rows start ports p m.wires (ports_made m) (ports_write m))
      ∙ append-nil (cells_rows start ports p m.wires (m.cells ++ flops m)))

  -- all rows
  pub rows_same : Each IsPlainCell (flops m) → RulesSmall m [] (module_rules m) → rows_of ports p (half m) ≡ rows_of ports p (whole m)
  rows_same plain small =
      let memories = memories_same p m.wires m.cells (flops m) m.processes (map writing m.processes) m.memories plain (writing_accesses m.processes) ∙ sym (words_same m (flops m) plain ((building_of m).next + length (all_parts m)) small p m.wires m.memories) in
      λ i. cells_alike i ++ (link_rows p m.wires m.links ++ (writing_rows (start_of m.wires (map writing m.processes)) (start_of m.wires (map without_rules m.processes)) p m.wires (half m) (whole m) m.processes i ++ memories i))

  -- the bits without the write ports
  bare_places : places_of (rows_of ports p (bare m)) ≡ places_of (rows_of ports p (half m))
  bare_places =
      let start : SigBit → Bit = start_of m.wires (map without_rules m.processes) in
      let start' : SigBit → Bit = start_of m.wires (map writing m.processes) in
      let cells : List Driven = cells_rows start ports p m.wires (m.cells ++ flops m) in
      let links : List Driven = link_rows p m.wires m.links in
      let processes : List Driven = processes_rows start p m.wires (bare m) (map without_rules m.processes) in
      let words : List Driven = memories_rows p m.wires (m.cells ++ flops m) (map without_rules m.processes) m.memories in
      let words' : List Driven = memories_rows p m.wires (m.cells ++ flops m) (map writing m.processes) m.memories in
      let alike = memories_alike p m.wires (m.cells ++ flops m) (m.cells ++ flops m) (map without_rules m.processes) (map writing m.processes) (λ name. refl) m.memories in
      let tail : places_of (processes ++ words) ≡ places_of (processes ++ words') = places_more processes words ∙ ap (λ z. places_of processes ++ z) alike ∙ sym (places_more processes words') in
      let rest : places_of (links ++ (processes ++ words)) ≡ places_of (links ++ (processes ++ words')) = places_more links (processes ++ words) ∙ ap (λ z. places_of links ++ z) tail ∙ sym (places_more links (processes ++ words')) in
      places_more cells (links ++ (processes ++ words))
      ∙ ap (λ z. places_of cells ++ z) rest
      ∙ sym (places_more cells (links ++ (processes ++ words')))
      ∙ (λ i. places_of (cells_rows (sym (begun_alike m) i) ports p m.wires (m.cells ++ flops m) ++ (links ++ (sym (writing_rows start' start p m.wires (half m) (bare m) m.processes) i ++ words'))))

-- with the same wires and instances, and bits driven alike, no bit gets a second driver
driven_alike : (over : Ports) (m : Module) (a b : List Cell) (ps qs : List Process) → ((p : Path) → places_of (rows_of over p (record m { cells = a; processes = ps })) ≡ places_of (rows_of over p (record m { cells = b; processes = qs }))) → instances a ≡ instances b
    → IsWellDriven over (record m { cells = a; processes = ps }) → IsWellDriven over (record m { cells = b; processes = qs })
driven_alike over m a b ps qs e same h = record {
  inputs = h.inputs;
  rows = λ p. subst Distinct (e p) (h.rows p);
  apart = λ p x i at n j role of.
      let there = subst (In x.place) (sym (e p)) (In-map (λ (row : Driven). row.place) x (rows_of over p (record m { cells = b; processes = qs })) i) in
      let k = In-mapped (λ (row : Driven). row.place) x.place (rows_of over p (record m { cells = a; processes = ps })) there in
      h.apart p k.0 k.1 (ap (λ (q : Place). q.path) (sym k.2) ∙ at) n j role (subst (λ (q : Place). IsOf n.name q.spot) k.2 of);
  instances = subst (λ frames. Distinct (map (λ (f : Frame). f.name) frames)) same h.instances;
}

pub more_instances : (m : Module) → instances (m.cells ++ flops m) ≡ instances (m.cells ++ (flops m ++ ports_made m))
more_instances m =
    sym
    (ap instances (sym (append_assoc m.cells (flops m) (ports_made m)))
    ∙ instances-append (m.cells ++ flops m) (ports_made m)
    ∙ ap (λ z. instances (m.cells ++ flops m) ++ z) (no_instances (ports_made m) (ports_write m))
    ∙ append-nil (instances (m.cells ++ flops m)))

-- the same module, with no further wires and connections
pub bare_is : (m : Module) → rebuilt [] (flops m) [] (map without_rules m.processes) m ≡ bare m
bare_is m =
    λ i. record m { cells = m.cells ++ flops m; wires = append-nil m.wires i; links = append-nil m.links i; processes = map without_rules m.processes }

module _ (ports : types.Ports) (m : Module) (ready : IsReady with_processes ports m) (acts : HaveNoAlways m) (edges : HaveNoTwoEdges m) where
  bare_driven : (over : Ports) → IsWellDriven over m → IsWellDriven over (bare m)
  bare_driven over h =
      subst (IsWellDriven over) (bare_is m) (flops_driven ports m ready acts edges over h)

  pub half_driven : (over : Ports) → IsWellDriven over m → IsWellDriven over (half m)
  half_driven over h =
      driven_alike over m (m.cells ++ flops m) (m.cells ++ flops m) (map without_rules m.processes) (map writing m.processes) (λ p. bare_places m over p) refl (bare_driven over h)

  pub small : RulesSmall m [] (module_rules m)
  small = numbers_small ports m ready

  pub plain : Each IsPlainCell (flops m)
  plain =
      cells_plain (length m.wires) (building_of m).next (all_parts m) (all_whole ports m ready acts edges).whole

  pub whole_driven : (over : Ports) → IsWellDriven over m → IsWellDriven over (whole m)
  whole_driven over h =
      driven_alike over m (m.cells ++ flops m) (m.cells ++ (flops m ++ ports_made m)) (map writing m.processes) (map without_rules m.processes) (λ p. ap places_of (rows_same m over p plain small)) (more_instances m) (half_driven over h)

  pub whole_instances : instances m.cells ≡ instances (m.cells ++ (flops m ++ ports_made m))
  whole_instances = flops_instances ports m ready acts edges ∙ more_instances m

module _ (table : PortTable) (m : Module) (ready : IsReady with_processes (types.table_ports table.modules) m) (acts : HaveNoAlways m) (edges : HaveNoTwoEdges m) (starts : HaveNoStarts m) where
  ports_refine : RefinesOver (half m) (whole m) (flat.table_ports table)
  ports_refine = lifted (half m) (whole m) (flat.table_ports table) (record {
    id = refl;
    ports_same = refl;
    children = more_instances m;
    rows = λ p t w s before d i. s.met d (subst (In d) (rows_same m (flat.table_ports table) p (plain (types.table_ports table.modules) m ready acts edges) (small (types.table_ports table.modules) m ready acts edges)) i);
  })

  pub refines : RefinesIn m (proc_sync_of m) table
  refines =
      subst (λ n. RefinesIn m n table) (sym (sync_is m))
      (refines_in_turn m (half m) (whole m) (flat.table_ports table) refl refl
      (flops_instances (types.table_ports table.modules) m ready acts edges)
      (λ over agree h. half_driven (types.table_ports table.modules) m ready acts edges over h)
      (flops_refine table m ready acts edges starts) ports_refine)
