-- The module that the step gives: what is owed of it, and so it is well formed.
use Rattle.std.proofs.Common.{◌≡◌, ◌≤◌, ℕ, List, [], ◌∷◌, ◌++◌, length, inl, inr, refl, sym, ◌∙◌, ap, subst, arith}
use Rattle.std.specs.Prelude.{flat_map}
use Rattle.std.specs.List.{list_any}
use Rattle.std.proofs.lemmas.Bool.{or_parts}
use Rattle.cell_types.specs.declared.kind.CellKind.TheVariants.{Word}
use Rattle.cell_types.specs.declared.pin_name.PinName.TheVariants.{Y}
use Rattle.cell_types.specs.declared.word.WordKind.{WordKind}
use Rattle.rtl_sig.specs.declared.sig.WireBit.{WireBit}
use Rattle.rtl_ir.specs.Assigns.{tree_bits}
use Rattle.rtl_ir.specs.Build.{Building, building_of, first_number, made_number}
use Rattle.rtl_ir.specs.Faults.ProcessLimits.{memory_lines, passes_limit, switches_pass}
use Rattle.rtl_ir.specs.Flat.Cell.{Ports as FlatPorts, instance_of, instances, listed}
use Rattle.rtl_ir.specs.Ports.{ports_of}
use Rattle.rtl_ir.specs.Rules.{acting_rules, updated_bits}
use Rattle.rtl_ir.specs.Scope.{with_processes, without_processes}
use Rattle.rtl_ir.specs.Types.{Ports, cell_type, table_ports}
use Rattle.rtl_ir.specs.declared.cell.Cell.{Cell}
use Rattle.rtl_ir.specs.declared.module.Module.{Module}
use Rattle.rtl_ir.specs.declared.ports.PortTable.{PortTable}
use Rattle.rtl_ir.specs.declared.process.Process.{Process}
use Rattle.rtl_ir.specs.declared.process.WriteLine.{WriteLine}
use Rattle.rtl_ir.specs.declared.wire.Wire.{Wire}
use Rattle.net_model.proofs.Grown.{ports_more}
use Rattle.net_model.proofs.Members.{Distinct-append, map-append}
use Rattle.net_model.proofs.Ranges.{each_none}
use Rattle.net_model.specs.Lists.{Distinct, In}
use Rattle.net_model.specs.Proc.Mux.{proc_mux_of, processes_step}
use Rattle.net_model.specs.Refine.{IsWellDriven}
use Rattle.net_model.specs.Within.{CellIn, Each, LinkIn, ProcessIn}
use Rattle.map_laws.proofs.FreshWires.{IsFresh, fresh_number, names_of, old_number, rising_distinct, rising_fresh}
use Rattle.map_laws.specs.Expansion.{IsWhole, bits_from, cell_bits, kind_bits}
use Rattle.pass_laws.proofs.Alone.{library_faultless}
use Rattle.pass_laws.proofs.Counting.{count, count_more}
use Rattle.pass_laws.proofs.Faultless.{no_faults, type_is}
use Rattle.pass_laws.proofs.Outputs.{output_bits}
use Rattle.pass_laws.specs.Bits.{cells_bits, links_bits, pin_bits}
use Rattle.pass_laws.specs.Replaces.{IsFaultless}
use Rattle.build_laws.proofs.CountingBits.{among}
use Rattle.proc_laws.proofs.RebuildDriven.{instances_stay, still_driven}
use Rattle.proc_laws.proofs.RebuildFaults.{last_ready}
use Rattle.proc_laws.proofs.RebuildProcesses.{each_good}
use Rattle.proc_laws.specs.Ready.{AreRuled, HaveNoLines, IsReady}
use Rattle.build_laws.specs.Rebuilds.{Rebuilds, checked_bits, driven_bits, rebuilt, rules_bits}
use Rattle.proc_laws.specs.Step.{IsStep}
use Rattle.mux_laws.proofs.FrameGrowing.{GrowsBy, IsWholeWord}
use Rattle.mux_laws.proofs.FrameRuns.{tree_count}
use Rattle.mux_laws.proofs.FrameSteps.{IsMuxed, adds_processes, process_runs}
use Rattle.mux_laws.proofs.TreeRefining.{refines}

-- word cells are no instances
words_plain : (n : ℕ) (cells : List Cell) → Each (IsWholeWord n) cells → instances cells ≡ []
words_plain n [] h = refl
words_plain n (c ∷ cells) h =
    (λ i. listed (instance_of c ((h c (inl refl)).whole.own i)) ++ words_plain n cells (λ d j. h d (inr j)) i)

module _ (ports : Ports) (n : ℕ) where
  word_faultless : (c : Cell) → IsWholeWord n c → IsFaultless ports c
  word_faultless c is = library_faultless ports c (Word is.kind) is.whole.own refl is.whole.shape is.whole.output

  -- the bits that they drive
  word_bits : (kind : WordKind) (c : Cell) → IsWhole n (Word kind) c → pin_bits (cell_type ports c.kind_name) c.pins ≡ cell_bits c
  word_bits kind c is =
      ap (λ t. pin_bits t c.pins) (type_is ports c (Word kind) is.own)
      ∙ output_bits (Word kind) c refl is.shape Y refl
      ∙ sym (ap (λ k. kind_bits k c) is.own)

  words_bits : (cells : List Cell) → Each (IsWholeWord n) cells → cells_bits ports cells ≡ flat_map cell_bits cells
  words_bits [] h = refl
  words_bits (c ∷ cells) h =
      λ i. word_bits (h c (inl refl)).kind c (h c (inl refl)).whole i ++ words_bits cells (λ d j. h d (inr j)) i

-- the runs of processes have their tree bits, no more often than the processes drive them
runs_count : (x : WireBit) (f : Process → List WireBit) → ((q : Process) → count x (tree_bits q.root) ≤ count x (f q)) → (qs : List Process) → count x (flat_map process_runs qs) ≤ count x (flat_map f qs)
runs_count x f h [] = omega arith
runs_count x f h (q ∷ qs) =
    omega (arith, count_more x (process_runs q) (flat_map process_runs qs), count_more x (f q) (flat_map f qs), tree_count q.root x, h q, runs_count x f h qs)

module _ (ports : Ports) (m : Module) (ready : IsReady with_processes ports m) where
  -- each process is one that becomes multiplexers
  muxed : Each (IsMuxed (length m.wires)) m.processes
  muxed q i =
      let good = each_good ports m [] m.processes (no_faults with_processes ports m ready.faultless).processes q i in
      let here = ready.within.processes q i in
      record {
        within = record { assigns = here.assigns; switches = here.switches };
        narrow = (or_parts (switches_pass q.root.switches) (list_any (λ (l : WriteLine). passes_limit l.value) (memory_lines q)) good.1.narrow).0;
      }

  abbrev pub last : Building
  last = processes_step (building_of m) m.processes

  pub grows : GrowsBy (building_of m) last (flat_map process_runs m.processes)
  grows = adds_processes (length m.wires) m.processes (building_of m) muxed (omega arith)

  -- the module is as it was but for what went last
  pub mux_is : proc_mux_of m ≡ rebuilt grows.wires grows.cells grows.links [] m
  mux_is = ap (λ (b : Module). record b { processes = [] }) grows.adds.body

  wires_are : length last.body.wires ≡ length (m.wires ++ grows.wires)
  wires_are = ap (λ (b : Module). length b.wires) grows.adds.body

  module _ (few : (processes_step (building_of m) m.processes).next ≤ 1000000000) where
    -- no fresh wire has the name of a wire of the module
    apart : (name : List ℕ) → In name (names_of m.wires) → In name (names_of grows.wires) → ⊥
    apart name i j =
        let is : IsFresh (first_number m) last.next name = rising_fresh (first_number m) last.next (names_of grows.wires) grows.named name j in
        let number : made_number name ≡ is.number = fresh_number (first_number m) last.next name (omega arith) few is in
        omega (arith, number, is.above, old_number m name i)

    named : Distinct (names_of (m.wires ++ grows.wires))
    named =
        subst Distinct (sym (map-append (λ (w : Wire). w.name) m.wires grows.wires))
        (Distinct-append (names_of m.wires) (names_of grows.wires) ready.named (rising_distinct last.next few (first_number m) (omega arith) (names_of grows.wires) grows.named) apart)

    -- the bits that are driven
    driven : (f : Process → List WireBit) → ((x : WireBit) (q : Process) → count x (tree_bits q.root) ≤ count x (f q)) → (x : WireBit) → count x (cells_bits ports grows.cells ++ (links_bits grows.links ++ [])) ≤ count x (bits_from (length m.wires) grows.wires ++ flat_map f m.processes)
    driven f h x =
        let cells = ap (count x) (words_bits ports (length last.body.wires) grows.cells grows.words ∙ grows.outputs) in
        let links = ap (count x) grows.lefts in
        omega (arith, cells, links, count_more x (cells_bits ports grows.cells) (links_bits grows.links ++ []), count_more x (links_bits grows.links) [], count_more x (bits_from (length m.wires) grows.wires) (flat_map f m.processes), runs_count x f (h x) m.processes)

    pub rebuilds : Rebuilds ports m grows.wires grows.cells grows.links []
    rebuilds = record {
      inner = λ w i. ap (λ (v : Wire). v.role) (grows.bare w i);
      named = named;
      plain = words_plain (length last.body.wires) grows.cells grows.words;
      cells = λ c i. word_faultless ports (length last.body.wires) c (grows.words c i);
      links = λ l i. record { width = (grows.lines l i).even; wires = (grows.lines l i).left };
      processes = refl;
      cells_within = λ c i. subst (λ n. CellIn n c) wires_are (grows.words c i).whole.within;
      links_within = λ l i. subst (λ n. LinkIn n l) wires_are (grows.lines l i).within;
      processes_within = each_none (ProcessIn (length (m.wires ++ grows.wires)));
      checked = among _ _ (driven checked_bits (λ x q. omega (arith, count_more x (tree_bits q.root) (updated_bits q.syncs))));
      driven = among _ _ (driven driven_bits (λ x q. omega (arith, count_more x (tree_bits q.root) (rules_bits (acting_rules q.syncs)))));
    }

    pub mux_ports : ports_of m.wires ≡ ports_of (proc_mux_of m).wires
    mux_ports = sym (ports_more m.wires grows.wires rebuilds.inner) ∙ sym (ap (λ (b : Module). ports_of b.wires) mux_is)

    pub mux_instances : instances m.cells ≡ instances (proc_mux_of m).cells
    mux_instances =
        instances_stay ports m grows.wires grows.cells grows.links [] rebuilds ∙ sym (ap (λ (b : Module). instances b.cells) mux_is)

    pub mux_driven : (over : FlatPorts) → IsWellDriven over m → IsWellDriven over (proc_mux_of m)
    mux_driven over h =
        subst (IsWellDriven over) (sym mux_is) (still_driven ports m grows.wires grows.cells grows.links [] ready.within rebuilds over h)

    pub mux_ready : IsReady without_processes ports (proc_mux_of m)
    mux_ready =
        subst (IsReady without_processes ports) (sym mux_is) (last_ready ports m grows.wires grows.cells grows.links [] ready rebuilds refl)

-- with refinement it is a step of `proc`
pub mux_step : (table : PortTable) (m : Module) → IsReady with_processes (table_ports table.modules) m → AreRuled m → HaveNoLines m → (processes_step (building_of m) m.processes).next ≤ 1000000000 → IsStep table m (proc_mux_of m)
mux_step table m ready ruled lines few =
    let ports : Ports = table_ports table.modules in
    record {
      id = sym (ap (λ (b : Module). b.id) (mux_is ports m ready));
      ports = mux_ports ports m ready few;
      instances = mux_instances ports m ready few;
      driven = λ over h. mux_driven ports m ready few over h;
      refines = refines table m ready ruled lines;
    }
