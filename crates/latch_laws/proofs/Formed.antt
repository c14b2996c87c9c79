-- The module that the step gives: what is owed of it, and so it is well formed.
use Rattle.std.proofs.Common.{◌≡◌, ◌≤◌, ℕ, ◌+◌, false, List, [], ◌∷◌, ◌++◌, length, Some, inl, inr, refl, sym, ◌∙◌, ap, subst, arith, length-append, append-nil}
use Rattle.std.specs.Prelude.{flat_map, map}
use Rattle.std.specs.List.{list_any}
use Rattle.std.specs.Option.{option_map_or}
use Rattle.std.proofs.lemmas.Bool.{or_parts}
use Rattle.cell_types.specs.PinName.{pin_text}
use Rattle.cell_types.specs.declared.kind.CellKind.{CellKind}
use Rattle.cell_types.specs.declared.kind.CellKind.TheVariants.{Gate, Memory, Storage, StorageGate, Word}
use Rattle.rtl_sig.specs.declared.sig.WireBit.{WireBit}
use Rattle.rtl_ir.specs.Build.{Building, building_of, first_number, made_number}
use Rattle.rtl_ir.specs.Faults.Cells.{is_memory_kind}
use Rattle.rtl_ir.specs.Faults.ProcessLimits.{memory_lines, passes_limit, switches_pass}
use Rattle.rtl_ir.specs.Faults.Processes.{process_faults}
use Rattle.rtl_ir.specs.Flat.Cell.{Ports as FlatPorts, cell_kind, instance_of, instances, listed}
use Rattle.rtl_ir.specs.Parameters.{signal_at}
use Rattle.rtl_ir.specs.Ports.{ports_of}
use Rattle.rtl_ir.specs.Scope.{with_processes}
use Rattle.rtl_ir.specs.Signals.{wire_bits}
use Rattle.rtl_ir.specs.Types.{Ports, cell_type}
use Rattle.rtl_ir.specs.WritePorts.{EventLine, is_write_cell, is_write_kind}
use Rattle.rtl_ir.specs.declared.cell.Cell.{Cell}
use Rattle.rtl_ir.specs.declared.module.Module.{Module}
use Rattle.rtl_ir.specs.declared.process.Process.{Process}
use Rattle.rtl_ir.specs.declared.process.WriteLine.{WriteLine}
use Rattle.rtl_ir.specs.declared.wire.Wire.{Wire}
use Rattle.net_model.proofs.Grown.{ports_more}
use Rattle.net_model.proofs.Swapping.{instances-append}
use Rattle.net_model.proofs.Members.{Distinct-append, In-mapped, map-append}
use Rattle.net_model.specs.Lists.{Distinct, In}
use Rattle.net_model.specs.Proc.Latch.{latches_step, proc_latch_of, without_always}
use Rattle.net_model.specs.Refine.{IsWellDriven}
use Rattle.net_model.specs.Within.{CellIn, Each, LinkIn, ProcessIn}
use Rattle.map_laws.proofs.FreshWires.{IsFresh, fresh_number, names_of, old_number, rising_distinct, rising_fresh}
use Rattle.map_laws.specs.Expansion.{bits_from, cell_bits, kind_bits}
use Rattle.pass_laws.proofs.Alone.{library_faultless}
use Rattle.pass_laws.proofs.Counting.{count, count_more}
use Rattle.pass_laws.proofs.Faultless.{no_faults, type_is}
use Rattle.pass_laws.proofs.Outputs.{output_bits}
use Rattle.pass_laws.specs.Bits.{cells_bits, links_bits, pin_bits}
use Rattle.pass_laws.specs.Replaces.{IsFaultless}
use Rattle.build_laws.proofs.CountingBits.{among}
use Rattle.proc_laws.proofs.RebuildDriven.{still_driven}
use Rattle.proc_laws.proofs.RebuildFaults.{still_ready}
use Rattle.proc_laws.proofs.RebuildProcesses.{IsGoodProcess, each_good}
use Rattle.proc_laws.specs.Ready.{IsReady}
use Rattle.build_laws.specs.Rebuilds.{Rebuilds, checked_bits, driven_bits, rebuilt}
use Rattle.sync_laws.proofs.GoodRules.{acting_in}
use Rattle.proc_laws.specs.Kinds.{HaveNoTwoEdges}
use Rattle.latch_laws.proofs.Growth.{Grows, IsPlain}
use Rattle.latch_laws.proofs.Kept.{all_once, checked_once, driven_once}
use Rattle.latch_laws.proofs.Lines.{lines_same}
use Rattle.latch_laws.proofs.Stepping.{IsLatched, adds_processes, latch_bits}
use Rattle.latch_laws.proofs.Wider.{left_wider}
use Rattle.latch_laws.proofs.Writing.{all_good}

-- plain cells are no instances, and none of them writes a memory
plain_free : (n : ℕ) (cells : List Cell) → Each (IsPlain n) cells → instances cells ≡ []
plain_free n [] h = refl
plain_free n (c ∷ cells) h =
    (λ i. listed (instance_of c ((h c (inl refl)).whole.own i)) ++ plain_free n cells (λ d j. h d (inr j)) i)

no_write : (kind : CellKind) → is_memory_kind kind ≡ false → is_write_kind (Some kind) ≡ false
no_write (Word kind) e = refl
no_write (Gate kind) e = refl
no_write (Storage kind) e = refl
no_write (StorageGate gate) e = refl
no_write (Memory kind) e = absurd (cc)

plain_quiet : (n : ℕ) (c : Cell) → IsPlain n c → is_write_cell c.kind_name ≡ false
unfolding cell_kind is_write_cell
plain_quiet n c is = ap is_write_kind is.whole.own ∙ no_write is.kind is.apart

module _ (ports : Ports) (n : ℕ) where
  plain_faultless : (c : Cell) → IsPlain n c → IsFaultless ports c
  plain_faultless c is = library_faultless ports c is.kind is.whole.own is.apart is.whole.shape is.whole.output

  -- the bits that they drive
  plain_bits : (c : Cell) → IsPlain n c → pin_bits (cell_type ports c.kind_name) c.pins ≡ cell_bits c
  plain_bits c is =
      ap (λ t. pin_bits t c.pins) (type_is ports c is.kind is.whole.own)
      ∙ output_bits is.kind c is.apart is.whole.shape is.name is.output
      ∙ sym (ap (λ k. kind_bits k c) is.whole.own ∙ ap (λ o. wire_bits (option_map_or (λ pin. signal_at c.pins (pin_text pin)) o [])) is.output)

  all_bits : (cells : List Cell) → Each (IsPlain n) cells → cells_bits ports cells ≡ flat_map cell_bits cells
  all_bits [] h = refl
  all_bits (c ∷ cells) h = λ i. plain_bits c (h c (inl refl)) i ++ all_bits cells (λ d j. h d (inr j)) i

module _ (ports : Ports) (m : Module) (ready : IsReady with_processes ports m) where
  faults : process_faults with_processes ports m [] m.processes ≡ []
  faults = (no_faults with_processes ports m ready.faultless).processes

  -- each process is one that gives latches
  latched : Each (IsLatched (length m.wires)) m.processes
  latched p i =
      let good = each_good ports m [] m.processes faults p i in
      let here = ready.within.processes p i in
      record {
        within = record { assigns = here.assigns; switches = here.switches };
        narrow = (or_parts (switches_pass p.root.switches) (list_any (λ (l : WriteLine). passes_limit l.value) (memory_lines p)) good.1.narrow).0;
        updates = λ r j. (here.syncs r (acting_in p.syncs r j)).updates;
      }

  abbrev pub last : Building
  last = latches_step m.processes (building_of m)

  abbrev pub changed : List Process
  changed = map without_always m.processes

  pub grows : Grows (building_of m) last (flat_map latch_bits m.processes)
  grows = adds_processes (length m.wires) m.processes (building_of m) latched (omega arith)

  -- the module is as it was but for what went last, and the rules that always act
  pub latch_is : proc_latch_of m ≡ rebuilt grows.wires grows.cells grows.links changed m
  latch_is = ap (λ (b : Module). record b { processes = changed }) grows.adds.body

  abbrev pub after : Module
  after = rebuilt grows.wires grows.cells grows.links changed m

  wires_are : length last.body.wires ≡ length (m.wires ++ grows.wires)
  wires_are = ap (λ (b : Module). length b.wires) grows.adds.body

  pub latch_ports : ports_of m.wires ≡ ports_of (proc_latch_of m).wires
  latch_ports =
      sym (ports_more m.wires grows.wires (λ w i. ap (λ (v : Wire). v.role) (grows.bare w i))) ∙ sym (ap (λ (b : Module). ports_of b.wires) latch_is)

  pub latch_instances : instances m.cells ≡ instances (proc_latch_of m).cells
  latch_instances =
      sym (append-nil (instances m.cells))
      ∙ ap (λ z. instances m.cells ++ z) (sym (plain_free (length last.body.wires) grows.cells grows.plain))
      ∙ sym (instances-append m.cells grows.cells)
      ∙ sym (ap (λ (b : Module). instances b.cells) latch_is)

  module _ (few : (latches_step m.processes (building_of m)).next ≤ 1000000000) (edges : HaveNoTwoEdges m) where
    -- no fresh wire has the name of a wire of the module
    apart : (name : List ℕ) → In name (names_of m.wires) → In name (names_of grows.wires) → ⊥
    apart name i j =
        let is : IsFresh (first_number m) last.next name = rising_fresh (first_number m) last.next (names_of grows.wires) grows.named name j in
        let number : made_number name ≡ is.number = fresh_number (first_number m) last.next name (omega arith) few is in
        omega (arith, number, is.above, old_number m name i)

    named : Distinct (names_of (m.wires ++ grows.wires))
    named =
        subst Distinct (sym (map-append (λ (w : Wire). w.name) m.wires grows.wires))
        (Distinct-append (names_of m.wires) (names_of grows.wires) ready.named (rising_distinct last.next few (first_number m) (omega arith) (names_of grows.wires) grows.named) apart)

    -- the bits that are driven
    driven : (f : Process → List WireBit) → ((x : WireBit) → count x (flat_map latch_bits m.processes) + count x (flat_map f changed) ≤ count x (flat_map f m.processes)) → (x : WireBit) → count x (cells_bits ports grows.cells ++ (links_bits grows.links ++ flat_map f changed)) ≤ count x (bits_from (length m.wires) grows.wires ++ flat_map f m.processes)
    driven f h x =
        let cells = ap (count x) (all_bits ports (length last.body.wires) grows.cells grows.plain) in
        omega (arith, cells, grows.drives x, count_more x (cells_bits ports grows.cells) (links_bits grows.links ++ flat_map f changed), count_more x (links_bits grows.links) (flat_map f changed), count_more x (bits_from (length m.wires) grows.wires) (flat_map f m.processes), h x)

    stands : (p : Process) → In p m.processes → (before : List EventLine) × IsGoodProcess ports m before p
    stands p i = each_good ports m [] m.processes faults p i

    longer : length m.wires ≤ length (m.wires ++ grows.wires)
    longer = omega (arith, length-append m.wires grows.wires)

    pub rebuilds : Rebuilds ports m grows.wires grows.cells grows.links changed
    rebuilds = record {
      inner = λ w i. ap (λ (v : Wire). v.role) (grows.bare w i);
      named = named;
      plain = plain_free (length last.body.wires) grows.cells grows.plain;
      cells = λ c i. plain_faultless ports (length last.body.wires) c (grows.plain c i);
      links = λ l i. record { width = (grows.lines l i).even; wires = (grows.lines l i).left };
      processes = all_good ports m after
          (lines_same m after grows.cells refl refl (λ c j. plain_quiet (length last.body.wires) c (grows.plain c j)))
          [] m.processes refl edges faults;
      cells_within = λ c i. subst (λ n. CellIn n c) wires_are (grows.plain c i).whole.within;
      links_within = λ l i. subst (λ n. LinkIn n l) wires_are (grows.lines l i).within;
      processes_within = λ q i.
          let f = In-mapped without_always q m.processes i in
          subst (ProcessIn (length (m.wires ++ grows.wires))) (sym f.2) (left_wider (length m.wires) (length (m.wires ++ grows.wires)) longer f.0 (ready.within.processes f.0 f.1));
      checked = among _ _ (driven checked_bits (λ x. all_once checked_bits x m.processes (λ p i. checked_once x p (stands p i).1.rules)));
      driven = among _ _ (driven driven_bits (λ x. all_once driven_bits x m.processes (λ p i. driven_once x p (stands p i).1.rules)));
    }

    pub latch_driven : (over : FlatPorts) → IsWellDriven over m → IsWellDriven over (proc_latch_of m)
    latch_driven over h =
        subst (IsWellDriven over) (sym latch_is) (still_driven ports m grows.wires grows.cells grows.links changed ready.within rebuilds over h)

    pub latch_ready : IsReady with_processes ports (proc_latch_of m)
    latch_ready =
        subst (IsReady with_processes ports) (sym latch_is) (still_ready ports m grows.wires grows.cells grows.links changed ready rebuilds)
