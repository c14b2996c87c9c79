-- The module that the step gives may be given on.
use Rattle.std.proofs.Common.{◌≡◌, ◌≤◌, ℕ, ◌+◌, List, [], ◌∷◌, ◌++◌, length, inl, inr, refl, sym, ◌∙◌, ap, subst, arith, append-nil, append_assoc}
use Rattle.std.specs.Prelude.{codes, map}
use Rattle.cell_types.specs.declared.kind.CellKind.TheVariants as Cells
use Rattle.cell_types.specs.declared.memory.MemoryKind.TheVariants.{MemwrV2}
use Rattle.rtl_sig.specs.declared.sig.WireBit.{WireBit}
use Rattle.rtl_ir.specs.Build.{building_of, pin_of}
use Rattle.rtl_ir.specs.Drivers.{drive_count, drives_of}
use Rattle.rtl_ir.specs.Faults.Cells.{cell_faults, faults_by_type}
use Rattle.rtl_ir.specs.Faults.Processes.{process_faults}
use Rattle.rtl_ir.specs.Flat.Access.{write_trigger}
use Rattle.rtl_ir.specs.Scope.{Scope, with_processes}
use Rattle.rtl_ir.specs.Types.{CellType, Instance, Library, Ports, Unknown, Unsupported, cell_type, table_ports}
use Rattle.rtl_ir.specs.declared.cell.Cell.{Cell}
use Rattle.rtl_ir.specs.declared.cell.Pin.{Pin}
use Rattle.rtl_ir.specs.declared.module.Module.{Module}
use Rattle.rtl_ir.specs.declared.ports.PortTable.{PortTable}
use Rattle.rtl_ir.specs.declared.process.Event.{Event}
use Rattle.rtl_ir.specs.declared.process.Process.{Process}
use Rattle.rtl_ir.specs.declared.process.SyncRule.{SyncRule}
use Rattle.rtl_ir.specs.declared.process.WriteLine.{WriteLine}
use Rattle.net_model.proofs.Members.{In-mapped}
use Rattle.net_model.proofs.Ranges.{each_both, each_more, each_none}
use Rattle.net_model.specs.Proc.Sync.{Numbered, line_number, proc_sync_of}
use Rattle.net_model.specs.Within.{CellIn, Each, SigIn}
use Rattle.pass_laws.proofs.Alone.{links_even}
use Rattle.pass_laws.proofs.Counting.{cells_more, count, fewer_faults}
use Rattle.pass_laws.proofs.Faultless.{HasNoFaults, no_faults, type_is}
use Rattle.pass_laws.proofs.Forming.{all_none}
use Rattle.pass_laws.specs.Bits.{cells_bits, pin_bits}
use Rattle.pass_laws.specs.Replaces.{IsEven}
use Rattle.proc_laws.proofs.RebuildFaults.{drives_count}
use Rattle.proc_laws.proofs.RebuildProcesses.{IsGoodProcess, each_good, none_bad}
use Rattle.proc_laws.specs.Ready.{IsReady}
use Rattle.proc_laws.specs.Step.{StaysReady}
use Rattle.proc_laws.specs.Kinds.{HaveNoAlways, HaveNoTwoEdges}
use Rattle.sync_laws.proofs.GoodRules.{all_whole, without_rules}
use Rattle.sync_laws.proofs.Parts.{Part, all_parts, cells_from, named}
use Rattle.sync_laws.specs.Lines.{WritesHaveBits}
use Rattle.sync_laws.proofs.FlopsFormed.{flops_ready, still_good}
use Rattle.sync_laws.proofs.GoodLines.{none_numbered, rules_good}
use Rattle.sync_laws.proofs.NewFaults.{cells_split, rules_none, stand_plain}
use Rattle.sync_laws.proofs.FlopsRefined.{cells_plain}
use Rattle.sync_laws.proofs.Sound.{IsSound, all_sound}
use Rattle.sync_laws.proofs.Words.{IsWrite}
use Rattle.sync_laws.proofs.WriteParts.{cells_both, lines_parts, module_rules, numbered_line, numbered_lines, write_part, written_parts}
use Rattle.sync_laws.proofs.Written.{bare, bare_is, flops, ports_made, ports_write, sync_is, whole}

-- write ports drive no bit
no_pins : (pins : List Pin) → pin_bits (Library (Cells.Memory MemwrV2)) pins ≡ []
no_pins [] = refl
no_pins (p ∷ pins) = no_pins pins

no_bits : (ports : Ports) (cells : List Cell) → Each IsWrite cells → cells_bits ports cells ≡ []
no_bits ports [] h = refl
no_bits ports (c ∷ cells) h =
    let here : pin_bits (cell_type ports c.kind_name) c.pins ≡ [] = ap (λ t. pin_bits t c.pins) (type_is ports c (Cells.Memory MemwrV2) (h c (inl refl))) ∙ no_pins c.pins in
    λ i. here i ++ no_bits ports cells (λ x j. h x (inr j)) i

-- they name wires of the module
module _ (m : Module) (count : ℕ) where
  four_in : (a b c d : Pin) → SigIn count a.sig → SigIn count b.sig → SigIn count c.sig → SigIn count d.sig → Each (λ (pin : Pin). SigIn count pin.sig) (a ∷ b ∷ c ∷ d ∷ [])
  four_in a b c d ha hb hc hd =
      let inside : Pin → Type 0 = λ (pin : Pin). SigIn count pin.sig in
      each_more inside a (b ∷ c ∷ d ∷ []) ha (each_more inside b (c ∷ d ∷ []) hb (each_more inside c (d ∷ []) hc (each_more inside d [] hd (each_none inside))))

  lines_in : (event : Event) (rule before : List Numbered) (lines : List WriteLine) (k : ℕ) → Each (IsSound count event) lines → Each (CellIn count) (cells_from k (lines_parts m event rule before lines))
  lines_in event rule before [] k sound = each_none (CellIn count)
  lines_in event rule before (line ∷ lines) k sound =
      let here : IsSound count event line = sound line (inl refl) in
      let pins = four_in (pin_of (codes "\\CLK") (write_trigger event).signal) (pin_of (codes "\\EN") line.enable) (pin_of (codes "\\ADDR") line.address) (pin_of (codes "\\DATA") line.value) here.clock_in here.within.enable here.within.address here.within.value in
      each_more (CellIn count) (named (write_part event line (line_number m before line.memory) rule) k) (cells_from (k + 1) (lines_parts m event (rule ++ numbered_line m before line ∷ []) (before ++ numbered_line m before line ∷ []) lines)) pins
      (lines_in event (rule ++ numbered_line m before line ∷ []) (before ++ numbered_line m before line ∷ []) lines (k + 1) (λ x j. sound x (inr j)))

  rules_in : (before : List Numbered) (rules : List SyncRule) (k : ℕ) → Each (λ (r : SyncRule). Each (IsSound count r.event) r.writes) rules → Each (CellIn count) (cells_from k (written_parts m before rules))
  rules_in before [] k sound = each_none (CellIn count)
  rules_in before (r ∷ rules) k sound =
      let here : List Part = lines_parts m r.event [] before r.writes in
      let later : List Numbered = numbered_lines m before r.writes in
      subst (Each (CellIn count)) (sym (cells_both k here (written_parts m later rules)))
      (each_both (CellIn count) (cells_from k here) (cells_from (k + length here) (written_parts m later rules)) (lines_in r.event [] before r.writes k (sound r (inl refl))) (rules_in later rules (k + length here) (λ x j. sound x (inr j))))

-- faults of cells ask for a module's memories and connections alone
module _ (scope : Scope) (ports : Ports) (m : Module) (cells cells' : List Cell) (ps ps' : List Process) where
  type_alike : (earlier : List Cell) (c : Cell) (t : CellType) → faults_by_type scope (record m { cells = cells; processes = ps }) earlier c t ≡ faults_by_type scope (record m { cells = cells'; processes = ps' }) earlier c t
  type_alike earlier c (Library (Cells.Word kind)) = refl
  type_alike earlier c (Library (Cells.Gate kind)) = refl
  type_alike earlier c (Library (Cells.Storage kind)) = refl
  type_alike earlier c (Library (Cells.StorageGate kind)) = refl
  type_alike earlier c (Library (Cells.Memory kind)) = refl
  type_alike earlier c (Instance lines) = refl
  type_alike earlier c Unsupported = refl
  type_alike earlier c Unknown = refl

  faults_alike : (earlier cs : List Cell) → cell_faults scope ports (record m { cells = cells; processes = ps }) earlier cs ≡ cell_faults scope ports (record m { cells = cells'; processes = ps' }) earlier cs
  faults_alike earlier [] = refl
  faults_alike earlier (c ∷ cs) =
      λ i. type_alike earlier c (cell_type ports c.kind_name) i ++ faults_alike (earlier ++ c ∷ []) cs i

module _ (ports : Ports) (m : Module) (ready : IsReady with_processes ports m) (acts : HaveNoAlways m) (edges : HaveNoTwoEdges m) (bits : WritesHaveBits m) where
  abbrev scope : Scope
  scope = with_processes

  abbrev plain : List Cell
  plain = m.cells ++ flops m

  mine : HasNoFaults with_processes ports m
  mine = no_faults with_processes ports m ready.faultless

  bare_ready : IsReady with_processes ports (bare m)
  bare_ready =
      subst (IsReady with_processes ports) (bare_is m) (flops_ready ports m ready acts edges)

  none : HasNoFaults with_processes ports (bare m)
  none = no_faults with_processes ports (bare m) bare_ready.faultless

  sound : Each (λ (r : SyncRule). Each (IsSound (length m.wires) r.event) r.writes) (module_rules m)
  sound = all_sound ports m ready bits

  cells : cell_faults with_processes ports (whole m) [] (m.cells ++ (flops m ++ ports_made m)) ≡ []
  cells =
      ap (cell_faults scope ports (whole m) []) (sym (append_assoc m.cells (flops m) (ports_made m)))
      ∙ cells_split ports m (whole m) refl refl [] plain (ports_made m)
      ∙ (λ i. (faults_alike scope ports m (m.cells ++ (flops m ++ ports_made m)) (m.cells ++ flops m) (map without_rules m.processes) (map without_rules m.processes) [] plain ∙ none.cells) i
      ++ rules_none ports m (whole m) refl refl (length m.wires) [] [] plain (module_rules m) ((building_of m).next + length (all_parts m)) (none_numbered m) (rules_good m ports mine.processes) sound (stand_plain m (flops m) (cells_plain (length m.wires) (building_of m).next (all_parts m) (all_whole ports m ready acts edges).whole)) i)

  processes : process_faults with_processes ports (whole m) [] (map without_rules m.processes) ≡ []
  processes =
      none_bad ports (whole m) [] (map without_rules m.processes)
      (λ before q i.
      let f = In-mapped without_rules q m.processes i in
      let good = each_good ports m [] m.processes mine.processes f.0 f.1 in
      subst (IsGoodProcess ports (whole m) before) (sym f.2) (still_good ports m (whole m) good.0 before f.0 good.1))

  even : Each IsEven m.links
  even = links_even m.id 1 m.links mine.links

  same_bits : cells_bits ports (m.cells ++ (flops m ++ ports_made m)) ≡ cells_bits ports (m.cells ++ flops m)
  same_bits =
      ap (cells_bits ports) (sym (append_assoc m.cells (flops m) (ports_made m)))
      ∙ cells_more ports plain (ports_made m)
      ∙ ap (λ z. cells_bits ports plain ++ z) (no_bits ports (ports_made m) (ports_write m))
      ∙ append-nil (cells_bits ports plain)

  fewer : (b : WireBit) → drive_count (drives_of ports (whole m)) b ≤ drive_count (drives_of ports (bare m)) b
  fewer b =
      omega (arith, drives_count ports (bare m) even b, drives_count ports (whole m) even b, ap (count b) same_bits)

  cells_in : Each (CellIn (length m.wires)) (m.cells ++ (flops m ++ ports_made m))
  cells_in =
      subst (Each (CellIn (length m.wires))) (append_assoc m.cells (flops m) (ports_made m))
      (each_both (CellIn (length m.wires)) plain (ports_made m) bare_ready.within.cells (rules_in m (length m.wires) [] (module_rules m) ((building_of m).next + length (all_parts m)) sound))

  whole_ready : IsReady with_processes ports (whole m)
  whole_ready = record {
    faultless = all_none none.wires none.stores cells processes none.links (fewer_faults m.id (drives_of ports (bare m)) (drives_of ports (whole m)) fewer 0 m.wires none.bits);
    named = bare_ready.named;
    within = record { cells = cells_in; links = bare_ready.within.links; processes = bare_ready.within.processes };
    once = λ b. omega (arith, fewer b, bare_ready.once b);
  }

  pub sync_ready : IsReady with_processes ports (proc_sync_of m)
  sync_ready = subst (IsReady with_processes ports) (sym (sync_is m)) whole_ready

pub stays_ready : (table : PortTable) (m : Module) → HaveNoAlways m → HaveNoTwoEdges m → WritesHaveBits m → StaysReady table m (proc_sync_of m)
stays_ready table m acts edges bits ready =
    sync_ready (table_ports table.modules) m ready acts edges bits
