-- The write ports that lines of processes become are such as a text can give, and so is a module after that step.
use Rattle.std.proofs.Common.{◌≡◌, ℕ, ◌≤◌, List, [], ◌∷◌, ◌++◌, length, if◌then◌else◌, inl, inr, refl, sym, ◌∙◌, ap, subst, arith}
use Rattle.std.specs.Prelude.{codes, false, map, max}
use Rattle.std.specs.List.{All}
use Rattle.std.proofs.lemmas.List.Elements.{All-append, All-cons, All-head, All-nil, All-tail}
use Rattle.std.proofs.lemmas.List.FromFn.{length-map-range_with_len}
use Rattle.rtl_bits.specs.declared.bit.Bit.TheVariants.{S0, S1}
use Rattle.rtl_ir.specs.Build.{Building, bits_param, building_of, integer_param, pin_of}
use Rattle.rtl_ir.specs.Constants.{value_bits}
use Rattle.rtl_ir.specs.Flat.Access.{line_follows, line_mask, write_trigger}
use Rattle.rtl_ir.specs.Rules.{acting_rules}
use Rattle.rtl_ir.specs.Scope.{with_processes}
use Rattle.rtl_ir.specs.Types as types
use Rattle.rtl_ir.specs.declared.cell.CellParam.{CellParam}
use Rattle.rtl_ir.specs.declared.module.Module.{Module}
use Rattle.rtl_ir.specs.declared.process.Event.{Event}
use Rattle.rtl_ir.specs.declared.process.Event.TheVariants.{Always, Edge, Global, High, Init, Low, Negedge, Posedge}
use Rattle.rtl_ir.specs.declared.process.Process.{Process}
use Rattle.rtl_ir.specs.declared.process.SyncRule.{SyncRule}
use Rattle.rtl_ir.specs.declared.process.WriteLine.{WriteLine}
use Rattle.rtl_ir.specs.declared.value.Value.TheVariants.{Chars}
use Rattle.rtl_ir.specs.declared.wire.Wire.{Wire}
use Rattle.net_model.proofs.Ranges.{each_flat_map}
use Rattle.net_model.specs.Proc.Sync.{Numbered, Writing, in_turn, lines_step, polarity_of, ports_in, proc_sync_of, rules_step, sync_step, write_cell, writes_step}
use Rattle.net_model.specs.Within.{Each}
use Rattle.pass_laws.proofs.Faultless.{no_faults}
use Rattle.pass_laws.specs.Ready.{IsReadyWithin}
use Rattle.sync_laws.proofs.GoodLines.{none_numbered, rules_good, rules_small}
use Rattle.sync_laws.proofs.Lines.{AreSmall, RulesSmall}
use Rattle.sync_laws.proofs.WriteParts.{module_rules, numbered_line, numbered_lines, write_part}
use Rattle.rtl_readable.specs.Changing.{times}
use Rattle.rtl_readable.specs.Readable.{IsBitOf, IsCellParam, IsEvent, IsPin, IsProcess, IsRule, IsSignal, IsWrite, item_names}
use Rattle.rtl_readable.proofs.Counting.{item_times, process_names, still_distinct}
use Rattle.readable_laws.specs.Extends.{Extends, HasReadableItems}
use Rattle.readable_laws.proofs.Cells.{apart_distinct, number_is, params_one, params_three, pins_three, polarity_is}
use Rattle.readable_laws.proofs.Extending.{extended, extends_both, extends_cell, extends_none, pins_later}
use Rattle.readable_passes.specs.Named.{IsNamed, NamesMemories}
use Rattle.readable_passes.proofs.Replaced.{all_each}
use Rattle.readable_passes.proofs.Sync.{processes_add}

-- the parameters of a write port
port_params : (event : Event) (line : WriteLine) (number : ℕ) (rule : List Numbered) → length line.address ≤ 4194304 → length line.value ≤ 4194304 → IsNamed line → number ≤ 65535 → All IsCellParam (write_part event line number rule).params
port_params event line number rule address word named few =
    let memory : CellParam = record { name = codes "\\MEMID"; value = Chars line.memory; signed = false } in
    let bits = line_mask number (ports_in line.memory rule) (value_bits line.mask) in
    let mask : CellParam = bits_param (codes "\\PRIORITY_MASK") bits in
    let long : length bits ≡ max number 1 = length-map-range_with_len (λ (port : ℕ). if line_follows port (ports_in line.memory rule) (value_bits line.mask) then S1 else S0) 0 (max number 1) in
    let a : CellParam = integer_param (codes "\\ABITS") (length line.address) in
    let w : CellParam = integer_param (codes "\\WIDTH") (length line.value) in
    let e : CellParam = integer_param (codes "\\CLK_ENABLE") 1 in
    let p : CellParam = integer_param (codes "\\CLK_POLARITY") (polarity_of (write_trigger event).level) in
    let n : CellParam = integer_param (codes "\\PORTID") number in
    All-append IsCellParam (memory ∷ a ∷ w ∷ []) (e ∷ p ∷ n ∷ mask ∷ [])
    (params_three memory a w (record { name = refl; value = named }) (number_is (codes "\\ABITS") (length line.address) refl (omega (arith, address))) (number_is (codes "\\WIDTH") (length line.value) refl (omega (arith, word))))
    (All-append IsCellParam (e ∷ p ∷ n ∷ []) (mask ∷ [])
    (params_three e p n (number_is (codes "\\CLK_ENABLE") 1 refl (omega arith)) (polarity_is (codes "\\CLK_POLARITY") (write_trigger event).level refl) (number_is (codes "\\PORTID") number refl (omega (arith, few))))
    (params_one mask (record { name = refl; value = omega (arith, long, few) })))

module _ (m : Module) (old : Building) where
  abbrev wires : List Wire
  wires = old.body.wires

  no_signal : IsSignal wires []
  no_signal = record { bits = All-nil (IsBitOf wires); width = omega arith }

  trigger_is : (e : Event) → IsEvent wires e → IsSignal wires (write_trigger e).signal
  trigger_is (Posedge signal) is = is.signal
  trigger_is (Negedge signal) is = is.signal
  trigger_is (Low signal) is = no_signal
  trigger_is (High signal) is = no_signal
  trigger_is (Edge signal) is = no_signal
  trigger_is Global is = no_signal
  trigger_is Init is = no_signal
  trigger_is Always is = no_signal

  port_pins : (event : Event) (line : WriteLine) (number : ℕ) (rule : List Numbered) → IsEvent wires event → IsWrite wires line → All (IsPin wires) (write_part event line number rule).pins
  port_pins event line number rule he is =
      let clock = pin_of (codes "\\CLK") (write_trigger event).signal in
      let enable = pin_of (codes "\\EN") line.enable in
      let address = pin_of (codes "\\ADDR") line.address in
      let word = pin_of (codes "\\DATA") line.value in
      All-cons (IsPin wires) clock (enable ∷ address ∷ word ∷ []) (record { name = refl; sig = trigger_is event he })
      (pins_three wires enable address word (record { name = refl; sig = is.enable.signal }) (record { name = refl; sig = is.address.signal }) (record { name = refl; sig = is.value.signal }))

  write_adds : (event : Event) (line : WriteLine) (number : ℕ) (rule : List Numbered) (b : Building) → IsEvent wires event → IsWrite wires line → IsNamed line → number ≤ 65535 → Extends old b → Extends b (write_cell event line number rule b)
  write_adds event line number rule b he is named few more =
      extends_cell (codes "$memwr_v2") (write_part event line number rule).params (write_part event line number rule).pins b
      (record {
        kind_name = refl;
        values = port_params event line number rule is.address.signal.width is.value.signal.width named few;
        distinct_params = apart_distinct (codes "\\MEMID" ∷ codes "\\ABITS" ∷ codes "\\WIDTH" ∷ codes "\\CLK_ENABLE" ∷ codes "\\CLK_POLARITY" ∷ codes "\\PORTID" ∷ codes "\\PRIORITY_MASK" ∷ []) refl;
        distinct_pins = apart_distinct (codes "\\CLK" ∷ codes "\\EN" ∷ codes "\\ADDR" ∷ codes "\\DATA" ∷ []) refl;
      })
      (pins_later old b more (write_part event line number rule).pins (port_pins event line number rule he is))

  lines_add : (event : Event) (rule : List Numbered) (lines : List WriteLine) (w : Writing) → IsEvent wires event → All (IsWrite wires) lines → Each IsNamed lines → AreSmall m w.numbered lines → Extends old w.building → Extends w.building (lines_step m event rule lines w).building
  lines_add event rule [] w he all names small more = extends_none w.building
  lines_add event rule (line ∷ lines) w he all names small more =
      let here : Numbered = numbered_line m w.numbered line in
      let next : Building = write_cell event line here.number rule w.building in
      let one = write_adds event line here.number rule w.building he (All-head (IsWrite wires) line lines all) (names line (inl refl)) small.0 more in
      extends_both w.building next (lines_step m event rule (line ∷ lines) w).building one
      (lines_add event (rule ++ here ∷ []) lines (record { building = next; numbered = w.numbered ++ here ∷ [] }) he (All-tail (IsWrite wires) line lines all) (λ x i. names x (inr i)) small.1 (extends_both old w.building next more one))

  numbered_is : (event : Event) (rule : List Numbered) (lines : List WriteLine) (w : Writing) → (lines_step m event rule lines w).numbered ≡ numbered_lines m w.numbered lines
  numbered_is event rule [] w = refl
  numbered_is event rule (line ∷ lines) w =
      let here : Numbered = numbered_line m w.numbered line in
      numbered_is event (rule ++ here ∷ []) lines (record { building = write_cell event line here.number rule w.building; numbered = w.numbered ++ here ∷ [] })

  writes_add : (rules : List SyncRule) (w : Writing) → Each (IsRule wires) rules → Each (λ (r : SyncRule). Each IsNamed r.writes) rules → RulesSmall m w.numbered rules → Extends old w.building → Extends w.building (writes_step m rules w).building
  writes_add [] w each names small more = extends_none w.building
  writes_add (r ∷ rules) w each names small more =
      let is = each r (inl refl) in
      let next : Writing = lines_step m r.event [] r.writes w in
      let one = lines_add r.event [] r.writes w is.event is.writes (names r (inl refl)) small.0 more in
      extends_both w.building next.building (writes_step m rules next).building one
      (writes_add rules next (λ x i. each x (inr i)) (λ x i. names x (inr i)) (subst (λ z. RulesSmall m z rules) (sym (numbered_is r.event [] r.writes w)) small.1) (extends_both old w.building next.building more one))

-- processes without rules
abbrev without : Process → Process
without p = record p { syncs = [] }

without_are : (wires : List Wire) (ps : List Process) → All (IsProcess wires) ps → All (IsProcess wires) (map without ps)
without_are wires [] all = All-nil (IsProcess wires)
without_are wires (p ∷ ps) all =
    let is = All-head (IsProcess wires) p ps all in
    All-cons (IsProcess wires) (without p) (map without ps)
    (record {
      name = is.name;
      patterns = is.patterns;
      plain = is.plain;
      assigns = is.assigns;
      switches = is.switches;
      rules = All-nil (IsRule wires);
      attributes = is.attributes;
    })
    (without_are wires ps (All-tail (IsProcess wires) p ps all))

names_stay : (ps : List Process) → process_names (map without ps) ≡ process_names ps
names_stay [] = refl
names_stay (p ∷ ps) = ap (λ z. p.name ∷ z) (names_stay ps)

unruled : (m : Module) (ps : List Process) → m.processes ≡ ps → HasReadableItems m → HasReadableItems (record m { processes = map without ps })
unruled m ps e is =
    let old : process_names m.processes ≡ process_names ps = ap process_names e in
    record {
      id = is.id;
      attributes = is.attributes;
      parameters = is.parameters;
      wires = is.wires;
      memories = is.memories;
      cells = is.cells;
      processes = without_are m.wires ps (subst (All (IsProcess m.wires)) e is.processes);
      links = is.links;
      distinct = still_distinct (item_names (record m { processes = map without ps })) (item_names m)
          (λ name.
          let same : times name (process_names (map without ps)) ≡ times name (process_names m.processes) = ap (times name) (names_stay ps ∙ sym old) in
          omega (arith, item_times name (record m { processes = map without ps }), item_times name m, same)) is.distinct;
    }

pub sync_reads : (ports : types.Ports) (m : Module) → IsReadyWithin with_processes ports m → NamesMemories m → HasReadableItems m → (sync_step m (building_of m)).next ≤ 1000000000 → HasReadableItems (proc_sync_of m)
sync_reads ports m ready names is few =
    let old : Building = building_of m in
    let half : Building = in_turn (λ (p : Process). rules_step (acting_rules p.syncs)) m.processes old in
    let last : Building = sync_step m old in
    let each = all_each (IsProcess m.wires) m.processes is.processes in
    let one = processes_add old m.processes old each (extends_none old) in
    let small = rules_small m (module_rules m) [] [] (none_numbered m) (rules_good m ports (no_faults with_processes ports m ready.faultless).processes) in
    let rules : Each (IsRule m.wires) (module_rules m) = each_flat_map (IsRule m.wires) (λ (p : Process). p.syncs) m.processes (λ p i. all_each (IsRule m.wires) p.syncs (each p i).rules) in
    let named : Each (λ (r : SyncRule). Each IsNamed r.writes) (module_rules m) = each_flat_map (λ (r : SyncRule). Each IsNamed r.writes) (λ (p : Process). p.syncs) m.processes names in
    let two = writes_add m old (module_rules m) (record { building = half; numbered = [] }) rules named small one in
    let e = extends_both old half last one two in
    unruled last.body m.processes (ap (λ (b : Module). b.processes) e.body) (extended m last is e few)
