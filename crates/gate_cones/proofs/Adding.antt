-- Fresh wires and the gates that drive them are a pass of their own; so the gates of a cone may come first, and then its root.
use Rattle.std.proofs.Common.{◌≡◌, ◌≤◌, List, [], ◌∷◌, ◌++◌, length, inl, inr, ⊎_elim, refl, sym, ◌∙◌, ap, subst, append_assoc}
use Rattle.std.specs.Prelude.{count_by, flat_map}
use Rattle.std.proofs.lemmas.List.{append-nil}
use Rattle.cell_types.specs.PinName.{pin_text}
use Rattle.cell_types.specs.declared.kind.CellKind.TheVariants.{Gate}
use Rattle.cell_types.specs.declared.pin_name.PinName.TheVariants.{Y}
use Rattle.rtl_sig.specs.declared.sig.SigBit.{SigBit}
use Rattle.rtl_sig.specs.declared.sig.WireBit.{WireBit}
use Rattle.rtl_ir.specs.Build.{building_of}
use Rattle.rtl_ir.specs.Faults.Cells.{cell_faults, faults_by_type}
use Rattle.rtl_ir.specs.Faults.Processes.{process_faults}
use Rattle.rtl_ir.specs.Flat.Access.{rule_accesses}
use Rattle.rtl_ir.specs.Flat.Cell.{instance_of, instances, listed}
use Rattle.rtl_ir.specs.Flat.Process.{processes_rows}
use Rattle.rtl_ir.specs.Flat.Start.{process_starts, start_of}
use Rattle.rtl_ir.specs.Flat.Tree as flat
use Rattle.rtl_ir.specs.Parameters.{signal_at}
use Rattle.rtl_ir.specs.Scope.{with_processes, without_processes}
use Rattle.rtl_ir.specs.Signals.{same_bit}
use Rattle.rtl_ir.specs.Types as types
use Rattle.rtl_ir.specs.Types.{CellType, Instance, Library, Unknown, Unsupported, cell_type}
use Rattle.rtl_ir.specs.declared.cell.Cell.{Cell}
use Rattle.rtl_ir.specs.declared.module.Module.{Module}
use Rattle.rtl_ir.specs.declared.ports.PortTable.{PortTable}
use Rattle.rtl_ir.specs.declared.process.Process.{Process}
use Rattle.rtl_ir.specs.declared.wire.Wire.{Wire}
use Rattle.net_model.proofs.Grown.{ports_more}
use Rattle.net_model.proofs.Members.{In-cases, In-left, In-right}
use Rattle.net_model.specs.Lists.{In}
use Rattle.net_model.specs.Refine.{RefinesOver}
use Rattle.net_model.specs.Within.{CellIn, Each, with_wires}
use Rattle.map_laws.specs.Expansion.{bits_from}
use Rattle.pass_laws.specs.Bits.{cells_bits}
use Rattle.pass_laws.specs.Pass.{IsPass}
use Rattle.pass_laws.specs.Ready.{IsReady, IsReadyWithin}
use Rattle.pass_laws.specs.Replaces.{IsFaultless}
use Rattle.pass_laws.proofs.Faultless.{HasNoFaults, no_faults, plain}
use Rattle.pass_laws.proofs.Passes.{IsPass_trans}
use Rattle.build_laws.specs.Rebuilds.{AreAmong, Rebuilds, checked_bits, driven_bits, rebuilt}
use Rattle.build_laws.proofs.Built.{built_refines}
use Rattle.build_laws.proofs.Growing.{Grows, with_more}
use Rattle.proc_laws.proofs.RebuildDriven.{instances_stay, still_driven}
use Rattle.proc_laws.proofs.RebuildFaults.{last_ready}
use Rattle.proc_laws.proofs.Turns.{step_passes}
use Rattle.proc_laws.specs.Step.{IsStep}
use Rattle.gate_cones.specs.declared.cone.Cone.{Cone}
use Rattle.gate_cones.specs.declared.cone.Cone.TheVariants.{At, Fixed, One', Two', Three'}
use Rattle.gate_cones.specs.Adds.{AddsGates, IsGateCell, with_gates}
use Rattle.gate_cones.specs.Below.{IsBelow}
use Rattle.gate_cones.specs.Netlist.{Give, IsRoot, Leaves}
use Rattle.gate_cones.proofs.Exchanging.{by_gate}

-- gates are no instances
no_instances : (cells : List Cell) → Each IsGateCell cells → instances cells ≡ []
no_instances [] h = refl
no_instances (c ∷ cells) h =
    (λ i. listed (instance_of c ((h c (inl refl)).1 i)) ++ no_instances cells (λ x j. h x (inr j)) i)

-- cells have the same faults where processes are taken
by_type : (m : Module) (earlier : List Cell) (c : Cell) (t : CellType) → faults_by_type with_processes m earlier c t ≡ faults_by_type without_processes m earlier c t
by_type m earlier c (Library kind) = refl
by_type m earlier c (Instance ports) = refl
by_type m earlier c Unsupported = refl
by_type m earlier c Unknown = refl

by_cell : (ports : types.Ports) (m : Module) (earlier cells : List Cell) → cell_faults with_processes ports m earlier cells ≡ cell_faults without_processes ports m earlier cells
by_cell ports m earlier [] = refl
by_cell ports m earlier (c ∷ cells) =
    (λ i. by_type m earlier c (cell_type ports c.kind_name) i ++ by_cell ports m (earlier ++ c ∷ []) cells i)

-- a module without processes has the same faults where they are taken
taken : (ports : types.Ports) (m : Module) → IsReady ports m → IsReadyWithin with_processes ports m
taken ports m ready =
    let none : HasNoFaults without_processes ports m = no_faults without_processes ports m ready.faultless in
    let empty : m.processes ≡ [] = (plain ports m ready.faultless).processes in
    record {
      faultless = λ i. ((((none.wires i ++ none.stores i) ++ (by_cell ports m [] m.cells ∙ none.cells) i) ++ ap (process_faults with_processes ports m []) empty i) ++ none.links i) ++ none.bits i;
      named = ready.named;
      within = ready.within;
      once = ready.once;
    }

module _ (table : PortTable) (m : Module) (fresh : List Wire) (new : List Cell) (ready : IsReady (types.table_ports table.modules) m) (r : AddsGates (types.table_ports table.modules) m fresh new) where
  empty : m.processes ≡ []
  empty = (plain (types.table_ports table.modules) m ready.faultless).processes

  -- the bits of the gates are among those of the fresh wires
  among : (bits : Process → List WireBit) → AreAmong (cells_bits (types.table_ports table.modules) new ++ []) (bits_from (length m.wires) fresh ++ flat_map bits m.processes)
  among bits b =
      let own : List WireBit = cells_bits (types.table_ports table.modules) new in
      let wires : List WireBit = bits_from (length m.wires) fresh in
      let left : own ++ [] ≡ own = append-nil own in
      let right : wires ++ flat_map bits m.processes ≡ wires = ap (λ ps. wires ++ flat_map bits ps) empty ∙ append-nil wires in
      subst (λ xs. count_by (λ x. same_bit x b) xs ≤ count_by (λ y. same_bit y b) (wires ++ flat_map bits m.processes)) (sym left)
      (subst (λ ys. count_by (λ x. same_bit x b) own ≤ count_by (λ y. same_bit y b) ys) (sym right) (r.driven b))

  rebuilds : Rebuilds (types.table_ports table.modules) m fresh new [] []
  rebuilds = record {
    inner = r.inner;
    named = r.named;
    plain = no_instances new r.gates;
    cells = r.cells;
    links = λ l i. absurd i;
    processes = refl;
    cells_within = r.within;
    links_within = λ l i. absurd i;
    processes_within = λ x i. absurd i;
    checked = among checked_bits;
    driven = among driven_bits;
  }

  grown : Grows (building_of m) (record { body = with_more new fresh [] m; next = 0 })
  grown = record {
    cells = new;
    wires = fresh;
    links = [];
    body = refl;
    plain = λ c i. record { kind = Gate (r.gates c i).0; is = (r.gates c i).1; plain = refl };
    inner = r.inner;
  }

  refines : RefinesOver m (rebuilt fresh new [] [] m) (flat.table_ports table)
  unfolding grown
  refines =
      built_refines m (record { body = with_more new fresh [] m; next = 0 }) [] grown
      (ap (flat_map process_starts) empty)
      (λ name number. ap (λ ps. rule_accesses name number (flat_map (λ (p : Process). p.syncs) ps)) empty)
      (λ ports p t w s met d i. absurd (subst (λ ps. In d (processes_rows (start_of (m.wires ++ fresh) []) p (m.wires ++ fresh) (with_wires fresh m) ps)) empty i))
      (flat.table_ports table) ready.within

  step : IsStep table m (rebuilt fresh new [] [] m)
  step = record {
    refines = refines;
    driven = still_driven (types.table_ports table.modules) m fresh new [] [] ready.within rebuilds;
    id = refl;
    ports = sym (ports_more m.wires fresh r.inner);
    instances = instances_stay (types.table_ports table.modules) m fresh new [] [] rebuilds;
  }

  rebuilt_passes : IsPass table m (rebuilt fresh new [] [] m)
  rebuilt_passes =
      step_passes table m (rebuilt fresh new [] [] m) step
      (last_ready (types.table_ports table.modules) m fresh new [] [] (taken (types.table_ports table.modules) m ready) rebuilds refl)

  pub gates_added : IsPass table m (with_gates fresh new m)
  gates_added =
      let same : rebuilt fresh new [] [] m ≡ with_gates fresh new m = λ i. record m { wires = m.wires ++ fresh; cells = m.cells ++ new; links = append-nil m.links i; processes = sym empty i } in
      subst (IsPass table m) same rebuilt_passes

-- what cells give, more cells give
give_more : (cs ds : List Cell) (leaves : Leaves) → ((x : Cell) → In x cs → In x ds) → (cone : Cone) (y : SigBit) → Give cs leaves cone y → Give ds leaves cone y
give_more cs ds leaves h (At leaf) y g = g
give_more cs ds leaves h (Fixed b) y g = g
give_more cs ds leaves h (One' kind u a) y g =
    (g.0, h g.0 g.1, g.2, g.3, g.4, give_more cs ds leaves h a g.3 g.5)
give_more cs ds leaves h (Two' kind u a v b) y g =
    (g.0, h g.0 g.1, g.2, g.3, g.4, g.5, give_more cs ds leaves h a g.3 g.6, give_more cs ds leaves h b g.4 g.7)
give_more cs ds leaves h (Three' kind u a v b r s) y g = (
  g.0,
  h g.0 g.1,
  g.2,
  g.3,
  g.4,
  g.5,
  g.6,
  give_more cs ds leaves h a g.3 g.7,
  give_more cs ds leaves h b g.4 g.8,
  give_more cs ds leaves h s g.5 g.9,
)

root_more : (cs ds : List Cell) (leaves : Leaves) → ((x : Cell) → In x cs → In x ds) → (cone : Cone) (c : Cell) → IsRoot cs leaves cone c → IsRoot ds leaves cone c
root_more cs ds leaves h (At leaf) c g = g
root_more cs ds leaves h (Fixed b) c g = g
root_more cs ds leaves h (One' kind u a) c g = (g.0, g.1, give_more cs ds leaves h a g.0 g.2)
root_more cs ds leaves h (Two' kind u a v b) c g =
    (g.0, g.1, g.2, give_more cs ds leaves h a g.0 g.3, give_more cs ds leaves h b g.1 g.4)
root_more cs ds leaves h (Three' kind u a v b r s) c g = (
  g.0,
  g.1,
  g.2,
  g.3,
  give_more cs ds leaves h a g.0 g.4,
  give_more cs ds leaves h b g.1 g.5,
  give_more cs ds leaves h s g.2 g.6,
)

-- cells stay among those with further ones behind them
among_more : (pre post new : List Cell) (x : Cell) → In x (pre ++ post) → In x (pre ++ (post ++ new))
among_more pre post new x i =
    ⊎_elim
    (λ l. In-left x pre (post ++ new) l)
    (λ r. In-right x pre (post ++ new) (In-left x post new r))
    (In-cases x pre post i)

-- the gates of the second cone come first, over fresh wires, and then its root comes in the place of the first one's
pub exchanged : (table : PortTable) (m : Module) (pre : List Cell) (c : Cell) (post : List Cell) (fresh : List Wire) (new : List Cell) (leaves : Leaves) (first second : Cone) (d : Cell) → IsReady (types.table_ports table.modules) m → m.cells ≡ pre ++ c ∷ post → AddsGates (types.table_ports table.modules) m fresh new → IsBelow first second → IsRoot (pre ++ post) leaves first c → IsRoot (pre ++ (post ++ new)) leaves second d → signal_at d.pins (pin_text Y) ≡ signal_at c.pins (pin_text Y) → IsFaultless (types.table_ports table.modules) d → CellIn (length (m.wires ++ fresh)) d → IsPass table m (record m { wires = m.wires ++ fresh; cells = pre ++ d ∷ (post ++ new) })
exchanged table m pre c post fresh new leaves first second d ready is adds below root root' same sound within =
    let added : IsPass table m (with_gates fresh new m) = gates_added table m fresh new ready adds in
    let cells : m.cells ++ new ≡ pre ++ c ∷ (post ++ new) = ap (λ z. z ++ new) is ∙ append_assoc pre (c ∷ post) new in
    let wider : IsRoot (pre ++ (post ++ new)) leaves first c = root_more (pre ++ post) (pre ++ (post ++ new)) leaves (among_more pre post new) first c root in
    IsPass_trans table m (with_gates fresh new m) (record m { wires = m.wires ++ fresh; cells = pre ++ d ∷ (post ++ new) }) added
    (by_gate table (with_gates fresh new m) pre c (post ++ new) (added.ready ready) cells leaves first second below wider d root' same sound within)
