-- A module with multiplexers in the place of its processes refines the module.
use Rattle.std.proofs.Common.{◌≡◌, List, [], ◌++◌, sym, ◌∙◌, subst}
use Rattle.std.proofs.lemmas.List.{append-nil}
use Rattle.rtl_bits.specs.declared.bit.Bit.{Bit}
use Rattle.rtl_ir.specs.Assigns.{tree_bits}
use Rattle.rtl_ir.specs.Build.{Building, building_of}
use Rattle.rtl_ir.specs.Decisions.{case_decision}
use Rattle.rtl_ir.specs.Flat.Driver.{Decided, Driven}
use Rattle.rtl_ir.specs.Flat.Pick.{no_test, pick_of}
use Rattle.rtl_ir.specs.Flat.Place.{Path}
use Rattle.rtl_ir.specs.Flat.Point.{bit_place}
use Rattle.rtl_ir.specs.Flat.Process.{process_rows, processes_rows, rules_rows, tree_bit_rows}
use Rattle.rtl_ir.specs.Flat.Tree as flat
use Rattle.rtl_ir.specs.Rules.{acting_rules}
use Rattle.rtl_ir.specs.SwitchRules.{root_by_rules}
use Rattle.rtl_ir.specs.Types as types
use Rattle.rtl_ir.specs.declared.module.Module.{Module}
use Rattle.rtl_ir.specs.declared.ports.PortTable.{PortTable}
use Rattle.rtl_ir.specs.declared.process.Process.{Process}
use Rattle.rtl_ir.specs.declared.wire.Wire.{Wire}
use Rattle.rtl_sig.specs.declared.sig.SigBit.{SigBit}
use Rattle.rtl_sig.specs.declared.sig.WireBit.{WireBit}
use Rattle.rtl_ir.specs.Scope.{with_processes}
use Rattle.net_model.proofs.Members.{In-mapped}
use Rattle.net_model.specs.Lists.{In}
use Rattle.net_model.specs.Proc.Mux.{proc_mux_of, processes_step}
use Rattle.net_model.specs.Refine.{IsMet, RefinesIn}
use Rattle.net_model.specs.Within.{with_wires}
use Rattle.proc_laws.specs.Ready.{AreRuled, HaveNoLines, IsReady}
use Rattle.build_laws.proofs.Growing.{Grows}
use Rattle.build_laws.proofs.Built.{built_refines, moment, process_among}
use Rattle.build_laws.proofs.Staying.{none_acting, none_begun, none_written}
use Rattle.mux_laws.proofs.TreeSteps.{picks_met, processes_grow}
use Rattle.build_laws.proofs.Meeting.{BodyMet}
use Rattle.build_laws.proofs.Moments.{Moment}

-- the row of a tree bit of a process
abbrev bit_row : Path → List Wire → Process → WireBit → Driven
bit_row p wires q b = record { place = bit_place p wires b; driver = Decided (pick_of no_test p wires (case_decision q.root b)) }

-- a row of a process whose switches are read by the rules and whose rules have no lines is that of a tree bit
record IsTreeRow (p : Path) (wires : List Wire) (q : Process) (d : Driven) : Type 0 where
  bit : WireBit
  there : In bit (tree_bits q.root)
  is : d ≡ bit_row p wires q bit

tree_row : (start : SigBit → Bit) (p : Path) (wires : List Wire) (m : Module) (q : Process) → root_by_rules q.root ≡ q.root → acting_rules q.syncs ≡ [] → (d : Driven) → In d (process_rows start p wires m q) → IsTreeRow p wires q d
tree_row start p wires m q ruled none d i =
    let bits : List WireBit = tree_bits q.root in
    let plain : process_rows start p wires m q ≡ tree_bit_rows start p wires q.root bits =
    (λ j. tree_bit_rows start p wires (ruled j) bits ++ rules_rows start p wires m (ruled j) bits (none j)) ∙ append-nil (tree_bit_rows start p wires q.root bits) in
    let k = In-mapped (bit_row p wires q) d bits (subst (In d) plain i) in
    record { bit = k.0; there = k.1; is = k.2 }

-- each row of the processes is that of a tree bit, which is connected to what stands for it
rows_met : (m : Module) (ruled : AreRuled m) (empty : HaveNoLines m) (mo : Moment) (n : Module) → BodyMet mo (processes_step (building_of m) m.processes) → (d : Driven) → In d (processes_rows mo.start mo.path mo.wires n m.processes) → IsMet d mo.time mo.has
rows_met m ruled empty mo n met d i =
    let k = process_among mo.start mo.path mo.wires n m.processes d i in
    let row = tree_row mo.start mo.path mo.wires n k.0 (ruled k.0 k.1) (none_acting k.0.syncs (empty k.0 k.1)) d k.2 in
    subst (λ z. IsMet z mo.time mo.has) {x = bit_row mo.path mo.wires k.0 row.bit} (sym row.is) (picks_met mo (building_of m) m.processes met k.0 k.1 row.bit row.there)

pub refines : (table : PortTable) (m : Module) → IsReady with_processes (types.table_ports table.modules) m → AreRuled m → HaveNoLines m → RefinesIn m (proc_mux_of m) table
refines table m ready ruled empty =
    let b : Building = processes_step (building_of m) m.processes in
    let grown : Grows (building_of m) b = processes_grow (building_of m) m.processes in
    built_refines m b [] grown (none_begun m.processes empty) (none_written m.processes empty) (λ ports p t w s met d i. rows_met m ruled empty (moment m b [] grown (none_begun m.processes empty) (none_written m.processes empty) ports p t w) (with_wires grown.wires m) met d i) (flat.table_ports table) ready.within
