-- It is a step of `proc`.
use Rattle.std.proofs.Common.{◌≡◌, ℕ, ◌+◌, List, length, sym, ◌∙◌, ap, subst}
use Rattle.rtl_ir.specs.Build.{building_of}
use Rattle.rtl_ir.specs.Flat.Access.{accesses_of}
use Rattle.rtl_ir.specs.Flat.Memory.{memories_rows}
use Rattle.rtl_ir.specs.Flat.Place.{Path}
use Rattle.rtl_ir.specs.declared.wire.Wire.{Wire}
use Rattle.sync_laws.proofs.Words.{words_same}
use Rattle.rtl_ir.specs.Flat.Cell.{Ports as FlatPorts, instances}
use Rattle.rtl_ir.specs.Ports.{ports_of}
use Rattle.rtl_ir.specs.Scope.{with_processes}
use Rattle.rtl_ir.specs.Types.{Ports, table_ports}
use Rattle.rtl_ir.specs.declared.module.Module.{Module}
use Rattle.rtl_ir.specs.declared.ports.PortTable.{PortTable}
use Rattle.net_model.specs.Proc.Sync.{proc_sync_of}
use Rattle.net_model.specs.Refine.{IsWellDriven}
use Rattle.proc_laws.specs.Ready.{HaveNoStarts, IsReady, AreRuled, HaveNoLines}
use Rattle.proc_laws.specs.Step.{IsStep}
use Rattle.proc_laws.specs.Kinds.{HaveNoAlways, HaveNoTwoEdges, HaveNoWrites}
use Rattle.sync_laws.proofs.GoodRules.{all_whole, none_write, without_rules}
use Rattle.sync_laws.proofs.Parts.{all_parts}
use Rattle.sync_laws.proofs.AllPorts.{all_write}
use Rattle.sync_laws.proofs.FlopsRefined.{cells_plain}
use Rattle.sync_laws.proofs.Written.{flops, numbers_small, refines, sync_is, whole_driven, whole_instances}
use Rattle.rtl_ir.specs.SwitchRules.{root_by_rules}
use Rattle.rtl_ir.specs.declared.process.Process.{Process}
use Rattle.net_model.proofs.Members.{In-mapped}
use Rattle.net_model.specs.Lists.{In}
use Rattle.sync_laws.specs.Lines.{WritesHaveBits}

pub accesses_stay : (ports : Ports) (m : Module) → IsReady with_processes ports m → HaveNoAlways m → HaveNoTwoEdges m → (name : List ℕ) → accesses_of name m.cells m.processes ≡ accesses_of name (proc_sync_of m).cells (proc_sync_of m).processes
accesses_stay ports m ready acts edges name =
    sym
    (ap (λ (n : Module). accesses_of name n.cells n.processes) (sync_is m)
    ∙ all_write m (numbers_small ports m ready) (flops m) (cells_plain (length m.wires) (building_of m).next (all_parts m) (all_whole ports m ready acts edges).whole) ((building_of m).next + length (all_parts m)) name)

pub words_stay : (ports : Ports) (m : Module) → IsReady with_processes ports m → HaveNoAlways m → HaveNoTwoEdges m → (p : Path) (wires : List Wire) → memories_rows p wires m.cells m.processes m.memories ≡ memories_rows p wires (proc_sync_of m).cells (proc_sync_of m).processes m.memories
words_stay ports m ready acts edges p wires =
    sym
    (ap (λ (n : Module). memories_rows p wires n.cells n.processes m.memories) (sync_is m)
    ∙ words_same m (flops m) (cells_plain (length m.wires) (building_of m).next (all_parts m) (all_whole ports m ready acts edges).whole) ((building_of m).next + length (all_parts m)) (numbers_small ports m ready) p wires m.memories)

pub same_id : (m : Module) → m.id ≡ (proc_sync_of m).id
same_id m = sym (ap (λ (n : Module). n.id) (sync_is m))

pub same_ports : (m : Module) → ports_of m.wires ≡ ports_of (proc_sync_of m).wires
same_ports m = sym (ap (λ (n : Module). ports_of n.wires) (sync_is m))

pub kept_instances : (ports : Ports) (m : Module) → IsReady with_processes ports m → HaveNoAlways m → HaveNoTwoEdges m → instances m.cells ≡ instances (proc_sync_of m).cells
kept_instances ports m given acts edges =
    whole_instances ports m given acts edges
    ∙ sym (ap (λ (n : Module). instances n.cells) (sync_is m))

pub kept_driven : (ports : Ports) (over : FlatPorts) (m : Module) → IsReady with_processes ports m → HaveNoAlways m → HaveNoTwoEdges m → IsWellDriven over m → IsWellDriven over (proc_sync_of m)
kept_driven ports over m given acts edges h =
    subst (IsWellDriven over) (sym (sync_is m)) (whole_driven ports m given acts edges over h)

pub same_instances : (table : PortTable) (m : Module) → IsReady with_processes (table_ports table.modules) m → HaveNoAlways m → HaveNoTwoEdges m → instances m.cells ≡ instances (proc_sync_of m).cells
same_instances table = kept_instances (table_ports table.modules)

pub same_driven : (table : PortTable) (over : FlatPorts) (m : Module) → IsReady with_processes (table_ports table.modules) m → HaveNoAlways m → HaveNoTwoEdges m → IsWellDriven over m → IsWellDriven over (proc_sync_of m)
same_driven table = kept_driven (table_ports table.modules)

-- no rule is left
pub none_left : (m : Module) → HaveNoLines (proc_sync_of m)
none_left m q i r j =
    let f = In-mapped without_rules q m.processes i in
    absurd (subst (λ (z : Process). In r z.syncs) f.2 j)

pub are_ruled : (m : Module) → AreRuled m → AreRuled (proc_sync_of m)
are_ruled m h q i =
    let f = In-mapped without_rules q m.processes i in
    subst (λ (z : Process). root_by_rules z.root ≡ z.root) (sym f.2) (h f.0 f.1)

-- rules that write no memory have no line that writes
pub quiet_bits : (m : Module) → HaveNoWrites m → WritesHaveBits m
quiet_bits m quiet p i r j l k = absurd (subst (In l) (none_write m quiet p i r j) k)

pub is_step : (table : PortTable) (m : Module) → IsReady with_processes (table_ports table.modules) m → HaveNoAlways m → HaveNoTwoEdges m → HaveNoStarts m → IsStep table m (proc_sync_of m)
is_step table m given acts edges starts = record {
  id = same_id m;
  ports = same_ports m;
  instances = same_instances table m given acts edges;
  driven = λ over h. same_driven table over m given acts edges h;
  refines = refines table m given acts edges starts;
}
