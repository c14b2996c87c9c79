-- The faults of processes.
use Rattle.std.specs.Prelude.{◌+◌, nat_lt, ◌==◌, Bool, true, false, not, ◌&&◌, ◌||◌, List, [], ◌∷◌, ◌++◌, length, flat_map}
use Rattle.std.specs.List.{list_all}
use Rattle.std.specs.Option.{option_map_or}
use Rattle.rtl_sig.specs.declared.sig.WireBit.{WireBit}
use Rattle.rtl_ir.specs.declared.module.Module.{Module}
use Rattle.rtl_ir.specs.declared.process.Process.{Process}
use Rattle.rtl_ir.specs.declared.store.Store.{Store}
use Rattle.rtl_ir.specs.Assigns.{tree_bits}
use Rattle.rtl_ir.specs.Decisions.{expanded, leaves_of}
use Rattle.rtl_ir.specs.Fault.{Fault, Width, UnsupportedCell, TooWide, BadPort, BadProcess, BadMemory, spot, fault_if}
use Rattle.rtl_ir.specs.Faults.MemoryCells.{store_named}
use Rattle.rtl_ir.specs.Faults.ProcessLimits.{is_too_wide, has_uneven, gives_to_constant}
use Rattle.rtl_ir.specs.Faults.RuleKinds.{rules_stand}
use Rattle.rtl_ir.specs.Scope.{Scope}
use Rattle.rtl_ir.specs.Faults.SelfReading.{reads_itself}
use Rattle.rtl_ir.specs.Faults.TwoEdges.{are_one_constant, two_edges_stand}
use Rattle.rtl_ir.specs.Follow.{all_joins}
use Rattle.rtl_ir.specs.declared.follow.Join.{Join}
use Rattle.rtl_ir.specs.Rules.{acting_rules, init_lines}
use Rattle.rtl_ir.specs.SwitchRules.{root_by_rules}
use Rattle.rtl_ir.specs.Tree.{CaseView}
use Rattle.rtl_ir.specs.Types.{Ports}
use Rattle.rtl_ir.specs.WritePorts.{EventLine, write_lines, lines_of, cell_ports, next_port, clockings_of, clashes, event_clocking}

-- each start value is one constant, whatever the decisions
abbrev pub starts_stand : CaseView → List WireBit → Process → Bool
starts_stand root bits p =
    list_all (λ (j : Join). are_one_constant (leaves_of (expanded root bits j.source))) (all_joins (init_lines p.syncs))

-- a process is none that is taken: its rules do not stand together, a tree bit depends on itself, a start value is no
-- constant, or neither of two edges is a reset
abbrev pub is_bad_process : Ports → Module → Process → Bool
is_bad_process ports m p =
    let root = root_by_rules p.root in
    let bits = tree_bits p.root in
    not (rules_stand p.syncs)
    || reads_itself root bits
    || not (starts_stand root bits p)
    || not (two_edges_stand ports m root bits (acting_rules p.syncs))

-- a line writes a memory with words of another width, an address of more than 32 bits, too great a number, or another
-- clock or edge than a port before it where clocks are compared; these are the lines before it
abbrev pub is_bad_write_in : Bool → Module → List EventLine → EventLine → Store → Bool
is_bad_write_in clocks m before l s =
    let ports = cell_ports m.links s.name m.cells in
    let lines = lines_of s.name before in
    not (length l.line.value == s.width)
    || nat_lt 32 (length l.line.address)
    || nat_lt 65535 (next_port ports + length lines)
    || (clocks && clashes (event_clocking m.links l.event) (clockings_of m.links ports lines))

-- a line writes no memory of the module, or is a fault of it
abbrev pub is_bad_line : Bool → Module → List EventLine → EventLine → Bool
is_bad_line clocks m before l = option_map_or (is_bad_write_in clocks m before l) (store_named m.memories l.line.memory) true

-- one of these lines is a fault, behind those before
abbrev pub has_bad_line : Bool → Module → List EventLine → List EventLine → Bool
has_bad_line clocks m before [] = false
has_bad_line clocks m before (l ∷ ls) = is_bad_line clocks m before l || has_bad_line clocks m (before ++ l ∷ []) ls

-- the faults of a process, behind these processes of the module
abbrev pub faults_of_process : Scope → Ports → Module → List Process → Process → List Fault
faults_of_process scope ports m earlier p =
    let here = spot m.id p.name in
    fault_if (not (scope.processes p)) (UnsupportedCell here)
    ++ fault_if (is_too_wide p) (TooWide here)
    ++ fault_if (has_uneven p) (Width here)
    ++ fault_if (gives_to_constant p) (BadPort here)
    ++ fault_if (is_bad_process ports m p) (BadProcess here)
    ++ fault_if (has_bad_line scope.clocks m (flat_map write_lines earlier) (write_lines p)) (BadMemory here)

-- the faults of processes, behind these processes of the module
abbrev pub process_faults : Scope → Ports → Module → List Process → List Process → List Fault
process_faults scope ports m earlier [] = []
process_faults scope ports m earlier (p ∷ ps) =
    faults_of_process scope ports m earlier p ++ process_faults scope ports m (earlier ++ p ∷ []) ps
