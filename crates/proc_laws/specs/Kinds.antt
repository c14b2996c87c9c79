-- Which rules processes have left where flip-flops and latches are made of them.
use Rattle.std.specs.Prelude.{◌≡◌, ◌≤◌, Bool, false, count_by}
use Rattle.std.specs.Option.{is_some}
use Rattle.rtl_ir.specs.declared.module.Module.{Module}
use Rattle.rtl_ir.specs.declared.process.Process.{Process}
use Rattle.rtl_ir.specs.declared.process.SyncRule.{SyncRule}
use Rattle.rtl_ir.specs.Faults.RuleKinds.{writes}
use Rattle.rtl_ir.specs.Flat.Process.{edge_trigger}
use Rattle.rtl_ir.specs.Rules.{acting_rules}
use Rattle.net_model.specs.Proc.Latch.{is_always}
use Rattle.net_model.specs.Within.{Each}

-- a rule is at one edge of a signal
abbrev pub is_edge_rule : SyncRule → Bool
is_edge_rule r = is_some (edge_trigger r.event)

-- no rule that acts does so always
abbrev pub HaveNoAlways : Module → Type 0
HaveNoAlways m = Each (λ (p : Process). Each (λ (r : SyncRule). is_always r.event ≡ false) (acting_rules p.syncs)) m.processes

-- no process has two rules at edges that act
abbrev pub HaveNoTwoEdges : Module → Type 0
HaveNoTwoEdges m = Each (λ (p : Process). count_by is_edge_rule (acting_rules p.syncs) ≤ 1) m.processes

-- no rule of a process writes a memory
abbrev pub HaveNoWrites : Module → Type 0
HaveNoWrites m = Each (λ (p : Process). Each (λ (r : SyncRule). writes r ≡ false) p.syncs) m.processes
