-- As much is left to do of the module so far as of all of it.
use Rattle.std.proofs.Common.{◌≡◌, ◌≤◌, [], length, ◌-◌}
use Rattle.rtl_ir.specs.Types.{table_ports}
use Rattle.net_model.specs.Fsm.Code.{fsm_of, wires_recoded}
use Rattle.fsm_steps.specs.Within.{are_within}
use Rattle.fsm_steps.proofs.each_machine.Given as goal

abbrev pub invariant-loop-after : goal.invariant-loop-after
invariant-loop-after l = record {
  inside : l.from ≤ l.end;
  free : l.after.processes ≡ [];
  left : wires_recoded (table_ports l.ports.modules) l.from (l.end - l.from) l.after ≡ fsm_of (table_ports l.ports.modules) l.initial.after;
  same : l.from ≡ 0 → l.after ≡ l.initial.after;
  within : are_within (table_ports l.ports.modules) l.from (l.end - l.from) l.after ≡ are_within (table_ports l.ports.modules) 0 (length l.initial.after.wires) l.initial.after;
}

abbrev pub decreases-loop-after : goal.decreases-loop-after
decreases-loop-after l = l.end - l.from
