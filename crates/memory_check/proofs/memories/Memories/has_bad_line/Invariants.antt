-- The lines of the rules so far have no fault, and are noted.
use Rattle.std.proofs.Common.{◌≡◌, ◌++◌, List, true, take, drop, flat_map}
use Rattle.rtl_ir.specs.declared.module.Module.{Module}
use Rattle.rtl_ir.specs.Faults.Processes.{has_bad_line}
use Rattle.rtl_ir.specs.WritePorts.{EventLine}
use Rattle.memory_check.specs.Memories.{KnowsLines, rule_lines}
use Rattle.memory_check.proofs.memories.Memories.has_bad_line.Given as goal

abbrev pub invariant-loop-rule : goal.invariant-loop-rule
invariant-loop-rule l =
    (m : Module) (before : List EventLine)
    → KnowsLines l.initial.self m before
    → KnowsLines l.self m (before ++ flat_map rule_lines (take l.rule-index l.process.syncs))
    × (has_bad_line true m (before ++ flat_map rule_lines (take l.rule-index l.process.syncs)) (flat_map rule_lines (drop l.rule-index l.process.syncs)) ≡ has_bad_line true m before (flat_map rule_lines l.process.syncs))
