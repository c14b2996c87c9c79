-- The lines so far have no fault, and are noted.
use Rattle.std.proofs.Common.{◌≡◌, ◌++◌, ◌∷◌, [], List, true, take, drop, flat_map}
use Rattle.rtl_ir.specs.declared.module.Module.{Module}
use Rattle.rtl_ir.specs.declared.process.WriteLine.{WriteLine}
use Rattle.rtl_ir.specs.Faults.Processes.{has_bad_line}
use Rattle.rtl_ir.specs.WritePorts.{EventLine}
use Rattle.memory_check.specs.Memories.{KnowsLines}
use Rattle.memory_check.specs.Ports.{line_of}
use Rattle.memory_check.proofs.memories.Memories.has_bad_in.Given as goal

abbrev pub invariant-loop-line : goal.invariant-loop-line
invariant-loop-line l =
    (m : Module) (before : List EventLine)
    → KnowsLines l.initial.self m before
    → KnowsLines l.self m (before ++ flat_map (λ (k : WriteLine). line_of l.rule.event k ∷ []) (take l.line-index l.rule.writes))
    × (has_bad_line true m (before ++ flat_map (λ (k : WriteLine). line_of l.rule.event k ∷ []) (take l.line-index l.rule.writes)) (flat_map (λ (k : WriteLine). line_of l.rule.event k ∷ []) (drop l.line-index l.rule.writes))
    ≡ has_bad_line true m before (flat_map (λ (k : WriteLine). line_of l.rule.event k ∷ []) l.rule.writes))
