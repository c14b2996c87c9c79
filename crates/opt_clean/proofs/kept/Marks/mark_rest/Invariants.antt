-- The cells before the place have marked what they read.
use Rattle.std.proofs.Common.{Bool, List, ℕ}
use Rattle.rtl_ir.specs.Types.{Ports}
use Rattle.rtl_ir.specs.declared.module.Module.{Module}
use Rattle.net_index.specs.Drivers.{AreDrivers}
use Rattle.net_index.specs.Types.{AreTypes}
use Rattle.opt_clean.specs.Marking.{IsMarking, KeepsReads, marking_of}
use Rattle.opt_clean.proofs.kept.Marks.mark_rest.Given as goal

abbrev pub invariant-loop-next : goal.invariant-loop-next
invariant-loop-next l =
    (ports : Ports) (m : Module) (kept : List Bool) (initial : List ℕ) → AreTypes l.types ports → AreDrivers l.index ports m
    → KeepsReads ports m l.cells kept → IsMarking ports m l.cells kept initial (marking_of l.fn.self) 0
    → IsMarking ports m l.cells kept initial (marking_of l.self) l.next
