-- The processes so far, and those that are left, become what all become.
use Rattle.std.proofs.Common.{◌≡◌, [], drop}
use Rattle.rtl_ir.specs.Types.{Ports}
use Rattle.net_model.specs.Proc.Reset.{resets_step}
use Rattle.proc_reset.specs.Outer.{IsOuter}
use Rattle.proc_reset.proofs.process.reset_processes.Given as goal

abbrev pub invariant-loop-at : goal.invariant-loop-at
invariant-loop-at l =
    (ports : Ports) → IsOuter l.outer ports → resets_step ports l.outer.«module».now l.done.items (drop l.at l.processes) ≡ resets_step ports l.outer.«module».now [] l.processes
