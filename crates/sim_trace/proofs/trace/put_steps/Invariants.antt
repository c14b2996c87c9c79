use Rattle.std.proofs.Common.{take}
use Rattle.sim_trace.proofs.Tracing.{GoesOn}
use Rattle.sim_trace.proofs.trace.put_steps.Given as goal

-- the simulation is after the steps so far, and their trace is written
abbrev pub invariant-loop-inputs : goal.invariant-loop-inputs
invariant-loop-inputs l = GoesOn l.fn.text l.fn.sim l.module.wires (take l.inputs-index l.stimulus) l.sim l.text
