use Rattle.std.proofs.Common.{length}
use Rattle.rtl_ir.specs.declared.wire.Role.TheVariants.{Input}
use Rattle.sim_text.specs.Ports.{port_widths}
use Rattle.sim_trace.specs.Stimulus.{stimulus_of}
use Rattle.sim_trace.proofs.Lining.{ReadsOn}
use Rattle.sim_trace.proofs.stimulus.stimulus_of.Given as goal

-- the vectors so far, and those of the lines that are left, are all
abbrev pub invariant-loop-end : goal.invariant-loop-end
invariant-loop-end l = ReadsOn (port_widths Input l.module) l.steps l.rest (stimulus_of l.module l.text)

abbrev pub decreases-loop-end : goal.decreases-loop-end
decreases-loop-end l = length l.rest
