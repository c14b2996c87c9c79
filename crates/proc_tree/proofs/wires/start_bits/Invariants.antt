-- The bits so far are the start values of the bits so far.
use Rattle.std.proofs.Common.{◌≡◌, Some}
use Rattle.std.specs.Prelude.{slice_get}
use Rattle.rtl_ir.specs.declared.module.Module.{Module}
use Rattle.net_model.specs.Proc.Start.{wire_starts}
use Rattle.proc_tree.specs.Starts.{AreStartsOf}
use Rattle.proc_tree.proofs.wires.start_bits.Given as goal

abbrev pub invariant-loop-at : goal.invariant-loop-at
invariant-loop-at l = (m : Module) → AreStartsOf l.starts m → slice_get m.wires l.place ≡ Some l.wire → l.bits.items ≡ wire_starts m l.place l.at
