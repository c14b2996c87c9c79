-- The wires so far and those that are left are all.
use Rattle.std.proofs.Common.{◌≡◌, ◌++◌, drop}
use Rattle.rtl_ir.specs.declared.module.Module.{Module}
use Rattle.net_model.specs.Proc.Start.{begun_wires}
use Rattle.proc_tree.specs.Starts.{AreStartsOf}
use Rattle.proc_tree.proofs.wires.begun_wires.Given as goal

abbrev pub invariant-loop-place : goal.invariant-loop-place
invariant-loop-place l = (m : Module) → AreStartsOf l.starts m → m.wires ≡ l.wires → l.begun.items ++ begun_wires m l.place (drop l.place l.wires) ≡ begun_wires m 0 l.wires
