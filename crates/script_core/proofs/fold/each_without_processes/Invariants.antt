-- What was made so far, before what is made of the modules that are left, is what is made of all.
use Rattle.std.proofs.Common.{◌≡◌, drop}
use Rattle.script_core.specs.Fold.{each_proc}
use Rattle.script_core.proofs.EachProc.{with_rest}
use Rattle.script_core.proofs.fold.each_without_processes.Given as goal

abbrev pub invariant-loop-at : goal.invariant-loop-at
invariant-loop-at l = with_rest l.modules l.all (drop l.at l.modules) ≡ each_proc l.modules l.modules
