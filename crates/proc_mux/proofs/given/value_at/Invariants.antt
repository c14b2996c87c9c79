-- The cases that are left give the same.
use Rattle.std.proofs.Common.{◌≡◌, drop}
use Rattle.proc_mux.specs.Trees.{value_at}
use Rattle.proc_mux.proofs.given.value_at.Given as goal

abbrev pub invariant-loop-one : goal.invariant-loop-one
invariant-loop-one l = value_at (drop l.one-index l.given) l.node ≡ value_at l.given l.node
