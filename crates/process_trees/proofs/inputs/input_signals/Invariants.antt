-- The signals so far and those of the pins that are left are all.
use Rattle.std.proofs.Common.{◌≡◌, ◌++◌, drop, map}
use Rattle.process_trees.proofs.Signals.{signals_of}
use Rattle.process_trees.proofs.inputs.input_signals.Given as goal

abbrev pub invariant-loop-name : goal.invariant-loop-name
invariant-loop-name l = map (λ s. s.now) l.signals.items ++ signals_of l.cell (drop l.name-index l.name-items) ≡ signals_of l.cell l.name-items
