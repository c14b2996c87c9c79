-- What is counted so far and what is left give all.
use Rattle.std.proofs.Common.{◌≡◌, drop, flat_map}
use Rattle.rtl_check.specs.Tallies.{bits_of_tree, with_bits}
use Rattle.rtl_check.proofs.bits.count_trees.Given as goal

abbrev pub invariant-loop-process : goal.invariant-loop-process
invariant-loop-process l = with_bits l.tally (flat_map bits_of_tree (drop l.process-index l.processes)) ≡ with_bits l.fn.tally (flat_map bits_of_tree l.processes)
