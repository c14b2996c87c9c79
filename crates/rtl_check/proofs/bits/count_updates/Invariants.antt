-- What the rules of the processes so far update is counted.
use Rattle.std.proofs.Common.{take, flat_map}
use Rattle.rtl_check.specs.Tallies.{HasCounted, bits_of_rules}
use Rattle.rtl_check.proofs.bits.count_updates.Given as goal

abbrev pub invariant-loop-process : goal.invariant-loop-process
invariant-loop-process l = HasCounted l.fn.tally (flat_map bits_of_rules (take l.process-index l.processes)) l.tally
