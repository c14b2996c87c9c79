-- The addresses so far are read.
use Rattle.std.proofs.Common.{take}
use Rattle.sim_eval.specs.Reads.{AddsReads, addresses_points}
use Rattle.sim_eval.proofs.readers.Readers.add_addresses.Given as goal

abbrev pub invariant-loop-port : goal.invariant-loop-port
invariant-loop-port l = AddsReads l.fn.self l.self l.place (addresses_points (take l.port-index l.ports))
