-- The ports so far, and those of the cells from here on, are all.
use Rattle.std.proofs.Common.{◌≡◌, ◌++◌, drop}
use Rattle.net_model.specs.Mem.Gather.{read_ports}
use Rattle.mem_gather.proofs.reads.read_ports.Given as goal

abbrev pub invariant-loop-at : goal.invariant-loop-at
invariant-loop-at l = l.ports ++ read_ports l.name l.at (drop l.at l.cells) ≡ read_ports l.name 0 l.cells
