-- The parts so far, and what the runs that are left make, are all.
use Rattle.std.proofs.Common.{◌≡◌, drop}
use Rattle.net_index.specs.Builder.{IsInLimits}
use Rattle.net_model.specs.Mem.Expand.{port_runs}
use Rattle.mem_map.proofs.Going.{behind}
use Rattle.mem_map.proofs.chain.port_runs.Given as goal

abbrev pub invariant-loop-count : goal.invariant-loop-count
invariant-loop-count l = record {
  all : behind l.value (port_runs l.matched (drop l.count-index l.runs) l.acc l.written l.enable l.builder) ≡ port_runs l.matched l.runs l.acc-2 l.written-2 l.enable-2 l.initial.builder;
  within : IsInLimits l.initial.builder → IsInLimits l.builder;
}
