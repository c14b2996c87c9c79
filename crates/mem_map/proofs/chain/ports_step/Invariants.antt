-- The ports that are left make what all make.
use Rattle.std.proofs.Common.{◌≡◌, drop}
use Rattle.net_index.specs.Builder.{IsInLimits}
use Rattle.net_model.specs.Mem.Expand.{ports_step}
use Rattle.mem_map.proofs.chain.ports_step.Given as goal

abbrev pub invariant-loop-port : goal.invariant-loop-port
invariant-loop-port l = record {
  all : ports_step l.address (drop l.port-index l.ports) l.acc l.builder ≡ ports_step l.address l.ports l.fn.signal l.initial.builder;
  within : IsInLimits l.initial.builder → IsInLimits l.builder;
}
