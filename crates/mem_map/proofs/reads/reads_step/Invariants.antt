-- The ports that are left make what all make.
use Rattle.std.proofs.Common.{◌≡◌, drop}
use Rattle.net_index.specs.Builder.{IsInLimits}
use Rattle.net_model.specs.Mem.Expand.{reads_step}
use Rattle.mem_map.specs.Words.{words_of}
use Rattle.mem_map.proofs.reads.reads_step.Given as goal

abbrev pub invariant-loop-port : goal.invariant-loop-port
invariant-loop-port l = record {
  all : reads_step (words_of l.words) (drop l.port-index l.ports) l.builder ≡ reads_step (words_of l.words) l.ports l.initial.builder;
  within : IsInLimits l.initial.builder → IsInLimits l.builder;
}
