-- The words that are left make what all make.
use Rattle.std.proofs.Common.{◌≡◌, ◌+◌, drop}
use Rattle.net_index.specs.Builder.{IsInLimits}
use Rattle.net_model.specs.Mem.Expand.{words_step}
use Rattle.mem_map.specs.Words.{numbered}
use Rattle.mem_map.proofs.chain.words_step.Given as goal

abbrev pub invariant-loop-signal : goal.invariant-loop-signal
invariant-loop-signal l = record {
  all : words_step l.plan (numbered l.address (drop l.signal-index l.words.signals)) l.builder ≡ words_step l.plan (numbered l.words.first l.words.signals) l.initial.builder;
  place : l.address ≡ l.words.first + l.signal-index;
  within : IsInLimits l.initial.builder → IsInLimits l.builder;
}
