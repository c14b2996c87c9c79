use Rattle.std.proofs.Common.{rules}
use Rattle.script_core.proofs.Settling.{no_memory}
use Rattle.script_core.proofs.fold.without_memories.Goals as goal

pub apply-requires : goal.apply-requires
apply-requires c = record { ready = c.requires.ready.ready; named = c.requires.ready.named }

pub returns-then-is_empty-clause-exact : goal.returns-then-is_empty-clause-exact
returns-then-is_empty-clause-exact c = no_memory c.args.module (search (rules, c.is_empty.ensures, c.if-is_empty.true, c.as_slice.ensures.value))
