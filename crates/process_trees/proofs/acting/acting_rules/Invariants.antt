-- The rules so far that act.
use Rattle.std.proofs.Common.{take}
use Rattle.rtl_ir.specs.Rules.{acting_rules}
use Rattle.process_trees.specs.Acting.{Acts}
use Rattle.process_trees.proofs.acting.acting_rules.Given as goal

abbrev pub invariant-loop-rule : goal.invariant-loop-rule
invariant-loop-rule l = Acts l.acting (acting_rules (take l.rule-index l.rules))
