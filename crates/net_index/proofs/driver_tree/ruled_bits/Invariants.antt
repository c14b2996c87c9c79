-- The bits so far and those of the rules that are left are all.
use Rattle.std.proofs.Common.{◌≡◌, ◌++◌, drop}
use Rattle.net_index.specs.DriverTree.{rule_lefts}
use Rattle.net_index.proofs.driver_tree.ruled_bits.Given as goal

abbrev pub invariant-loop-rule : goal.invariant-loop-rule
invariant-loop-rule l = l.bits.items ++ rule_lefts (drop l.rule-index l.rules) ≡ rule_lefts l.rules
