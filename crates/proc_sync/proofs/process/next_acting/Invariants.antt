-- The rules that act stand from here on.
use Rattle.std.proofs.Common.{◌≡◌, drop}
use Rattle.rtl_ir.specs.Rules.{acting_rules}
use Rattle.proc_sync.proofs.process.next_acting.Given as goal

abbrev pub invariant-loop-at : goal.invariant-loop-at
invariant-loop-at l = acting_rules (drop l.at l.rules) ≡ acting_rules l.rules
