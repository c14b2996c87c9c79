-- No rule that is done acts.
use Rattle.std.proofs.Common.{◌≡◌, drop}
use Rattle.rtl_ir.specs.Rules.{acting_rules}
use Rattle.proc_latch.proofs.process.only_acting.Given as goal

abbrev pub invariant-loop-at : goal.invariant-loop-at
invariant-loop-at l = acting_rules (drop l.at l.rules) ≡ acting_rules l.rules
