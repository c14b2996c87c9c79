-- The signals so far and those of the rules that are left are all.
use Rattle.std.proofs.Common.{◌≡◌, ◌++◌, drop}
use Rattle.rtl_ir.specs.Rules.{acting_rules}
use Rattle.proc_reset.specs.Reads.{event_signals}
use Rattle.proc_reset.proofs.process_signals.put_events.Given as goal

abbrev pub invariant-loop-rule : goal.invariant-loop-rule
invariant-loop-rule l = l.signals.items ++ event_signals (acting_rules (drop l.rule-index l.rules)) ≡ l.fn.signals.items ++ event_signals (acting_rules l.rules)
