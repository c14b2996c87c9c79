-- No place so far is refused.
use Rattle.std.proofs.Common.{◌≡◌, drop, zip}
use Rattle.std.specs.List.{list_any}
use Rattle.rtl_ir.specs.SwitchRules.{is_refused}
use Rattle.net_index.proofs.driver_patterns.never_matches.Given as goal

abbrev pub invariant-loop-at : goal.invariant-loop-at
invariant-loop-at l = list_any is_refused (zip (drop l.at l.pattern) (drop l.at l.signal)) ≡ list_any is_refused (zip l.pattern l.signal)
