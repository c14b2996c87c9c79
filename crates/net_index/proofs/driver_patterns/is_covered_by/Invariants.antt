-- Each place so far asks as much.
use Rattle.std.proofs.Common.{◌≡◌, drop, zip}
use Rattle.std.specs.List.{list_all}
use Rattle.rtl_ir.specs.SwitchRules.{asks_as_much}
use Rattle.net_index.proofs.driver_patterns.is_covered_by.Given as goal

abbrev pub invariant-loop-at : goal.invariant-loop-at
invariant-loop-at l = list_all asks_as_much (zip (drop l.at l.earlier) (drop l.at l.pattern)) ≡ list_all asks_as_much (zip l.earlier l.pattern)
