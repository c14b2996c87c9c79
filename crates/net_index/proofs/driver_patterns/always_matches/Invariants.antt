-- Each place so far matches.
use Rattle.std.proofs.Common.{◌≡◌, drop, zip}
use Rattle.std.specs.List.{list_all}
use Rattle.rtl_ir.specs.SwitchRules.{matches_place}
use Rattle.net_index.proofs.driver_patterns.always_matches.Given as goal

abbrev pub invariant-loop-at : goal.invariant-loop-at
invariant-loop-at l = list_all matches_place (zip (drop l.at l.pattern) (drop l.at l.signal)) ≡ list_all matches_place (zip l.pattern l.signal)
