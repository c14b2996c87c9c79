-- No pattern so far matches.
use Rattle.std.proofs.Common.{◌≡◌, drop}
use Rattle.std.specs.List.{list_any}
use Rattle.rtl_ir.specs.SwitchRules.{matches_number}
use Rattle.net_index.proofs.driver_rules.match_value.Given as goal

abbrev pub invariant-loop-pattern : goal.invariant-loop-pattern
invariant-loop-pattern l = list_any (matches_number l.width l.number) (drop l.pattern-index l.patterns) ≡ list_any (matches_number l.width l.number) l.patterns
