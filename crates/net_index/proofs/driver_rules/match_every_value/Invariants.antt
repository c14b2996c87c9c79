-- Each value so far matches a pattern.
use Rattle.std.proofs.Common.{◌≡◌, ◌-◌, ◌^◌}
use Rattle.std.specs.List.{list_all, list_any, range_with_len}
use Rattle.rtl_ir.specs.SwitchRules.{matches_number}
use Rattle.net_index.proofs.driver_rules.match_every_value.Given as goal

abbrev pub invariant-loop-number : goal.invariant-loop-number
invariant-loop-number l = list_all (λ number. list_any (matches_number l.width number) l.patterns) (range_with_len l.number (2 ^ l.width - l.number)) ≡ list_all (λ number. list_any (matches_number l.width number) l.patterns) (range_with_len 0 (2 ^ l.width))
