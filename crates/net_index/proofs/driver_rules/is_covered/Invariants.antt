-- No pattern so far covers it.
use Rattle.std.proofs.Common.{◌≡◌, drop}
use Rattle.std.specs.List.{list_any}
use Rattle.rtl_ir.specs.SwitchRules.{is_covered_by}
use Rattle.net_index.proofs.driver_rules.is_covered.Given as goal

abbrev pub invariant-loop-other : goal.invariant-loop-other
invariant-loop-other l = list_any (is_covered_by l.pattern) (drop l.other-index l.earlier) ≡ list_any (is_covered_by l.pattern) l.earlier
