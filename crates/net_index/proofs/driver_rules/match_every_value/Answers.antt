use Rattle.std.proofs.Common.{◌^◌, ◌∙◌, sym, subst, length, ◌<◌}
use Rattle.std.specs.List.{list_any}
use Rattle.rtl_ir.specs.SwitchRules.{matches_number}
use Rattle.net_index.proofs.DriverReading.{value_next}
use Rattle.net_index.proofs.driver_rules.match_every_value.Goals as goal

pub loop-number-preserved : goal.loop-number-preserved
loop-number-preserved c =
    let width = length c.args.signal.now in
    value_next (λ number. list_any (matches_number width number) c.args.patterns.now) c.loop-number.number (2 ^ width) (subst (λ top. c.loop-number.number < top) c.values_of-number-end.ensures.value c.loop-number-test.true)
    (sym c.in_ok-match_value.ensures.value ∙ c.if-not-branch.false) _ c.loop-number.invariant
