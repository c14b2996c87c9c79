use Rattle.std.proofs.Common.{◌∙◌, ap}
use Rattle.rtl_ir.specs.Drivers.{FromRules, all_by}
use Rattle.rtl_ir.specs.Rules.{updated_bits}
use Rattle.net_index.specs.DriverTree.{rule_lefts}
use Rattle.net_index.proofs.DriverMarks.{next_rules, rules_added}
use Rattle.net_index.proofs.IndexDrives.{adds_next}
use Rattle.net_index.proofs.driver_fill.add_rules.Goals as goal

pub loop-place-preserved : goal.loop-place-preserved
loop-place-preserved c =
    let p = c.index-processes-place.result in
    adds_next c.loop-place.drivers c.add_bits.new.drivers c.args.drivers.now (all_by (FromRules c.loop-place.place) (updated_bits p.syncs)) _ _ _ (next_rules c.args.processes.now c.loop-place.place p c.loop-place-test.true c.index-processes-place.is)
    (rules_added c.loop-place.drivers c.add_bits.new.drivers c.loop-place.place p c.as_slice-in-loop-place.result.now (c.as_slice-in-loop-place.ensures.value ∙ c.in_ok-bits.ensures.value ∙ ap rule_lefts c.as_slice.ensures.value) c.in_ok-add_bits.ensures.ok) c.loop-place.invariant
