use Rattle.std.proofs.Common.{◌<◌, ◌∙◌, arith, length}
use Rattle.desk_core.proofs.Placing.{marked_next, marked_none}
use Rattle.desk_core.proofs.needed.marks_of.Goals as goal

pub loop-place-init : goal.loop-place-init
loop-place-init c = c.in_ok-marks.ensures.items_if_clones_equal (λ y e. e) ∙ marked_none c.args.count

pub loop-place-preserved : goal.loop-place-preserved
loop-place-preserved c =
    let at = c.loop-place.place-index in
    let within : at < length c.args.places.now = omega (arith, c.loop-place-test.true) in
    marked_next c.args.places.now at c.args.count c.loop-place.marks.items within (c.requires.within at 0 within) c.loop-place.invariant
