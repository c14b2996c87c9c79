use Rattle.std.proofs.Common.{◌∙◌, ap}
use Rattle.rtl_ir.specs.Faults.Recursion.{instance_place}
use Rattle.rtl_check.proofs.PlaceLemmas.{places_next}
use Rattle.rtl_check.proofs.recursion.instance_places.Goals as goal

pub loop-cell-preserved : goal.loop-cell-preserved
loop-cell-preserved c = λ modules are.
    places_next modules c.loop-cell.found.items c.put_place.new.found.items c.instance_place-place.result c.cell-item.result c.args.cells.now c.loop-cell.cell-index c.loop-cell-test.true c.cell-item.is
    (c.instance_place-place.ensures.value modules are ∙ ap (instance_place modules) c.as_slice.ensures.value) c.in_ok-put_place.ensures.found (c.loop-cell.invariant modules are)
