use Rattle.std.proofs.Common.{◌∙◌}
use Rattle.rtl_ir.specs.Assigns.{tree_bits}
use Rattle.rtl_ir.specs.Drivers.{FromTree, all_by}
use Rattle.net_index.proofs.DriverMarks.{next_tree, tree_added}
use Rattle.net_index.proofs.IndexDrives.{adds_next}
use Rattle.net_index.proofs.driver_fill.add_trees.Goals as goal

pub loop-place-preserved : goal.loop-place-preserved
loop-place-preserved c =
    let p = c.index-processes-place.result in
    adds_next c.loop-place.drivers c.add_bits.new.drivers c.args.drivers.now (all_by (FromTree c.loop-place.place) (tree_bits p.root)) _ _ _ (next_tree c.args.processes.now c.loop-place.place p c.loop-place-test.true c.index-processes-place.is)
    (tree_added c.loop-place.drivers c.add_bits.new.drivers c.loop-place.place p c.as_slice.result.now (c.as_slice.ensures.value ∙ c.in_ok-bits.ensures.value) c.in_ok-add_bits.ensures.ok) c.loop-place.invariant
