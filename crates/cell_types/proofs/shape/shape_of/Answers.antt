use Rattle.std.proofs.Common.{rules}
use Rattle.cell_types.proofs.Within.{shape_bounds}
use Rattle.cell_types.proofs.shape.shape_of.Goals as goal

pub returns-clause-bounds : goal.returns-clause-bounds
returns-clause-bounds c =
    shape_bounds c.args.kind c.args.params.now c.args.pins.now _ (search rules) c.in_ok-made_shape.ensures.value
