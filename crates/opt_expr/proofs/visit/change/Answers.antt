use Rattle.opt_expr.proofs.Steps.{change_computed, change_is}
use Rattle.opt_expr.proofs.visit.change.Goals as goal

pub first_fit-requires : goal.first_fit-requires
first_fit-requires c = record {
  computed = change_computed c.args.cell.now c.in-Some.kind c.in_ok-shape.shape c.in_ok-operands.operands c.in_ok-kind.field-0 c.as_slice.result.now c.in_ok-kind.ensures.value c.in-Some.is c.in_ok-shape.ensures.value c.in_ok-shape.ensures.fits c.as_slice.ensures.value c.in_ok-operands.ensures.a c.in_ok-operands.ensures.b c.in_ok-operands.ensures.s;
}

pub returns : goal.returns
returns c = record {
  value = λ cells are.
      change_is cells c.args.done.now c.args.rest.now.items c.args.cell.now c.in-Some.kind c.in_ok-shape.shape c.in_ok-operands.operands c.in_ok-kind.field-0 c.as_slice.result.now c.in_ok-change.change c.in_ok-kind.ensures.value c.in-Some.is c.in_ok-shape.ensures.value c.as_slice.ensures.value (c.in_ok-operands.ensures.value cells are) c.in_ok-change.ensures.exact;
}
