use Rattle.rtl_ir.specs.Types.{table_ports}
use Rattle.opt_expr.proofs.Steps.{none_changed, swept_all}
use Rattle.opt_expr.proofs.sweep.sweep.Goals as goal

pub returns : goal.returns
returns c =
    let left = c.in_ok-swept.swept in
    record {
      exact = swept_all (table_ports c.args.ports.now.modules) c.args.module c.into_vec.result.items left.slots.items left.links c.in_ok-cells.cells c.in_ok-swept.ensures.swept c.into_vec.ensures.value c.in_ok-cells.ensures.value;
      same = λ told.
          none_changed c.args.module c.into_vec.result.items left.slots.items left.links c.in_ok-cells.cells (c.in_ok-swept.ensures.same told).0 (c.in_ok-swept.ensures.same told).1 c.into_vec.ensures.value c.in_ok-cells.ensures.value;
    }
