use Rattle.std.proofs.Common.{◌∙◌, arith}
use Rattle.rtl_ir.specs.Follow.{joins}
use Rattle.proc_mux.specs.Rows.{joins_row, row_at}
use Rattle.proc_mux.proofs.RowWalks.{line_goes, lines_end}
use Rattle.proc_mux.proofs.rows.put_assigns.Goals as goal

pub loop-line-preserved : goal.loop-line-preserved
loop-line-preserved c = λ b.
    line_goes c.args.node b c.args.assigns.now c.loop-line.line-index c.line-item.result c.loop-line-test.true c.line-item.is (row_at c.loop-line.rows b) (row_at c.put_line.new.rows b) _
    (c.in_ok-put_line.ensures.rows b ∙ (λ i. joins_row c.args.node b (joins (c.as_slice.ensures.value i) (c.as_slice-in-loop-line.ensures.value i)) (row_at c.loop-line.rows b)))
    (c.loop-line.invariant b)

pub returns : goal.returns
returns c = record {
  rows = λ b. lines_end c.args.node b c.args.assigns.now c.loop-line.line-index (row_at c.loop-line.rows b) _ (omega arith) (c.loop-line.invariant b);
}
