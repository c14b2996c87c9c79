use Rattle.std.proofs.Common.{◌++◌, ◌∙◌}
use Rattle.rtl_ir.specs.Follow.{joins}
use Rattle.proc_latch.specs.Givens.{given_in, own_given}
use Rattle.proc_latch.proofs.Placing.{line_goes}
use Rattle.proc_latch.proofs.sources.Sources.put_lines.Goals as goal

pub loop-line-preserved : goal.loop-line-preserved
loop-line-preserved c = λ b.
    line_goes b c.args.node c.args.lines.now c.loop-line.line-index c.line-item.result c.loop-line-test.true c.line-item.is (given_in c.loop-line.self b) (given_in c.put_line.new.self b) _
    (c.in_ok-put_line.ensures.ok b ∙ (λ i. given_in c.loop-line.self b ++ own_given b c.args.node (joins (c.as_slice.ensures.value i) (c.as_slice-in-loop-line.ensures.value i))))
    (c.loop-line.invariant b)
