use Rattle.std.proofs.Common.{rules, ◌∙◌}
use Rattle.rtl_ir.specs.Assigns.{tree_bits}
use Rattle.rtl_ir.specs.Follow.{joins}
use Rattle.match_cells.specs.Trees.{seen}
use Rattle.proc_latch.specs.Steps.{always_steps}
use Rattle.proc_latch.proofs.Stepping.{line_goes, line_over}
use Rattle.proc_latch.proofs.chains.Chains.always_lines.Goals as goal

pub returns-in_err-always_line-clause-over : goal.returns-in_err-always_line-clause-over
returns-in_err-always_line-clause-over c e =
    line_over c.args.root.now (tree_bits c.args.root.now) c.args.lines.now c.loop-line.line-index c.line-item.result c.loop-line-test.true c.line-item.is (seen c.loop-line.self.trees) _ c.loop-line.invariant.all
    (search (rules, c.always_line.ensures.over, e, c.from_residual.ensures, c.as_slice.ensures.value, c.as_slice-in-loop-line.ensures.value))

pub loop-line-preserved : goal.loop-line-preserved
loop-line-preserved c = record {
  all =
      line_goes c.args.root.now (tree_bits c.args.root.now) c.args.lines.now c.loop-line.line-index c.line-item.result c.loop-line-test.true c.line-item.is (seen c.loop-line.self.trees) (seen c.always_line.new.self.trees) _
      (c.in_ok-always_line.ensures.exact ∙ (λ i. always_steps c.args.root.now (tree_bits c.args.root.now) (joins (c.as_slice.ensures.value i) (c.as_slice-in-loop-line.ensures.value i)) (seen c.loop-line.self.trees))) c.loop-line.invariant.all;
  within = λ few. c.in_ok-always_line.ensures.within (c.loop-line.invariant.within few);
}
