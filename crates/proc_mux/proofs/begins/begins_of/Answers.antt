use Rattle.std.proofs.Common.{◌||◌, ◌∙◌, arith}
use Rattle.std.specs.HashSet.{contains}
use Rattle.rtl_ir.specs.declared.module.Link.{Link}
use Rattle.rtl_ir.specs.Signals.{same_bit}
use Rattle.proc_mux.specs.Begins.{parts}
use Rattle.proc_mux.proofs.Beginning.{any_end, any_goes}
use Rattle.proc_mux.proofs.begins.begins_of.Goals as goal

pub loop-line-preserved : goal.loop-line-preserved
loop-line-preserved c = λ a b next.
    any_goes (λ (l : Link). parts a b l.left l.right) c.args.lines.now c.loop-line.line-index c.line-item.result c.loop-line-test.true c.line-item.is (contains same_bit c.loop-line.begins b) (contains same_bit c.put_line.new.begins b) _
    (c.in_ok-put_line.ensures.begins a b next ∙ (λ i. contains same_bit c.loop-line.begins b || parts a b (c.as_slice.ensures.value i) (c.as_slice-in-loop-line.ensures.value i)))
    (c.loop-line.invariant a b next)

pub returns : goal.returns
returns c = record {
  begins = λ a b next. any_end (λ (l : Link). parts a b l.left l.right) c.args.lines.now c.loop-line.line-index (omega arith) (contains same_bit c.loop-line.begins b) _ (c.loop-line.invariant a b next);
}
