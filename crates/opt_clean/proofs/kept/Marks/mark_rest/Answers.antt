use Rattle.std.proofs.Common.{◌≡◌, ◌+◌, subst, sym, length, arith}
use Rattle.opt_clean.specs.Marking.{IsMarking, marking_of}
use Rattle.opt_clean.proofs.MarkEnds.{next_step}
use Rattle.opt_clean.proofs.kept.Marks.mark_rest.Goals as goal

pub loop-next-preserved : goal.loop-next-preserved
loop-next-preserved c = λ ports m kept initial are is reads start.
    subst (λ s. IsMarking ports m c.args.cells.now kept initial s (c.loop-next.next + 1)) (sym (c.in_ok-mark_next.ensures.value ports m are is)) (next_step ports m c.args.cells.now kept initial (marking_of c.loop-next.self) c.loop-next.next reads (c.loop-next.invariant ports m kept initial are is reads start))

pub returns : goal.returns
returns c = record {
  value = λ ports m kept initial are is reads start.
      let end : c.loop-next.next ≡ length c.args.cells.now = omega arith in
      subst (IsMarking ports m c.args.cells.now kept initial (marking_of c.loop-next.self)) end (c.loop-next.invariant ports m kept initial are is reads start);
}
