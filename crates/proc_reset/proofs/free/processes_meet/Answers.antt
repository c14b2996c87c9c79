use Rattle.std.proofs.Common.{sym, ◌∙◌, ap}
use Rattle.std.specs.List.{list_any}
use Rattle.proc_reset.specs.Reads.{is_among, process_signals}
use Rattle.proc_reset.proofs.Gathering.{flat_here, flat_passed}
use Rattle.proc_reset.proofs.free.processes_meet.Goals as goal

pub returns-then-meets : goal.returns-then-meets
returns-then-meets c = record {
  value = λ all are.
      flat_here (is_among all) process_signals c.args.processes.now c.loop-process.process-index c.process-item.result c.loop-process-test.true c.process-item.is
      (sym c.if-meets.true ∙ c.meets.ensures.value all are ∙ ap (list_any (is_among all)) (c.as_slice.ensures.value ∙ c.in_ok-signals.ensures.value)) _ (c.loop-process.invariant all are);
}

pub loop-process-preserved : goal.loop-process-preserved
loop-process-preserved c = λ all are.
    flat_passed (is_among all) process_signals c.args.processes.now c.loop-process.process-index c.process-item.result c.loop-process-test.true c.process-item.is
    (sym c.if-meets.false ∙ c.meets.ensures.value all are ∙ ap (list_any (is_among all)) (c.as_slice.ensures.value ∙ c.in_ok-signals.ensures.value)) _ (c.loop-process.invariant all are)
