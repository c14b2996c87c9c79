use Rattle.std.proofs.Common.{◌<◌, ◌∙◌, ap, flat_map, get_or, length, refl, subst, sym, take}
use Rattle.std.proofs.lemmas.Result.{err_from_is_err_and}
use Rattle.rtl_check.proofs.ProcessLemmas.{lines_next, process_at, process_next}
use Rattle.memory_check.specs.Memories.{KnowsLines}
use Rattle.memory_check.proofs.Standing.{lines_come}
use Rattle.rtl_ir.specs.WritePorts.{write_lines}
use Rattle.rtl_check.proofs.processes.check_processes.Goals as goal

pub returns-in_err-check_process : goal.returns-in_err-check_process
returns-in_err-check_process c = record {
  first = λ ports types fit known.
      let p = err_from_is_err_and c.from_residual.result c.from_residual.ensures.1 in
      let i = c.loop-process.process-index in
      let are = c.as_slice-process-items.ensures.value in
      let lt = subst (λ ps. i < length ps) are c.loop-process-test.true in
      let is = c.process-item.is ∙ ap (λ ps. get_or ps i c.process-item.result) are in
      rw (p.1, p.2)
      (process_at ports c.args.body.now c.args.body.now.processes i c.process-item.result lt is _ (c.loop-process.invariant.faults ports types fit known) c.in_err-check_process.field-0.0
      (c.in_err-check_process.ensures.first ports types (c.loop-process.invariant.asked ports types) fit (take i c.args.body.now.processes) (c.loop-process.invariant.noted known)));
}

pub loop-process-preserved : goal.loop-process-preserved
loop-process-preserved c =
    let i = c.loop-process.process-index in
    let are = c.as_slice-process-items.ensures.value in
    let lt = subst (λ ps. i < length ps) are c.loop-process-test.true in
    let is = c.process-item.is ∙ ap (λ ps. get_or ps i c.process-item.result) are in
    record {
      asked = λ ports types. c.in_ok-check_process.ensures.asked ports types (c.loop-process.invariant.asked ports types);
      noted = λ known.
          subst (KnowsLines c.check_process.new.memories c.args.body.now) (sym (lines_next c.args.body.now.processes i c.process-item.result lt is))
          (c.in_ok-check_process.ensures.noted (flat_map write_lines (take i c.args.body.now.processes)) (c.loop-process.invariant.noted known));
      faults = λ ports types fit known.
          process_next ports c.args.body.now c.args.body.now.processes i c.process-item.result lt is _ (c.loop-process.invariant.faults ports types fit known)
          (c.in_ok-check_process.ensures.first ports types (c.loop-process.invariant.asked ports types) fit (take i c.args.body.now.processes) (c.loop-process.invariant.noted known));
    }

pub loop-process-init : goal.loop-process-init
loop-process-init c = record {
  asked = λ ports types. tt;
  noted = λ known. lines_come c.args.body.now c.args.memories.now known;
  faults = λ ports types fit known. refl;
}
