use Rattle.std.proofs.Common.{◌++◌, ◌∙◌}
use Rattle.rtl_ir.specs.Rules.{acting_rules}
use Rattle.net_model.specs.Proc.Reset.{reset_process}
use Rattle.proc_reset.proofs.Leveled.{last_process, next_process}
use Rattle.proc_reset.proofs.process.reset_processes.Goals as goal

pub returns : goal.returns
returns c = record {
  value = λ ports is. last_process ports c.args.outer.now.«module».now c.args.processes.now c.loop-at.at c.loop-at-test.false c.loop-at.done.items _ (c.loop-at.invariant ports is);
}

pub loop-at-preserved : goal.loop-at-preserved
loop-at-preserved c = λ ports is.
    let m = c.args.outer.now.«module».now in
    let p = c.index-processes-at.result in
    next_process ports m c.args.processes.now c.loop-at.at p c.loop-at-test.true c.index-processes-at.is c.loop-at.done.items c.push.new.self.items c.in_ok-process.process
    c.in_ok-push.ensures.items
    (c.in_ok-process.ensures.value ports is ∙ (λ i. reset_process ports m (c.as_slice.ensures.value i ++ c.behind.ensures.value i) p (acting_rules p.syncs))) _ (c.loop-at.invariant ports is)
