use Rattle.net_model.specs.Proc.Start.{ruled_process}
use Rattle.proc_tree.proofs.Giving.{given_next, mapped_next}
use Rattle.proc_tree.proofs.processes.ruled_processes.Goals as goal

pub loop-process-preserved : goal.loop-process-preserved
loop-process-preserved c = record {
  value =
      mapped_next ruled_process c.args.processes.now c.loop-process.process-index c.process-item.result c.loop-process-test.true c.process-item.is
      c.loop-process.ruled.items c.push.new.self.items c.in_ok-ruled_process.field-0 c.in_ok-push.ensures.items c.in_ok-ruled_process.ensures.value c.loop-process.invariant.value;
  starts =
      given_next c.args.processes.now c.loop-process.process-index c.process-item.result c.loop-process-test.true c.process-item.is
      c.args.starts.now c.loop-process.starts c.ruled_process.new.starts c.loop-process.invariant.starts c.in_ok-ruled_process.ensures.starts;
}
