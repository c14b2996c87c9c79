use Rattle.std.proofs.Common.{subst}
use Rattle.std.specs.Prelude.{flat_map}
use Rattle.std.proofs.lemmas.List.{take_all}
use Rattle.rtl_ir.specs.Flat.Start.{process_starts}
use Rattle.flat_net.specs.Starts.{AreStarts}
use Rattle.flat_net.proofs.Beginning.{gains_process, starts_are}
use Rattle.flat_net.proofs.starts.Starts.of.Goals as goal

pub loop-process-preserved : goal.loop-process-preserved
loop-process-preserved c =
    gains_process c.args.wires.now c.args.processes.now c.loop-process.process-index c.process-item.result c.loop-process-test.true c.process-item.is c.loop-process.starts c.put_process.new.self
    c.in_ok-put_process.ensures.gains c.loop-process.invariant

pub returns : goal.returns
returns c = record {
  value =
      starts_are c.loop-process.starts c.args.wires.now c.args.processes.now
      (subst (λ ps. AreStarts c.loop-process.starts c.args.wires.now (flat_map process_starts ps)) (take_all _ c.args.processes.now c.loop-process-test.false) c.loop-process.invariant);
}
