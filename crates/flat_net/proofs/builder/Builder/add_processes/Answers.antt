use Rattle.std.proofs.Common.{refl, subst}
use Rattle.rtl_ir.specs.Flat.Process.{process_rows, processes_rows}
use Rattle.flat_net.specs.Adds.{Adds}
use Rattle.flat_net.proofs.Adding.{Leads-item, Leads-last}
use Rattle.flat_net.proofs.Kept.{within-Keeps}
use Rattle.flat_net.proofs.Reading.{Extends-then}
use Rattle.flat_net.proofs.builder.Builder.add_processes.Goals as goal

pub add_process-requires : goal.add_process-requires
add_process-requires c = record { in_range = within-Keeps _ _ _ c.loop-process.invariant.grows.paths c.requires.in_range }

pub loop-process-preserved : goal.loop-process-preserved
loop-process-preserved c = record {
  grows = Extends-then _ _ _ c.loop-process.invariant.grows c.in_ok-add_process.ensures.grows;
  rows = λ p path start is.
      let m = c.args.body.now in
      let wires = c.args.scope.now.wires.now in
      Leads-item (processes_rows start p wires m) (process_rows start p wires m) (λ q qs. refl) refl c.as_slice-processes.result.now c.args.self.now _ c.loop-process.self c.add_process.new.self c.loop-process.process-index
      c.process-item.result c.loop-process-test.true c.process-item.is (c.loop-process.invariant.rows p path start is)
      (c.in_ok-add_process.ensures.rows p (c.loop-process.invariant.grows.paths _ _ path) start is c.in_ok-table.ensures.value);
}

pub returns-clause-rows : goal.returns-clause-rows
returns-clause-rows c = λ p path start is.
    let m = c.args.body.now in
    let wires = c.args.scope.now.wires.now in
    let whole =
    Leads-last (processes_rows start p wires m) (process_rows start p wires m) (λ q qs. refl) refl c.as_slice-processes.result.now c.args.self.now _ _ c.loop-process.process-index c.loop-process-test.false
    (c.loop-process.invariant.rows p path start is) in
    subst (λ ps. Adds c.args.self.now c.loop-process.self (processes_rows start p wires m ps)) c.as_slice-processes.ensures.value whole
