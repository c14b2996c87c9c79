use Rattle.std.proofs.Common.{◌<◌, ◌≤◌, length, take, arith}
use Rattle.sim_trace.proofs.Tracing.{goes_over, traced_all, traced_more}
use Rattle.sim_trace.proofs.trace.put_steps.Goals as goal

pub put_step-requires : goal.put_step-requires
put_step-requires c = record {
  sim = goes_over c.args.text.now c.args.sim.now c.loop-inputs.sim c.args.module.now.wires (take c.loop-inputs.inputs-index c.args.stimulus.now) c.loop-inputs.text c.requires.fresh
      c.loop-inputs.invariant;
}

pub loop-inputs-preserved : goal.loop-inputs-preserved
loop-inputs-preserved c = λ order d m same is.
    let all = c.args.stimulus.now in
    let at = c.loop-inputs.inputs-index in
    let before = c.loop-inputs.invariant order d m same is in
    let within : at < length all = omega (arith, c.loop-inputs-test.true) in
    traced_more c.args.text.now order d m all at c.inputs-item.result c.loop-inputs.sim c.put_step.new.sim c.loop-inputs.text c.put_step.new.text within c.inputs-item.is before
    (c.in_ok-put_step.ensures.settled order d m (take at all) before.at) (c.in_ok-put_step.ensures.line order d m (take at all) same before.at)

pub returns : goal.returns
returns c = record {
  ok = λ order d m same is.
      let past : length c.args.stimulus.now ≤ c.loop-inputs.inputs-index = omega (arith, c.loop-inputs-test.false) in
      traced_all c.args.text.now order d m c.args.stimulus.now c.loop-inputs.inputs-index c.loop-inputs.sim c.loop-inputs.text past (c.loop-inputs.invariant order d m same is);
}
