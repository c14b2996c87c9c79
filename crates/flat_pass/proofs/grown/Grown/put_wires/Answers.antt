use Rattle.std.proofs.Common.{rules}
use Rattle.flat_pass.specs.Flat.{put_wire}
use Rattle.flat_pass.specs.Grown.{built}
use Rattle.flat_pass.proofs.Puts.{put_over, wire_rises}
use Rattle.flat_pass.proofs.grown.Grown.put_wires.Goals as goal

pub returns-in_err-put_wire-clause-over : goal.returns-in_err-put_wire-clause-over
returns-in_err-put_wire-clause-over c = λ e.
    put_over (put_wire c.args.instance.now) c.args.wires.now c.loop-wire.wire-index c.wire-item.result c.loop-wire-test.true c.wire-item.is (wire_rises c.args.instance.now) (built c.loop-wire.self) _ c.loop-wire.invariant.left
    (search (rules, c.put_wire.ensures.over, e, c.from_residual.ensures))
