use Rattle.std.proofs.Common.{rules}
use Rattle.map_gates.proofs.Placing.{inverse_over}
use Rattle.map_gates.proofs.parts.demux_gates.Goals as goal

pub returns-in_err-inverses-clause-over : goal.returns-in_err-inverses-clause-over
returns-in_err-inverses-clause-over c e =
    inverse_over c.args.a.now c.args.s.now c.args.y.now c.args.builder.now (search (rules, c.invert.ensures.over, e, c.from_residual.ensures))
