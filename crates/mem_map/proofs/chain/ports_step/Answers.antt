use Rattle.std.proofs.Common.{rules}
use Rattle.mem_map.proofs.Going.{port_over}
use Rattle.mem_map.proofs.chain.ports_step.Goals as goal

pub returns-in_err-acc-2-clause-over : goal.returns-in_err-acc-2-clause-over
returns-in_err-acc-2-clause-over c e =
    port_over c.args.address c.args.ports.now c.loop-port.port-index c.port-item.result c.loop-port-test.true c.port-item.is c.loop-port.acc c.loop-port.builder _ c.loop-port.invariant.all
    (search (rules, c.port_step.ensures.over, e, c.from_residual-in_err-acc-2.ensures))
