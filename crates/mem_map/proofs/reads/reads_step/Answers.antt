use Rattle.std.proofs.Common.{rules}
use Rattle.mem_map.specs.Words.{words_of}
use Rattle.mem_map.proofs.Going.{read_over}
use Rattle.mem_map.proofs.reads.reads_step.Goals as goal

pub returns-in_err-read_step-clause-over : goal.returns-in_err-read_step-clause-over
returns-in_err-read_step-clause-over c e =
    read_over (words_of c.args.words.now) c.args.ports.now c.loop-port.port-index c.port-item.result c.loop-port-test.true c.port-item.is c.loop-port.builder _ c.loop-port.invariant.all
    (search (rules, c.read_step.ensures.over, e, c.from_residual.ensures))
