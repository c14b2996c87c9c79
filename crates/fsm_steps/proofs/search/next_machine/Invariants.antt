-- No wire so far is a state wire.
use Rattle.rtl_ir.specs.Types.{table_ports}
use Rattle.fsm_steps.specs.Search.{HasNone}
use Rattle.fsm_steps.proofs.search.next_machine.Given as goal

abbrev pub invariant-loop-wire : goal.invariant-loop-wire
invariant-loop-wire l = HasNone (table_ports l.ports.modules) l.module l.from l.wire
