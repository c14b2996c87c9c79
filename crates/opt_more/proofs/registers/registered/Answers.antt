use Rattle.opt_more.proofs.RegisterSteps.{registered_is}
use Rattle.opt_more.proofs.registers.registered.Goals as goal

pub returns-clause-value : goal.returns-clause-value
returns-clause-value c = λ ports wires links types inits aliases.
    registered_is c.in_ok-kind.field-0 c.in-Some.kind wires ports links c.args.cell c.in_ok-followed.followed.cell _ c.in_ok-kind.ensures.value c.in-Some.is (c.in_ok-followed.ensures.value ports links types aliases) (c.in_ok-visited.ensures.value wires inits)
