use Rattle.std.proofs.Common.{rules}
use Rattle.script_core.proofs.Beginning.{answered, begins, passed}
use Rattle.script_core.proofs.fold.without_processes.Goals as goal

pub apply-requires : goal.apply-requires
apply-requires c = record { begins = begins c.args.ports.now c.args.module (λ e. search (rules, e, c.is_empty.ensures, c.if-is_empty.false, c.as_slice.ensures.value)) c.requires.ready }

pub returns-clause-exact : goal.returns-clause-exact
returns-clause-exact c =
    answered c.args.ports.now c.args.module (λ e. search (rules, e, c.is_empty.ensures, c.if-is_empty.false, c.as_slice.ensures.value)) c.apply.result c.apply.ensures.exact

pub returns-clause-over : goal.returns-clause-over
returns-clause-over c =
    passed c.args.ports.now c.args.module (λ e. search (rules, e, c.is_empty.ensures, c.if-is_empty.false, c.as_slice.ensures.value)) c.apply.result c.apply.ensures.over
