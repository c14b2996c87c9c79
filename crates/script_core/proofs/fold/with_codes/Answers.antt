use Rattle.script_core.proofs.Settling.{still_settled}
use Rattle.script_core.proofs.fold.with_codes.Goals as goal

pub recode_all-requires : goal.recode_all-requires
recode_all-requires c = record { ready = c.requires.ready.ready }

pub returns-then-done-clause-exact : goal.returns-then-done-clause-exact
returns-then-done-clause-exact c = c.in_ok-done.ensures.exact

pub returns-then-done-clause-settled : goal.returns-then-done-clause-settled
returns-then-done-clause-settled c =
    still_settled c.args.is_settled c.args.ports.now c.args.module c.in_ok-done.done.after (c.in_ok-done.ensures.same c.if-done.true) c.requires.settled
