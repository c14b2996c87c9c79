use Rattle.std.proofs.lemmas.Result.{IfOk-weaker}
use Rattle.process_check.proofs.Settled.{were_made}
use Rattle.process_check.proofs.two_edges.asked_resets.Goals as goal

pub returns-in-Some-clause-value : goal.returns-in-Some-clause-value
returns-in-Some-clause-value c =
    IfOk-weaker c.one_resets.result _ _
    (λ stand e ports types asked fit. e ports (were_made c.args.tests.now c.in-Some.tests ports c.args.tree.now.«module».now c.in-Some.is asked) fit)
    c.one_resets.ensures.value
