use Rattle.opt_rounds.proofs.merged.Goals as goal

pub returns-clause-ready : goal.returns-clause-ready
returns-clause-ready c = c.in_ok-after.ensures.pass.ready c.requires.ready
