use Rattle.proc_reset.proofs.process.root_at.Goals as goal

pub returns : goal.returns
returns c = record { value = λ ports is. c.at_level.ensures.value ports is.tests is.fit }
