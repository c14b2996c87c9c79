use Rattle.std.proofs.Common.{rules}
use Rattle.script_core.proofs.BuildLemmas.{accepted_answer}
use Rattle.script_core.proofs.key.key_by.Goals as goal

pub returns-clause-accepted : goal.returns-clause-accepted
returns-clause-accepted c = λ readable. accepted_answer c.args.design.now.design c.args.module c.args.script.now c.args.design.now.faultless c.requires.in_range readable c.key_in.result (search rules)
