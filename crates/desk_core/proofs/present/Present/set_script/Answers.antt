use Rattle.desk_core.specs.Present.{state_with}
use Rattle.desk_core.proofs.Changing.{read_script}
use Rattle.desk_core.proofs.present.Present.set_script.Goals as goal

pub returns-in-Ok-clause-ok : goal.returns-in-Ok-clause-ok
returns-in-Ok-clause-ok c = λ kept.
    read_script (state_with kept c.args.self.now) (state_with kept c.take_script.new.self) c.args.text.now c.in-Ok.script c.take_script.result c.in-Ok.ensures.reads (c.take_script.ensures.ok kept)
