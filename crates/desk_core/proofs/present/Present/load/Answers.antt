use Rattle.desk_core.specs.Present.{state_with}
use Rattle.desk_core.proofs.Changing.{loaded}
use Rattle.desk_core.proofs.present.Present.load.Goals as goal

pub returns-in-Ok-clause-ok : goal.returns-in-Ok-clause-ok
returns-in-Ok-clause-ok c = λ kept.
    loaded (state_with kept c.args.self.now) (state_with kept c.replace.new.self) c.args.text.now c.in-Ok.design c.replace.result c.in-Ok.ensures.reads (c.replace.ensures.ok kept)
