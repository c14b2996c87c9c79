use Rattle.desk_core.specs.Present.{state_with}
use Rattle.desk_core.proofs.Changing.{edited}
use Rattle.desk_core.proofs.present.Present.edit.Goals as goal

pub returns-in-Ok-clause-ok : goal.returns-in-Ok-clause-ok
returns-in-Ok-clause-ok c = λ kept.
    edited (state_with kept c.args.self.now) (state_with kept c.take_edits.new.self) c.args.text.now c.in-Ok.design c.take_edits.result c.in-Ok.ensures.reads (c.take_edits.ensures.ok kept)
