use Rattle.std.proofs.Common.{◌≡◌, subst}
use Rattle.std.specs.Prelude.{IfOk}
use Rattle.desk_core.specs.Answers.{design_answer}
use Rattle.desk_core.specs.Present.{state_with}
use Rattle.desk_core.specs.Ages.{kept_in}
use Rattle.desk_core.specs.State.{DeskView, answer}
use Rattle.desk_core.proofs.Changing.{sound_present, view_kept}
use Rattle.desk_core.proofs.desk.Desk.replace.Goals as goal

pub invariant_of-self : goal.invariant_of-self
invariant_of-self c =
    sound_present c.self.inside.present c.replace.new.self c.self.inside.results c.replace.new.found c.self.invariant c.replace.ensures.present

pub returns-clause-ok : goal.returns-clause-ok
returns-clause-ok c =
    let kept = kept_in c.self.inside.results.ages.keys c.self.inside.results.ages.ages.items in
    subst (λ (v : DeskView). IfOk c.replace.result (λ reply. answer reply (state_with kept c.replace.new.self) ≡ design_answer v.state c.args.design.modules)) c.self.view_is
    (c.replace.ensures.ok kept)

pub returns-clause-err : goal.returns-clause-err
returns-clause-err c =
    view_kept c.self.inside.present c.replace.new.self c.self.inside.results c.replace.new.found c.args.self.now c.replace.result c.self.view_is c.replace.ensures.err
