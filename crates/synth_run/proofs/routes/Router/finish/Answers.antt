use Rattle.std.proofs.Common.{List, [], Bool, Option, refl, sym, ap, subst, ◌∙◌}
use Rattle.std.specs.Prelude.{option_to_list}
use Rattle.desk_read.specs.declared.command.Command.{Command}
use Rattle.desk_read.specs.Taking.{OpenBlock, commands_from}
use Rattle.synth_run.specs.Desks.{Part}
use Rattle.synth_run.specs.Lines.{last_line}
use Rattle.synth_run.specs.Routes.{TakesParts}
use Rattle.synth_run.specs.declared.routes.Router.{Router}
use Rattle.synth_run.proofs.Putting.{ended_on, ended_put}
use Rattle.synth_run.proofs.Routing.{ended_early}
use Rattle.synth_run.proofs.routes.Router.finish.Goals as goal

pub returns-then-branch-clause-ok : goal.returns-then-branch-clause-ok
returns-then-branch-clause-ok c =
    ended_early c.args.self.now c.take_last.new.self
    (subst (λ (t : Bool). (more : List Part) × TakesParts c.args.self.now c.take_last.new.self (last_line c.args.self.now.line) t more) c.if-branch.true c.in_ok-take_last.ensures.ok)

pub returns-in_ok-put-clause-ok : goal.returns-in_ok-put-clause-ok
returns-in_ok-put-clause-ok c =
    let mid : Router = record c.take_last.new.self { reader = c.replace-reader.new.dest } in
    ended_put c.args.self.now c.take_last.new.self mid c.put.new.self c.in-Some.unclosed
    (subst (λ (t : Bool). (more : List Part) × TakesParts c.args.self.now c.take_last.new.self (last_line c.args.self.now.line) t more) c.if-branch.false c.in_ok-take_last.ensures.ok)
    (ap (λ (o : Option Command). option_to_list o) (sym c.in-Some.is) ∙ c.finish.ensures.value ∙ ap (λ (block : Option OpenBlock). commands_from block []) c.replace-reader.ensures.value)
    refl refl refl c.in_ok-put.ensures.count c.in_ok-put.ensures.ok

pub returns-in_default-clause-ok : goal.returns-in_default-clause-ok
returns-in_default-clause-ok c =
    ended_on c.args.self.now c.take_last.new.self _
    (subst (λ (t : Bool). (more : List Part) × TakesParts c.args.self.now c.take_last.new.self (last_line c.args.self.now.line) t more) c.if-branch.false c.in_ok-take_last.ensures.ok)
    (ap (λ (o : Option Command). option_to_list o) (sym c.in_default.is) ∙ c.finish.ensures.value ∙ ap (λ (block : Option OpenBlock). commands_from block []) c.replace-reader.ensures.value)
    refl refl
