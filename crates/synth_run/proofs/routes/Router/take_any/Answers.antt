use Rattle.std.proofs.Common.{Option, refl, sym, subst, ◌∙◌}
use Rattle.desk_read.specs.declared.command.Command.{Command}
use Rattle.desk_read.specs.Taking.{Takes}
use Rattle.synth_run.specs.declared.routes.Router.{Router}
use Rattle.synth_run.proofs.Putting.{taken_put}
use Rattle.synth_run.proofs.routes.Router.take_any.Goals as goal

pub returns-in-Some-clause-ok : goal.returns-in-Some-clause-ok
returns-in-Some-clause-ok c =
    let mid : Router = record c.args.self.now { reader = c.feed.new.self } in
    taken_put c.args.self.now mid c.put.new.self c.args.line.now c.in-Some.command c.put.result c.requires.command (sym c.in-Some.is ∙ c.in_ok-command.ensures.answer)
    (subst (λ (o : Option Command). Takes c.args.self.now.reader c.args.line.now o c.feed.new.self) c.in-Some.is c.in_ok-command.ensures.commands) c.in_ok-command.ensures.block refl refl refl
    c.put.ensures.count c.put.ensures.ok c.put.ensures.quit c.put.ensures.same
