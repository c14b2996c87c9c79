use Rattle.std.proofs.Common.{◌-◌, List, ap}
use Rattle.std.specs.Prelude.{slice_set}
use Rattle.std.specs.Vec.{with_item}
use Rattle.desk_read.specs.declared.command.Command.{Command}
use Rattle.synth_run.specs.declared.routes.Router.{Router}
use Rattle.synth_run.proofs.Routing.{holds_put}
use Rattle.synth_run.proofs.routes.Router.put.Goals as goal

pub returns-clause-ok : goal.returns-clause-ok
returns-clause-ok c =
    let router = c.args.self.now in
    let put : Router = record router { parts = c.push-2.new.self; lists = with_item router.lists (router.desk - 1) c.push.new.self } in
    holds_put router put c.args.command c.index_mut.result.now c.requires.router.desk c.index_mut.ensures.value c.in_ok-push-2.ensures.items
    (ap (λ (l : List Command). slice_set router.lists.items (router.desk - 1) l) c.in_ok-push.ensures.ok)
