use Rattle.std.proofs.Common.{map, sym, subst}
use Rattle.std.specs.List.{AllZip}
use Rattle.many_desks.specs.Replies.{Replies}
use Rattle.many_desks.specs.Serving.{HaveServed}
use Rattle.many_desks.proofs.Answered.{all_replies}
use Rattle.many_desks.proofs.serving.serve.Goals as goal

pub returns-clause-replies : goal.returns-clause-replies
returns-clause-replies g c =
    let f = c.in_ok-outputs.ensures.ok in
    subst (AllZip (Replies (g.T.Table.steps c.args.table.now) (g.T.Table.first_state c.args.table.now)) c.args.lists.now) (sym c.from_vec.ensures.value)
    (all_replies (g.T.Table.steps c.args.table.now) (g.T.Table.first_state c.args.table.now) c.args.lists.now c.in_ok-outputs.outputs.items.items f.len f.fit)

pub returns-clause-seats : goal.returns-clause-seats
returns-clause-seats g c = (
  map (λ v. v.items) c.in_ok-outputs.outputs.taken.items,
  subst (λ answers. HaveServed (g.T.Table.steps c.args.table.now) (g.T.Table.does c.args.table.now) (g.T.Table.first_state c.args.table.now) c.args.lists.now answers (map (λ v. v.items) c.in_ok-outputs.outputs.taken.items) c.args.seats.now c.run_jobs.new.tokens c.args.meter.now c.run_jobs.new.meter)
      (sym c.from_vec.ensures.value) c.in_ok-outputs.ensures.ok,
)
