use Rattle.std.proofs.Common.{rules, sym, subst}
use Rattle.work_crew.proofs.PairLists.{ready_map, ran_map}
use Rattle.work_crew.specs.Seats.{MayWork, HasWorked}
use Rattle.work_crew.proofs.beside.work_beside.Goals as goal

pub for_each_pair-requires-clause-ready : goal.for_each_pair-requires-clause-ready
for_each_pair-requires-clause-ready g c κs within =
    ready_map _ _ (λ s t h p q e f. let m = subst (λ x. MayWork g.J.Job.is_job g.J.Job.token_fits c.args.jobs.now c.args.thieves.now x q.now) (sym e) (subst (λ x. MayWork g.J.Job.is_job g.J.Job.token_fits c.args.jobs.now c.args.thieves.now s x) (sym f) h) in search (rules, m)) c.args.seats.now c.args.tokens.now c.requires.ready

pub returns : goal.returns
returns g c =
    ran_map _ _ (λ s w t u h. let k = h.call in
    let m : HasWorked g.J.Job.token_fits g.J.Job.output_fits g.J.Job.does g.J.Job.fails c.args.jobs.now c.args.thieves.now h.first.now h.first_after.now h.second.now h.second_after.now = search (rules, k) in
    subst (λ x. HasWorked g.J.Job.token_fits g.J.Job.output_fits g.J.Job.does g.J.Job.fails c.args.jobs.now c.args.thieves.now x w t u) h.first_is
    (subst (λ x. HasWorked g.J.Job.token_fits g.J.Job.output_fits g.J.Job.does g.J.Job.fails c.args.jobs.now c.args.thieves.now h.first.now x t u) h.first_left
    (subst (λ x. HasWorked g.J.Job.token_fits g.J.Job.output_fits g.J.Job.does g.J.Job.fails c.args.jobs.now c.args.thieves.now h.first.now h.first_after.now x u) h.second_is
    (subst (λ x. HasWorked g.J.Job.token_fits g.J.Job.output_fits g.J.Job.does g.J.Job.fails c.args.jobs.now c.args.thieves.now h.first.now h.first_after.now h.second.now x) h.second_left m))))
    c.args.seats.now c.for_each_pair.new.slots c.args.tokens.now c.for_each_pair.new.tokens c.for_each_pair.ensures
