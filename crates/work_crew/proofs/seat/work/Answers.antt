use Rattle.std.proofs.Common.{ℕ, [], ◌∷◌, ◌++◌, refl, sym, ap, ◌∙◌, subst, arith}
use Rattle.work_crew.specs.Along.{numbers_of}
use Rattle.work_crew.specs.Reach.{took}
use Rattle.work_crew.specs.Turns.{OnItsWay}
use Rattle.work_crew.proofs.Passes.{same_below, same_trans}
use Rattle.work_crew.proofs.Steps.{numbers_snoc, way_begins, way_goes, way_ends, way_fails}
use Rattle.work_crew.proofs.seat.work.Goals as goal

pub loop-seat-init : goal.loop-seat-init
loop-seat-init g c =
    let s = c.args.seat.now in
    record {
      way = way_begins (g.J.Job.does c.args.jobs.now) (g.J.Job.fails c.args.jobs.now) (g.J.Job.token_fits c.args.jobs.now) (g.J.Job.output_fits c.args.jobs.now) s.worked.done.items c.args.token.now s.meter (λ k. took k s.reach) c.requires.none_done c.requires.token;
      taken = c.requires.none_taken ∙ ap numbers_of (sym c.requires.none_done);
      can = c.requires.can;
      same = record { number = refl; owner = (refl, refl, refl, omega arith); fixed = refl; put = refl; notes = refl };
    }

pub next_job-requires : goal.next_job-requires
next_job-requires g c = c.loop-seat.invariant.can

pub returns-in_default : goal.returns-in_default
returns-in_default g c =
    let i = c.loop-seat.invariant in
    let s = c.loop-seat.seat in
    let r = c.next_job.new.reach in
    record {
      token = i.way.token;
      taken = i.taken;
      fit = i.way.outputs;
      can = c.in_default.ensures.can;
      same = same_trans c.args.seat.now.reach s.reach r i.same c.in_default.ensures.same;
      went = way_ends (g.J.Job.does c.args.jobs.now) (g.J.Job.fails c.args.jobs.now) (g.J.Job.token_fits c.args.jobs.now) (g.J.Job.output_fits c.args.jobs.now) s.worked.done.items c.args.token.now c.loop-seat.token c.args.seat.now.meter s.meter (λ k. took k c.args.seat.now.reach) (λ k. took k s.reach) (λ k. took k r) i.way c.in_default.ensures.taken;
    }

pub perform-reply-requires-clause-job : goal.perform-reply-requires-clause-job
perform-reply-requires-clause-job g c =
    c.requires.jobs_are c.in-Some.job (c.in-Some.ensures.job c.requires.count (same_below c.requires.count c.args.seat.now.reach c.loop-seat.seat.reach c.loop-seat.invariant.same c.requires.below))

pub perform-reply-requires-clause-token :
    goal.perform-reply-requires-clause-token
perform-reply-requires-clause-token g c = c.loop-seat.invariant.way.token

pub returns-in_default-reply : goal.returns-in_default-reply
returns-in_default-reply g c =
    let i = c.loop-seat.invariant in
    let s = c.loop-seat.seat in
    let r = c.next_job.new.reach in
    let e = c.in_default-reply.ensures.err in
    record {
      token = c.in_default-reply.ensures.token;
      taken = i.taken;
      fit = i.way.outputs;
      can = c.in-Some.ensures.can;
      same = same_trans c.args.seat.now.reach s.reach r i.same c.in-Some.ensures.same;
      went = way_fails (g.J.Job.does c.args.jobs.now) (g.J.Job.fails c.args.jobs.now) (g.J.Job.token_fits c.args.jobs.now) (g.J.Job.output_fits c.args.jobs.now) s.worked.done.items c.args.token.now c.loop-seat.token c.perform-reply.new.token c.args.seat.now.meter s.meter (λ k. took k c.args.seat.now.reach) (λ k. took k s.reach) (λ k. took k r) c.in-Some.job e.0 c.perform-reply.new.meter
          i.way c.in-Some.ensures.taken e.1 e.2;
    }

pub loop-seat-preserved : goal.loop-seat-preserved
loop-seat-preserved g c =
    let i = c.loop-seat.invariant in
    let s = c.loop-seat.seat in
    let r = c.next_job.new.reach in
    let o = c.in-Ok.ensures.ok in
    let b : ℕ → ℕ = λ k. took k c.args.seat.now.reach in
    let a : ℕ → ℕ = λ k. took k r in
    record {
      way = subst (λ xs. OnItsWay (g.J.Job.does c.args.jobs.now) (g.J.Job.token_fits c.args.jobs.now) (g.J.Job.output_fits c.args.jobs.now) xs c.args.token.now c.perform-reply.new.token c.args.seat.now.meter c.perform-reply.new.meter b a) (sym c.add.ensures.done)
          (way_goes (g.J.Job.does c.args.jobs.now) (g.J.Job.fails c.args.jobs.now) (g.J.Job.token_fits c.args.jobs.now) (g.J.Job.output_fits c.args.jobs.now) s.worked.done.items c.args.token.now c.loop-seat.token c.perform-reply.new.token c.args.seat.now.meter s.meter b (λ k. took k s.reach) a c.in-Some.job c.in-Ok.output o.0 c.perform-reply.new.meter
          i.way c.in-Some.ensures.taken o.1 o.2 c.in-Ok.ensures.token c.in-Ok.ensures.fits);
      taken = c.add.ensures.taken ∙ ap (λ xs. xs ++ c.in-Some.job ∷ []) i.taken ∙ sym (numbers_snoc s.worked.done.items c.in-Some.job c.in-Ok.output) ∙ ap numbers_of (sym c.add.ensures.done);
      can = c.in-Some.ensures.can;
      same = same_trans c.args.seat.now.reach s.reach r i.same c.in-Some.ensures.same;
    }

pub returns : goal.returns
returns g c =
    let i = c.loop-seat.invariant in
    let s = c.loop-seat.seat in
    record {
      token = i.way.token;
      taken = i.taken;
      fit = i.way.outputs;
      can = i.can;
      same = i.same;
      went = way_ends (g.J.Job.does c.args.jobs.now) (g.J.Job.fails c.args.jobs.now) (g.J.Job.token_fits c.args.jobs.now) (g.J.Job.output_fits c.args.jobs.now) s.worked.done.items c.args.token.now c.loop-seat.token c.args.seat.now.meter s.meter (λ k. took k c.args.seat.now.reach) (λ k. took k s.reach) (λ k. took k s.reach) i.way (λ k. refl);
    }
