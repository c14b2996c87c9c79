use Rattle.std.proofs.Common.{arith}
use Rattle.crossbeam_deque.specs.Handles.{worker_view}
use Rattle.work_crew.proofs.Passes.{took_below, took_times}
use Rattle.work_crew.proofs.reach.next_job.Goals as goal

pub returns-in-Some-clause-taken : goal.returns-in-Some-clause-taken
returns-in-Some-clause-taken g c = λ k.
    let e = took_times k c.in-Some.job (worker_view c.args.reach.now.owner) (worker_view c.take.new.owner) c.in-Some.ensures.rule in
    omega arith

pub returns-in-Some-clause-job : goal.returns-in-Some-clause-job
returns-in-Some-clause-job g c = λ n h. took_below n c.in-Some.job (worker_view c.args.reach.now.owner) (worker_view c.take.new.owner) c.in-Some.ensures.rule h.0

pub returns-in-Ok-clause-job : goal.returns-in-Ok-clause-job
returns-in-Ok-clause-job g c = λ n h. c.in-Ok.ensures.job n h.1
