use Rattle.crossbeam_deque.specs.Handles.{worker_port, worker_view}
use Rattle.work_crew.proofs.Moves.{takes}
use Rattle.work_crew.proofs.deque.take.Goals as goal

pub pop_as-requires-clause-fifo : goal.pop_as-requires-clause-fifo
pop_as-requires-clause-fifo c = λ f. takes (worker_port c.args.owner.now) (worker_view c.args.owner.now)
