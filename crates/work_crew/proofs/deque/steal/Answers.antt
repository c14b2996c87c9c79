use Rattle.crossbeam_deque.specs.Handles.{view}
use Rattle.work_crew.proofs.Moves.{takes}
use Rattle.work_crew.proofs.deque.steal.Goals as goal

pub steal_as-requires-clause-takes : goal.steal_as-requires-clause-takes
steal_as-requires-clause-takes c = takes c.args.note.now.id (view c.args.note.now)
