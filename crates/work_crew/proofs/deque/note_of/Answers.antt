use Rattle.std.proofs.Common.{[], true, sym, subst}
use Rattle.crossbeam_deque.specs.Handles.{worker_view}
use Rattle.crossbeam_deque.specs.Tasks.{Forks}
use Rattle.work_crew.specs.declared.deque.Hand.{Hand}
use Rattle.work_crew.specs.Hands.{hand, AtMostOnce}
use Rattle.work_crew.proofs.Moves.{forks}
use Rattle.work_crew.proofs.deque.note_of.Goals as goal

pub another-requires : goal.another-requires
another-requires c =
    let v : Hand = worker_view c.args.owner.now in
    subst (λ port. Forks AtMostOnce port v (hand true v.put v.taken) (hand true v.put [])) (sym c.requires) (forks v)
