use Rattle.std.proofs.Common.{◌≡◌, [], ◌∷◌, ◌++◌, false, sym, subst}
use Rattle.crossbeam_deque.specs.Handles.{worker_view}
use Rattle.crossbeam_deque.specs.Tasks.{Pushes}
use Rattle.work_crew.specs.declared.deque.Hand.{Hand}
use Rattle.work_crew.specs.Hands.{hand, AtMostOnce}
use Rattle.work_crew.proofs.Moves.{puts}
use Rattle.work_crew.proofs.deque.put.Goals as goal

pub push_as-requires-clause-pushes : goal.push_as-requires-clause-pushes
push_as-requires-clause-pushes c =
    let v : Hand = worker_view c.args.owner.now in
    subst (λ port. Pushes AtMostOnce port v (c.args.job ∷ []) (λ w. w ≡ hand false (v.put ++ c.args.job ∷ []) v.taken)) (sym c.requires.port) (puts v (c.args.job ∷ []) c.requires.unfixed)
