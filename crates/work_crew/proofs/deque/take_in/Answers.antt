use Rattle.std.proofs.Common.{[], ◌++◌, false, sym, subst}
use Rattle.crossbeam_deque.specs.Handles.{worker_view, view}
use Rattle.crossbeam_deque.specs.Tasks.{Merges}
use Rattle.work_crew.specs.declared.deque.Hand.{Hand}
use Rattle.work_crew.specs.Hands.{hand, AtMostOnce}
use Rattle.work_crew.proofs.Moves.{merges}
use Rattle.work_crew.proofs.deque.take_in.Goals as goal

pub absorb-requires-clause-rule : goal.absorb-requires-clause-rule
absorb-requires-clause-rule c =
    let v : Hand = worker_view c.args.owner.now in
    let w : Hand = view c.args.note in
    subst (λ port. Merges AtMostOnce port v c.args.note.id w (hand v.fixed v.put (v.taken ++ w.taken)) (hand false [] [])) (sym c.requires.0) (merges v c.args.note.id w)
