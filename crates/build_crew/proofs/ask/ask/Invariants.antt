use Rattle.build_crew.specs.Calls.{IsAsking}
use Rattle.build_crew.proofs.ask.ask.Given as goal

abbrev pub invariant-loop : goal.invariant-loop
invariant-loop g l =
    (goal.iterator-loop g).can_next l.iterator' × (goal.iterator-loop g).is_finite l.iterator' × IsAsking l.key l.initial.seat l.seat
