-- The places so far are in the list.
use Rattle.std.proofs.Common.{◌<◌, ◌≤◌, ℕ}
use Rattle.net_model.specs.Lists.{In}
use Rattle.sim_eval.proofs.agenda.Agenda.whole.Given as goal

abbrev pub invariant-loop-place : goal.invariant-loop-place
invariant-loop-place l = (at : ℕ) → l.place ≤ at → at < l.parts → In at l.places.items
