-- The forks so far are marked.
use Rattle.std.proofs.Common.{◌≡◌, drop}
use Rattle.std.specs.List.{list_all}
use Rattle.fsm_find.specs.Order.{is_done}
use Rattle.fsm_find.proofs.order.are_done.Given as goal

abbrev pub invariant-loop-fork : goal.invariant-loop-fork
invariant-loop-fork l = list_all (is_done l.done) l.forks ≡ list_all (is_done l.done) (drop l.fork-index l.forks)
