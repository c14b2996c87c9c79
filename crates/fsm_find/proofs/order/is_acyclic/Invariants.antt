-- Marked forks are shallow.
use Rattle.std.proofs.Common.{◌≡◌, ℕ, Bool, List, length}
use Rattle.fsm_find.specs.declared.reach.Node.{Node}
use Rattle.fsm_find.specs.Order.{AreShallow}
use Rattle.fsm_find.proofs.order.is_acyclic.Given as goal

pub record Marked (nodes : List Node) (done : List Bool) (count : ℕ) : Type 0 where
  pub size : length done ≡ count
  pub shallow : AreShallow nodes done

abbrev pub invariant-loop-round : goal.invariant-loop-round
invariant-loop-round l = Marked l.nodes l.done.items l.count
