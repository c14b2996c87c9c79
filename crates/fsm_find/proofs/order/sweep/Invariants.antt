-- Marked forks are shallow; where there was none to mark, the nodes so far are stuck.
use Rattle.std.proofs.Common.{◌≡◌, ℕ, Bool, false, List, length, drop}
use Rattle.net_model.specs.Lists.{In}
use Rattle.fsm_find.specs.declared.reach.Node.{Node}
use Rattle.fsm_find.specs.Order.{AreShallow, IsStuck}
use Rattle.fsm_find.proofs.order.sweep.Given as goal

pub record Swept (nodes : List Node) (before done : List Bool) (moved : Bool) (at : ℕ) : Type 0 where
  pub count : length done ≡ length before
  pub shallow : AreShallow nodes before → AreShallow nodes done
  pub same : moved ≡ false → done ≡ before
  pub stuck : moved ≡ false → (node : Node) → In node (drop at nodes) → IsStuck done node

abbrev pub invariant-loop-at : goal.invariant-loop-at
invariant-loop-at l = Swept l.nodes l.initial.done.items l.done.items l.moved l.at
