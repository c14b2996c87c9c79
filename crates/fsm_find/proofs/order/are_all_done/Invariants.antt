-- The forks of the nodes so far are marked.
use Rattle.std.proofs.Common.{◌≡◌, drop}
use Rattle.std.specs.List.{list_all}
use Rattle.fsm_find.specs.declared.reach.Node.{Node}
use Rattle.fsm_find.specs.Order.{is_done}
use Rattle.fsm_find.proofs.order.are_all_done.Given as goal

abbrev pub invariant-loop-node : goal.invariant-loop-node
invariant-loop-node l = list_all (λ (node : Node). is_done l.done node.fork) l.nodes ≡ list_all (λ (node : Node). is_done l.done node.fork) (drop l.node-index l.nodes)
