-- What is found so far is of the tree.
use Rattle.rtl_ir.specs.Types.{Ports}
use Rattle.rtl_ir.specs.declared.module.Module.{Module}
use Rattle.rtl_sig.specs.declared.sig.SigBit.{SigBit}
use Rattle.std.proofs.Common.{List}
use Rattle.fsm_find.specs.declared.reach.Reach.{Reach}
use Rattle.fsm_find.specs.Trees.{IsMet, IsReach}
use Rattle.fsm_find.specs.View.{IsView, step_of}
use Rattle.fsm_find.proofs.reach.reached.Given as goal

pub record Sofar (m : Module) (state root : List SigBit) (r : Reach) : Type 0 where
  pub reach : IsReach m state root r
  pub met : IsMet r.forks.items r.known.items r.forks.items root (step_of m state root)

abbrev pub invariant-loop-step : goal.invariant-loop-step
invariant-loop-step l = (ports : Ports) → IsView l.view ports l.module → Sofar l.module l.view.state l.root l.reach
