-- The signals so far are visited.
use Rattle.std.proofs.Common.{List, take}
use Rattle.rtl_sig.specs.declared.sig.SigBit.{SigBit}
use Rattle.rtl_ir.specs.declared.module.Module.{Module}
use Rattle.rtl_ir.specs.Types.{Ports}
use Rattle.net_model.specs.Lists.{In}
use Rattle.fsm_find.specs.Trees.{IsReach, IsUnder, Visits}
use Rattle.fsm_find.specs.View.{IsView}
use Rattle.fsm_find.proofs.reach.Reach.visit_all.Given as goal

abbrev pub invariant-loop-signal : goal.invariant-loop-signal
invariant-loop-signal l =
    (ports : Ports) (m : Module) (root : List SigBit) → IsView l.view ports m → IsReach m l.view.state root l.initial.self → ((s : List SigBit) → In s l.signals → IsUnder m l.view.state root s)
    → Visits m l.view.state root (take l.signal-index l.signals) l.initial.self l.self l.initial.below.items l.below.items
