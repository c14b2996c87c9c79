-- The places so far.
use Rattle.std.proofs.Common.{◌≡◌, filter, ◌∷◌, []}
use Rattle.std.specs.List.{list_any, range_with_len}
use Rattle.rtl_ir.specs.Types.{Ports}
use Rattle.net_model.specs.Fsm.Find.{cells_at_places, compares}
use Rattle.fsm_find.specs.View.{IsView}
use Rattle.fsm_find.proofs.machine.comparing.Given as goal

abbrev pub invariant-loop-at : goal.invariant-loop-at
invariant-loop-at l =
    (ports : Ports) → IsView l.view ports l.module → l.places ≡ filter (λ at. list_any (compares l.module l.view.state) (cells_at_places l.module.cells (at ∷ []))) (range_with_len 0 l.at)
