-- The cells so far fit.
use Rattle.std.proofs.Common.{◌≡◌, drop}
use Rattle.std.specs.List.{list_all}
use Rattle.rtl_ir.specs.Types.{Ports}
use Rattle.net_model.specs.Fsm.Find.{cells_at_places, fits_code}
use Rattle.fsm_find.specs.View.{IsView}
use Rattle.fsm_find.proofs.machine.all_fit.Given as goal

abbrev pub invariant-loop-place : goal.invariant-loop-place
invariant-loop-place l =
    (ports : Ports) → IsView l.view ports l.module
    → list_all (fits_code l.states) (cells_at_places l.module.cells l.places) ≡ list_all (fits_code l.states) (cells_at_places l.module.cells (drop l.place-index l.places))
