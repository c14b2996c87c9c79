-- The cells so far, and those that are left, are all.
use Rattle.std.proofs.Common.{◌≡◌, ℕ, length}
use Rattle.rtl_ir.specs.declared.module.Module.{Module}
use Rattle.rtl_ir.specs.Types.{Ports}
use Rattle.net_index.specs.Drivers.{AreDrivers}
use Rattle.net_model.specs.Fsm.Code.{coded_cells}
use Rattle.fsm_code.specs.Links.{behind, linked}
use Rattle.fsm_code.specs.Outputs.{IsTabled, coding_of}
use Rattle.fsm_code.specs.Places.{ArePlaces}
use Rattle.fsm_code.proofs.cells.recoded_cells.Given as goal

abbrev pub invariant-loop-cell : goal.invariant-loop-cell
invariant-loop-cell l =
    (ports : Ports) (m : Module) (next : ℕ) → AreDrivers l.index ports m → IsTabled l.fn.coding.outputs → ArePlaces (length m.cells) l.machine l.places →
    behind l.cells.items (coded_cells m l.machine (coding_of l.fn.coding) l.at l.cell-iterator.rest.items (linked (record { body = l.fn.module; next = next }) l.links))
    ≡ coded_cells m l.machine (coding_of l.fn.coding) 0 l.fn.module.cells (record { body = l.fn.module; next = next })
