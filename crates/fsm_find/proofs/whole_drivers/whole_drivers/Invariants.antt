-- The table is that of the cells from the place on.
use Rattle.std.proofs.Common.{◌≡◌, List, drop}
use Rattle.rtl_sig.specs.declared.sig.SigBit.{SigBit}
use Rattle.rtl_ir.specs.declared.cell.Cell.{Cell}
use Rattle.net_model.specs.Fsm.Find.{place_where}
use Rattle.fsm_parts.specs.SignalTable.{place_in}
use Rattle.fsm_find.specs.WholeDrivers.{gives}
use Rattle.fsm_find.proofs.whole_drivers.whole_drivers.Given as goal

abbrev pub invariant-loop-at : goal.invariant-loop-at
invariant-loop-at l = (signal : List SigBit) → place_in l.drivers signal ≡ place_where (λ (c : Cell). gives l.part c signal) l.at (drop l.at l.cells)
