-- The rows so far and those of the modules that are still to be added are all.
use Rattle.std.proofs.Common.{◌≡◌, suc, Some, slice_get}
use Rattle.rtl_ir.specs.declared.module.Design.{Design}
use Rattle.rtl_ir.specs.Flat.Place.{Path}
use Rattle.rtl_ir.specs.Flat.Tree.{design_ports, in_tree}
use Rattle.flat_net.specs.Known.{Extends}
use Rattle.flat_net.specs.Tables.{IsTable}
use Rattle.rtl_ir.specs.Flat.Rows.{rows_of}
use Rattle.flat_net.specs.Visits.{ArePathed, pending}
use Rattle.flat_net.proofs.Adding.{Leads}
use Rattle.flat_net.proofs.builder.Builder.add_tree.Given as goal

abbrev pub invariant-loop-step : goal.invariant-loop-step
invariant-loop-step l = record {
  grows : Extends l.fn.self.places l.self.places;
  pathed : ArePathed l.self.places.paths l.visits.items;
  rows : (d : Design) → IsTable l.table d.modules → (p : Path) → slice_get l.fn.self.places.paths l.path ≡ Some p
      → Leads l.fn.self l.self (in_tree d (rows_of (design_ports d)) (suc l.below) p l.body) (pending d l.self.places.paths l.visits.items);
}
