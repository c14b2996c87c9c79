-- The cells from the place on have been opened.
use Rattle.std.proofs.Common.{◌≡◌, Some, slice_get, drop}
use Rattle.rtl_ir.specs.declared.module.Design.{Design}
use Rattle.rtl_ir.specs.Flat.Place.{Path}
use Rattle.flat_net.specs.Known.{Extends}
use Rattle.flat_net.specs.Tables.{IsTable}
use Rattle.flat_net.specs.Visits.{ArePathed, Opens}
use Rattle.flat_net.proofs.places.Places.open_instances.Given as goal

abbrev pub invariant-loop-at : goal.invariant-loop-at
invariant-loop-at l = record {
  grows : Extends l.fn.self l.self;
  opens : (d : Design) → IsTable l.table d.modules → (p : Path) → slice_get l.fn.self.paths l.path ≡ Some p → Opens d l.self.paths l.fn.visits.items l.visits.items l.below p (drop l.at l.cells);
  pathed : ArePathed l.fn.self.paths l.fn.visits.items → ArePathed l.self.paths l.visits.items;
}
