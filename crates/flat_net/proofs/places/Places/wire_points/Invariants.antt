-- The points so far are those of the bits so far.
use Rattle.std.proofs.Common.{◌≡◌, Some, slice_get}
use Rattle.rtl_ir.specs.Flat.Place.{Path}
use Rattle.rtl_ir.specs.Flat.Point.{wire_points}
use Rattle.flat_net.specs.Known.{Extends}
use Rattle.flat_net.specs.Reads.{ArePoints}
use Rattle.flat_net.proofs.places.Places.wire_points.Given as goal

abbrev pub invariant-loop-at : goal.invariant-loop-at
invariant-loop-at l = record {
  grows : Extends l.fn.self l.self;
  they : (p : Path) → slice_get l.fn.self.paths l.path ≡ Some p → ArePoints l.self.places l.points.items (wire_points p l.name 0 l.at);
}
