-- The points so far are those of the bits so far.
use Rattle.std.proofs.Common.{◌≡◌, Some, slice_get, take}
use Rattle.rtl_ir.specs.Flat.Place.{Path}
use Rattle.rtl_ir.specs.Flat.Point.{points}
use Rattle.flat_net.specs.Known.{Extends}
use Rattle.flat_net.specs.Reads.{ArePoints}
use Rattle.flat_net.proofs.places.Places.points.Given as goal

abbrev pub invariant-loop-bit : goal.invariant-loop-bit
invariant-loop-bit l = record {
  grows : Extends l.fn.self l.self;
  they : (p : Path) → slice_get l.fn.self.paths l.scope.path ≡ Some p → ArePoints l.self.places l.points.items (points p l.scope.wires.now (take l.bit-index l.signal));
}
