-- The points so far are those of the ports so far.
use Rattle.std.proofs.Common.{◌≡◌, Some, slice_get, take, map}
use Rattle.rtl_ir.specs.Flat.Place.{Path}
use Rattle.rtl_ir.specs.Flat.Tree.{role_points}
use Rattle.rtl_ir.specs.Ports.{line_of}
use Rattle.flat_net.specs.Known.{Extends}
use Rattle.flat_net.specs.Reads.{ArePoints}
use Rattle.flat_net.specs.Tables.{all_now}
use Rattle.flat_net.proofs.places.Places.role_points.Given as goal

abbrev pub invariant-loop-port : goal.invariant-loop-port
invariant-loop-port l = record {
  grows : Extends l.fn.self l.self;
  they : (p : Path) → slice_get l.fn.self.paths l.path ≡ Some p → ArePoints l.self.places l.points (role_points l.role p (map line_of (all_now (take l.port-index l.ports))));
}
