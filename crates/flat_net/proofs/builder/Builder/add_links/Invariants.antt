-- The rows so far are those of the connections so far.
use Rattle.std.proofs.Common.{◌≡◌, Some, slice_get, drop}
use Rattle.rtl_ir.specs.Flat.Link.{link_rows}
use Rattle.rtl_ir.specs.Flat.Place.{Path}
use Rattle.flat_net.specs.Known.{Extends}
use Rattle.flat_net.proofs.Adding.{Leads}
use Rattle.flat_net.proofs.builder.Builder.add_links.Given as goal

abbrev pub invariant-loop-link : goal.invariant-loop-link
invariant-loop-link l = record {
  grows : Extends l.fn.self.places l.self.places;
  rows : (p : Path) → slice_get l.fn.self.places.paths l.scope.path ≡ Some p → Leads l.fn.self l.self (link_rows p l.scope.wires.now l.links) (link_rows p l.scope.wires.now (drop l.link-index l.links));
}
