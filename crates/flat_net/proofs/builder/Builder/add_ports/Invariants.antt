-- The rows so far are those of the ports so far.
use Rattle.std.proofs.Common.{◌≡◌, ◌∷◌, Some, slice_get, drop, map}
use Rattle.rtl_ir.specs.Flat.Cell.{instance_rows}
use Rattle.rtl_ir.specs.Flat.Place.{Frame, Path}
use Rattle.rtl_ir.specs.Ports.{line_of}
use Rattle.flat_net.specs.Known.{Extends}
use Rattle.flat_net.specs.Tables.{all_now}
use Rattle.flat_net.proofs.Adding.{Leads}
use Rattle.flat_net.proofs.builder.Builder.add_ports.Given as goal

abbrev pub invariant-loop-port : goal.invariant-loop-port
invariant-loop-port l = record {
  grows : Extends l.fn.self.places l.self.places;
  rows : (p : Path) → slice_get l.fn.self.places.paths l.scope.path ≡ Some p → (f : Frame) → slice_get l.fn.self.places.paths l.inner ≡ Some (f ∷ p)
      → Leads l.fn.self l.self (instance_rows p l.scope.wires.now l.pins f (map line_of (all_now l.ports))) (instance_rows p l.scope.wires.now l.pins f (map line_of (all_now (drop l.port-index l.ports))));
}
