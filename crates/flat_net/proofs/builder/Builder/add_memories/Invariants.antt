-- The rows so far are those of the memories so far.
use Rattle.std.proofs.Common.{◌≡◌, Some, drop, slice_get}
use Rattle.rtl_ir.specs.Flat.Memory.{memories_rows}
use Rattle.rtl_ir.specs.Flat.Place.{Path}
use Rattle.flat_net.specs.Known.{Extends}
use Rattle.flat_net.proofs.Adding.{Leads}
use Rattle.flat_net.proofs.builder.Builder.add_memories.Given as goal

abbrev pub invariant-loop-at : goal.invariant-loop-at
invariant-loop-at l = record {
  grows : Extends l.fn.self.places l.self.places;
  rows : (p : Path) → slice_get l.fn.self.places.paths l.scope.path ≡ Some p
      → Leads l.fn.self l.self (memories_rows p l.scope.wires.now l.body.cells l.body.processes l.body.memories) (memories_rows p l.scope.wires.now l.body.cells l.body.processes (drop l.at l.body.memories));
}
