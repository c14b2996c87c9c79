-- The bits so far are those from the place on, the last one first.
use Rattle.std.proofs.Common.{◌≡◌, Some, slice_get, drop}
use Rattle.std.specs.Prelude.{reverse}
use Rattle.rtl_ir.specs.Flat.Place.{Path}
use Rattle.flat_net.specs.Known.{Extends}
use Rattle.flat_net.specs.Trees.{AreOutputs}
use Rattle.flat_net.proofs.places.Places.tree_outputs.Given as goal

abbrev pub invariant-loop-at : goal.invariant-loop-at
invariant-loop-at l = record {
  grows : Extends l.fn.self l.self;
  made : (p : Path) → slice_get l.fn.self.paths l.scope.path ≡ Some p → AreOutputs l.self.places p l.scope.wires.now l.bits l.outputs.items (reverse (drop l.at l.bits));
}
