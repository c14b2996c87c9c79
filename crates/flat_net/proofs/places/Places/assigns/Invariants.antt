-- The assigns so far are those of the lines so far.
use Rattle.std.proofs.Common.{◌≡◌, Some, slice_get, take}
use Rattle.rtl_ir.specs.Faults.TwoEdges.{SwitchTest}
use Rattle.rtl_ir.specs.Flat.Place.{Path}
use Rattle.rtl_ir.specs.Follow.{all_joins}
use Rattle.flat_net.specs.Known.{Extends}
use Rattle.flat_net.specs.Trees.{AreAssigns}
use Rattle.flat_net.proofs.places.Places.assigns.Given as goal

abbrev pub invariant-loop-line : goal.invariant-loop-line
invariant-loop-line l = record {
  grows : Extends l.fn.self l.self;
  made : (p : Path) → slice_get l.fn.self.paths l.scope.path ≡ Some p → (test : SwitchTest) → AreAssigns l.self.places test p l.scope.wires.now l.bits l.assigns.items (all_joins (take l.line-index l.lines));
}
