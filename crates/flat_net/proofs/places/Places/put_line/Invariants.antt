-- Behind the assigns stand those of the places so far.
use Rattle.std.proofs.Common.{◌≡◌, ◌++◌, List, Some, slice_get, take}
use Rattle.rtl_ir.specs.Faults.TwoEdges.{SwitchTest}
use Rattle.rtl_ir.specs.Flat.Place.{Path}
use Rattle.rtl_ir.specs.Follow.{joins}
use Rattle.rtl_ir.specs.declared.follow.Join.{Join}
use Rattle.flat_net.specs.Known.{Extends}
use Rattle.flat_net.specs.Trees.{AreAssigns}
use Rattle.flat_net.proofs.places.Places.put_line.Given as goal

abbrev pub invariant-loop-at : goal.invariant-loop-at
invariant-loop-at l = record {
  grows : Extends l.fn.self l.self;
  made : (p : Path) → slice_get l.fn.self.paths l.scope.path ≡ Some p → (test : SwitchTest) (js : List Join) → AreAssigns l.fn.self.places test p l.scope.wires.now l.bits l.fn.assigns.items js
      → AreAssigns l.self.places test p l.scope.wires.now l.bits l.assigns.items (js ++ joins (take l.at l.left) (take l.at l.right));
}
