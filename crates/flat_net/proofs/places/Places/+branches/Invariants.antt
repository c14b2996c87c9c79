-- What is made so far is what was passed so far.
use Rattle.std.proofs.Common.{◌≡◌, ◌<◌, Some, length, slice_get, take}
use Rattle.rtl_ir.specs.Faults.TwoEdges.{SwitchTest}
use Rattle.rtl_ir.specs.Flat.Place.{Path}
use Rattle.flat_net.specs.Known.{Extends}
use Rattle.flat_net.specs.Resets.{IsTest}
use Rattle.flat_net.specs.Trees.{AreBranches, AreChoices}
use Rattle.flat_net.proofs.places.Places.+branches.Given as goal

abbrev pub invariant-branch-loop-switch : goal.invariant-branch-loop-switch
invariant-branch-loop-switch l = record {
  grows : Extends l.initial.self l.self;
  inside : l.scope.path < length l.self.paths;
  made : (p : Path) → slice_get l.fn.self.paths l.scope.path ≡ Some p → (test : SwitchTest) → IsTest l.reset test → AreChoices l.self.places test p l.scope.wires.now l.bits l.choices.items (take l.switch-index l.switch-items);
}

abbrev pub invariant-choice-loop-case : goal.invariant-choice-loop-case
invariant-choice-loop-case l = record {
  grows : Extends l.initial.self l.self;
  inside : l.scope.path < length l.self.paths;
  made : (p : Path) → slice_get l.fn.self.paths l.scope.path ≡ Some p → (test : SwitchTest) → IsTest l.reset test → AreBranches l.self.places test p l.scope.wires.now l.bits l.branches.items (take l.case-index l.case-items);
}
