-- The modules with the edits so far are placed and counted, and these have their places.
use Rattle.std.proofs.Common.{◌≡◌, ◌≤◌, take}
use Rattle.rtl_ir.specs.declared.limits.TheConstants.{MAX_MODULES}
use Rattle.design_edit.specs.Modules.{places_for}
use Rattle.design_edit.proofs.Editing.{AreCounted}
use Rattle.design_edit.proofs.placement.places_for.Given as goal

abbrev pub invariant-loop-at : goal.invariant-loop-at
invariant-loop-at l = record {
  counted : AreCounted l.modules l.edits l.at l.table l.count;
  few : l.count ≤ MAX_MODULES;
  placed : l.places.items ≡ places_for l.modules (take l.at l.edits);
}
