-- The modules with the edits so far are placed and counted.
use Rattle.design_edit.proofs.Editing.{AreCounted}
use Rattle.design_edit.proofs.placement.edited_count.Given as goal

abbrev pub invariant-loop-edit : goal.invariant-loop-edit
invariant-loop-edit l = AreCounted l.modules l.edits l.edit-index l.table l.count
