-- The edits so far took their places, and there is room for the others.
use Rattle.std.proofs.Common.{◌≡◌}
use Rattle.std.specs.Vec.{vec_capacity}
use Rattle.design_edit.proofs.Changing.{Putting}
use Rattle.design_edit.proofs.changes.put_all.Given as goal

abbrev pub invariant-loop-edit : goal.invariant-loop-edit
invariant-loop-edit l = record {
  putting : Putting l.fn.modules.items l.fn.edits.items l.number l.edit-iterator.rest.items l.modules.items l.changes.items;
  room : vec_capacity l.modules ≡ vec_capacity l.initial.modules;
  notes : vec_capacity l.changes ≡ vec_capacity l.initial.changes;
}
