-- The cells at the places so far were put into the table.
use Rattle.std.proofs.Common.{take}
use Rattle.opt_merge.specs.Entries.{EntersPlaces, KeepsNotes}
use Rattle.opt_merge.specs.View.{StaysView}
use Rattle.opt_merge.proofs.entries.Entries.enter_places.Given as goal

abbrev pub invariant-loop-place : goal.invariant-loop-place
invariant-loop-place l = record {
  enters : EntersPlaces l.fn.self l.self l.cells (take l.place-index l.places);
  keeps : StaysView l.fn.self.view l.self.view;
  notes : KeepsNotes l.fn.self l.self;
}
