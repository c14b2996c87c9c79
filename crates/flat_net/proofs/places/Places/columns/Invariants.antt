-- The columns so far are those of the places so far.
use Rattle.std.proofs.Common.{◌≡◌, Some, slice_get}
use Rattle.rtl_ir.specs.Flat.Place.{Path}
use Rattle.flat_net.specs.Known.{Extends}
use Rattle.flat_net.specs.Memories.{AreColumns}
use Rattle.flat_net.proofs.places.Places.columns.Given as goal

abbrev pub invariant-loop-at : goal.invariant-loop-at
invariant-loop-at l = record {
  grows : Extends l.fn.self l.self;
  made : (p : Path) → slice_get l.fn.self.paths l.scope.path ≡ Some p → AreColumns l.self.places p l.store l.columns.items l.at;
}
