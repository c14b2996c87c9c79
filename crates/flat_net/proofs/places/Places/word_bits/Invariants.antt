-- The bits so far are those of the words so far.
use Rattle.std.proofs.Common.{◌≡◌, Some, slice_get, take}
use Rattle.rtl_ir.specs.Flat.Place.{Path}
use Rattle.flat_net.specs.Known.{Extends}
use Rattle.flat_net.specs.Memories.{AreBegins, words_begins}
use Rattle.flat_net.proofs.places.Places.word_bits.Given as goal

abbrev pub invariant-loop-at : goal.invariant-loop-at
invariant-loop-at l = record {
  grows : Extends l.fn.self l.self;
  made : (p : Path) → slice_get l.fn.self.paths l.scope.path ≡ Some p → AreBegins l.self.places l.bits.items (words_begins p l.name l.first (take l.at l.words));
}
