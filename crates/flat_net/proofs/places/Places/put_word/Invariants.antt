-- The bits so far are those of the word so far.
use Rattle.std.proofs.Common.{◌≡◌, ◌++◌, List, Some, slice_get, take}
use Rattle.rtl_ir.specs.Flat.Place.{Path}
use Rattle.flat_net.specs.Known.{Extends}
use Rattle.flat_net.specs.Memories.{AreBegins, Begins, word_begins}
use Rattle.flat_net.proofs.places.Places.put_word.Given as goal

abbrev pub invariant-loop-at : goal.invariant-loop-at
invariant-loop-at l = record {
  grows : Extends l.fn.self l.self;
  made : (p : Path) → slice_get l.fn.self.paths l.scope.path ≡ Some p → (they : List Begins) → AreBegins l.fn.self.places l.fn.bits.items they → AreBegins l.self.places l.bits.items (they ++ word_begins p l.name l.address 0 (take l.at l.word));
}
