-- The numbers so far are those of the words so far.
use Rattle.std.proofs.Common.{◌≡◌, Some, map, slice_get}
use Rattle.std.specs.Prelude.{nat_abs}
use Rattle.std.specs.List.{range_with_len}
use Rattle.rtl_ir.specs.Flat.Place.{Path, word_place}
use Rattle.flat_net.specs.Known.{Extends}
use Rattle.flat_net.specs.Reads.{AreNumbers}
use Rattle.flat_net.proofs.places.Places.column.Given as goal

abbrev pub invariant-loop-word : goal.invariant-loop-word
invariant-loop-word l = record {
  grows : Extends l.fn.self l.self;
  made : (p : Path) → slice_get l.fn.self.paths l.scope.path ≡ Some p → AreNumbers l.self.places l.numbers.items (map (λ address. word_place p l.store.name address l.at) (range_with_len (nat_abs l.store.offset) l.word));
}
