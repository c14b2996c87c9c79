-- The words so far are those of the signals so far.
use Rattle.std.proofs.Common.{◌≡◌, Some, slice_get, take}
use Rattle.rtl_ir.specs.Flat.Place.{Path}
use Rattle.flat_net.specs.Known.{Extends}
use Rattle.flat_net.specs.Trees.{AreSignals}
use Rattle.flat_net.proofs.places.Places.signals.Given as goal

abbrev pub invariant-loop-signal : goal.invariant-loop-signal
invariant-loop-signal l = record {
  grows : Extends l.fn.self l.self;
  made : (p : Path) → slice_get l.fn.self.paths l.scope.path ≡ Some p → AreSignals l.self.places p l.scope.wires.now l.words.items (take l.signal-index l.signals);
}
