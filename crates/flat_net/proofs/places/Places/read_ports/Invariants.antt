-- The ports so far are those of the reads so far.
use Rattle.std.proofs.Common.{◌≡◌, Some, slice_get, take}
use Rattle.rtl_ir.specs.Flat.Place.{Path}
use Rattle.flat_net.specs.Known.{Extends}
use Rattle.flat_net.specs.Memories.{AreReadPorts}
use Rattle.flat_net.proofs.places.Places.read_ports.Given as goal

abbrev pub invariant-loop-read : goal.invariant-loop-read
invariant-loop-read l = record {
  grows : Extends l.fn.self l.self;
  made : (p : Path) → slice_get l.fn.self.paths l.scope.path ≡ Some p → AreReadPorts l.self.places p l.scope.wires.now l.ports.items (take l.read-index l.reads);
}
