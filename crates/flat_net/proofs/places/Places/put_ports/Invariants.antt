-- The ports so far are those of the plan so far.
use Rattle.std.proofs.Common.{◌≡◌, ◌++◌, List, Some, map, slice_get, take}
use Rattle.rtl_ir.specs.Flat.Place.{Path}
use Rattle.flat_net.specs.Known.{Extends}
use Rattle.flat_net.specs.Memories.{ArePorts, port_in}
use Rattle.flat_net.specs.Words.{Ported}
use Rattle.flat_net.proofs.places.Places.put_ports.Given as goal

abbrev pub invariant-loop-write : goal.invariant-loop-write
invariant-loop-write l = record {
  grows : Extends l.fn.self l.self;
  made : (p : Path) → slice_get l.fn.self.paths l.scope.path ≡ Some p → (they : List Ported) → ArePorts l.fn.self.places l.fn.ports.items they → ArePorts l.self.places l.ports.items (they ++ map (port_in p l.scope.wires.now) (take l.write-index l.writes));
}
