-- The bits so far are those of the places so far.
use Rattle.std.proofs.Common.{◌≡◌, Some, slice_get, take}
use Rattle.rtl_bits.specs.declared.bit.Bit.{Bit}
use Rattle.rtl_sig.specs.declared.sig.SigBit.{SigBit}
use Rattle.rtl_ir.specs.Flat.Place.{Path}
use Rattle.flat_net.specs.Known.{Extends}
use Rattle.flat_net.specs.Sources.{AreHeldBits}
use Rattle.flat_net.specs.Starts.{IsStart}
use Rattle.flat_net.proofs.places.Places.held_bits.Given as goal

abbrev pub invariant-loop-line : goal.invariant-loop-line
invariant-loop-line l = record {
  grows : Extends l.fn.self l.self;
  made : (p : Path) → slice_get l.fn.self.paths l.scope.path ≡ Some p → (start : SigBit → Bit) → IsStart l.scope.starts.now start
      → AreHeldBits l.self.places start p l.scope.wires.now l.bits l.held.items (take l.line-index l.lines);
}
