-- The bits so far are those of the places so far.
use Rattle.std.proofs.Common.{◌≡◌, Some, slice_get, take}
use Rattle.rtl_bits.specs.declared.bit.Bit.{Bit}
use Rattle.rtl_sig.specs.declared.sig.SigBit.{SigBit}
use Rattle.rtl_ir.specs.Flat.Driver.{StorePoints}
use Rattle.rtl_ir.specs.Flat.Place.{Path}
use Rattle.flat_net.specs.Known.{Extends}
use Rattle.flat_net.specs.Reads.{ArePins}
use Rattle.flat_net.specs.Registers.{AreRegisters}
use Rattle.flat_net.specs.Starts.{IsStart}
use Rattle.flat_net.proofs.places.Places.registers.Given as goal

abbrev pub invariant-loop-line : goal.invariant-loop-line
invariant-loop-line l = record {
  grows : Extends l.fn.self l.self;
  made : (p : Path) → slice_get l.fn.self.paths l.scope.path ≡ Some p → (start : SigBit → Bit) → IsStart l.scope.starts.now start → (they : StorePoints) → ArePins l.fn.self.places l.register.pins they
      → AreRegisters l.self.places start p l.scope.wires.now l.register they l.bits.items (take l.line-index l.lines);
}
