-- The rows so far are those of the places so far.
use Rattle.std.proofs.Common.{◌≡◌, Some, drop, map, slice_get}
use Rattle.std.specs.Prelude.{reverse}
use Rattle.rtl_bits.specs.declared.bit.Bit.{Bit}
use Rattle.rtl_sig.specs.declared.sig.SigBit.{SigBit}
use Rattle.rtl_ir.specs.Flat.Place.{Path}
use Rattle.rtl_ir.specs.Flat.Process.{always_row}
use Rattle.flat_net.specs.Known.{Extends}
use Rattle.flat_net.specs.Starts.{IsStart}
use Rattle.flat_net.proofs.Adding.{Leads}
use Rattle.flat_net.proofs.builder.Builder.add_always.Given as goal

abbrev pub invariant-loop-line : goal.invariant-loop-line
invariant-loop-line l = record {
  grows : Extends l.fn.self.places l.self.places;
  rows : (p : Path) → slice_get l.fn.self.places.paths l.scope.path ≡ Some p → (start : SigBit → Bit) → IsStart l.scope.starts.now start
      → Leads l.fn.self l.self (map (always_row start p l.scope.wires.now l.rooted.root (reverse l.rooted.bits)) l.lines)
      (map (always_row start p l.scope.wires.now l.rooted.root (reverse l.rooted.bits)) (drop l.line-index l.lines));
}
