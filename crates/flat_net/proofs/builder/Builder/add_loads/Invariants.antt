-- The rows so far are those of the places so far.
use Rattle.std.proofs.Common.{◌≡◌, List, Some, drop, map, slice_get}
use Rattle.rtl_bits.specs.declared.bit.Bit.{Bit}
use Rattle.rtl_sig.specs.declared.sig.SigBit.{SigBit}
use Rattle.rtl_ir.specs.Flat.Place.{Path}
use Rattle.rtl_ir.specs.Flat.Process.{Trigger, loaded_row}
use Rattle.rtl_ir.specs.Follow.{source_at}
use Rattle.rtl_ir.specs.declared.follow.Join.{Join}
use Rattle.flat_net.specs.Known.{Extends}
use Rattle.flat_net.specs.Registers.{IsControl}
use Rattle.rtl_ir.specs.Sources.{AreSources}
use Rattle.flat_net.specs.Starts.{IsStart}
use Rattle.flat_net.proofs.Adding.{Leads}
use Rattle.flat_net.proofs.builder.Builder.add_loads.Given as goal

abbrev pub invariant-loop-line : goal.invariant-loop-line
invariant-loop-line l = record {
  grows : Extends l.fn.self.places l.self.places;
  rows : (p : Path) → slice_get l.fn.self.places.paths l.scope.path ≡ Some p → (start : SigBit → Bit) → IsStart l.scope.starts.now start
      → (e t : Trigger) → IsControl l.fn.self.places.places p l.scope.wires.now l.clock e → IsControl l.fn.self.places.places p l.scope.wires.now l.load t → (levels : List Join) → AreSources l.loads levels
      → Leads l.fn.self l.self (map (λ (j : Join). loaded_row start p l.scope.wires.now e t (source_at levels j.bit) j) l.lines)
      (map (λ (j : Join). loaded_row start p l.scope.wires.now e t (source_at levels j.bit) j) (drop l.line-index l.lines));
}
