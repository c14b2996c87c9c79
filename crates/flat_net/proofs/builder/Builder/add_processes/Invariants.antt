-- The rows so far are those of the processes so far.
use Rattle.std.proofs.Common.{◌≡◌, Some, drop, slice_get}
use Rattle.rtl_bits.specs.declared.bit.Bit.{Bit}
use Rattle.rtl_sig.specs.declared.sig.SigBit.{SigBit}
use Rattle.rtl_ir.specs.Flat.Place.{Path}
use Rattle.rtl_ir.specs.Flat.Process.{processes_rows}
use Rattle.flat_net.specs.Known.{Extends}
use Rattle.flat_net.specs.Starts.{IsStart}
use Rattle.flat_net.proofs.Adding.{Leads}
use Rattle.flat_net.proofs.builder.Builder.add_processes.Given as goal

abbrev pub invariant-loop-process : goal.invariant-loop-process
invariant-loop-process l = record {
  grows : Extends l.fn.self.places l.self.places;
  rows : (p : Path) → slice_get l.fn.self.places.paths l.scope.path ≡ Some p → (start : SigBit → Bit) → IsStart l.scope.starts.now start
      → Leads l.fn.self l.self (processes_rows start p l.scope.wires.now l.body l.processes) (processes_rows start p l.scope.wires.now l.body (drop l.process-index l.processes));
}
