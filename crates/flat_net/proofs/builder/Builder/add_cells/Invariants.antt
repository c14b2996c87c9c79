-- The rows so far are those of the cells so far.
use Rattle.std.proofs.Common.{◌≡◌, Some, slice_get, drop}
use Rattle.rtl_bits.specs.declared.bit.Bit.{Bit}
use Rattle.rtl_sig.specs.declared.sig.SigBit.{SigBit}
use Rattle.rtl_ir.specs.declared.module.Design.{Design}
use Rattle.rtl_ir.specs.Flat.Cell.{cells_rows}
use Rattle.rtl_ir.specs.Flat.Place.{Path}
use Rattle.rtl_ir.specs.Flat.Tree.{design_ports}
use Rattle.flat_net.specs.Known.{Extends}
use Rattle.flat_net.specs.Starts.{IsStart}
use Rattle.flat_net.specs.Tables.{IsTable}
use Rattle.flat_net.proofs.Adding.{Leads}
use Rattle.flat_net.proofs.builder.Builder.add_cells.Given as goal

abbrev pub invariant-loop-cell : goal.invariant-loop-cell
invariant-loop-cell l = record {
  grows : Extends l.fn.self.places l.self.places;
  rows : (p : Path) → slice_get l.fn.self.places.paths l.scope.path ≡ Some p → (d : Design) → IsTable l.table d.modules → (start : SigBit → Bit) → IsStart l.scope.starts.now start
      → Leads l.fn.self l.self (cells_rows start (design_ports d) p l.scope.wires.now l.cells) (cells_rows start (design_ports d) p l.scope.wires.now (drop l.cell-index l.cells));
}
