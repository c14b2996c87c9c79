-- Each of the pins so far is a port.
use Rattle.std.proofs.Common.{◌≡◌, List, drop}
use Rattle.std.specs.List.{list_any}
use Rattle.rtl_ir.specs.declared.ports.PortLine.{PortLine}
use Rattle.rtl_ir.specs.Faults.Cells as cells
use Rattle.net_index.specs.Types.{IsTable}
use Rattle.rtl_check.proofs.cells.lacks_port.Given as goal

abbrev pub invariant-loop-pin : goal.invariant-loop-pin
invariant-loop-pin l =
    (lines : List PortLine) → IsTable l.ports lines → list_any (cells.lacks_port lines) (drop l.pin-index l.pins) ≡ list_any (cells.lacks_port lines) l.pins
