-- The signals so far and those of the cells that are left are all.
use Rattle.std.proofs.Common.{◌≡◌, ◌++◌, drop, flat_map}
use Rattle.rtl_ir.specs.Types.{Ports}
use Rattle.net_index.specs.Types.{AreTypes}
use Rattle.proc_reset.specs.Reads.{cell_signals}
use Rattle.proc_reset.proofs.signals.put_cells.Given as goal

abbrev pub invariant-loop-cell : goal.invariant-loop-cell
invariant-loop-cell l =
    (ports : Ports) → AreTypes l.types ports
    → l.signals.items ++ flat_map (cell_signals ports) (drop l.cell-index l.cells) ≡ l.fn.signals.items ++ flat_map (cell_signals ports) l.cells
