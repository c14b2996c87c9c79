-- The wires of the bits of the cells so far are noted.
use Rattle.std.proofs.Common.{◌≡◌, drop}
use Rattle.std.specs.List.{flat_map}
use Rattle.opt_clean.specs.Moving.{noted}
use Rattle.opt_clean.specs.Wires.{cell_bits}
use Rattle.opt_clean.proofs.wires.note_cells.Given as goal

abbrev pub invariant-loop-cell : goal.invariant-loop-cell
invariant-loop-cell l =
    noted l.named.items (flat_map cell_bits (drop l.cell-index l.cells)) ≡ noted l.fn.named.items (flat_map cell_bits l.cells)
