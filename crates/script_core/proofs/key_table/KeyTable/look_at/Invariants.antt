-- The cells so far were looked at.
use Rattle.std.proofs.Common.{take}
use Rattle.script_core.specs.Searching.{Looks}
use Rattle.script_core.proofs.key_table.KeyTable.look_at.Given as goal

abbrev pub invariant-loop-cell : goal.invariant-loop-cell
invariant-loop-cell l = Looks l.self.modules.now l.fn.search l.search (take l.cell-index l.cells)
