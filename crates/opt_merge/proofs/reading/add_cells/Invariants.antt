-- The inputs of the cells so far are read.
use Rattle.std.proofs.Common.{◌≡◌, List, ℕ, ◌<◌, Some}
use Rattle.std.specs.Prelude.{slice_get}
use Rattle.rtl_ir.specs.declared.cell.Cell.{Cell}
use Rattle.rtl_ir.specs.declared.module.Link.{Link}
use Rattle.net_alias.specs.Aliases.{IsAliases}
use Rattle.opt_merge.specs.Reading.{ReadsCell}
use Rattle.opt_merge.proofs.reading.add_cells.Given as goal

abbrev pub invariant-loop-at : goal.invariant-loop-at
invariant-loop-at l = record {
  keeps : (links : List Link) → IsAliases l.fn.aliases links → IsAliases l.aliases links;
  reads : (links : List Link) → IsAliases l.fn.aliases links → (at : ℕ) (c : Cell) → at < l.at → slice_get l.cells at ≡ Some c → ReadsCell l.readers links at c;
}
