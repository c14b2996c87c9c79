-- The visits so far and those of the cells that are left are the whole sweep; until a change is told, each cell and connection is as at first.
use Rattle.std.proofs.Common.{◌≡◌, [], ◌++◌, map, true, Some, length}
use Rattle.rtl_ir.specs.Types as rtl
use Rattle.net_alias.specs.Aliases.{IsAliases}
use Rattle.net_index.specs.Types.{AreTypes}
use Rattle.opt_expr.specs.Sweep.{swept}
use Rattle.opt_expr.proofs.sweep.visit_all.Given as goal

abbrev pub invariant-loop-cell : goal.invariant-loop-cell
invariant-loop-cell l = record {
  so_far : (ports : rtl.Ports) → AreTypes l.types ports → swept ports l.fn.cells.items l.done.items l.rest.items l.links ≡ swept ports l.fn.cells.items [] l.fn.cells.items l.fn.links;
  aliases : IsAliases l.aliases l.links;
  same : l.is_same ≡ true → (l.done.items ++ map Some l.rest.items ≡ map Some l.fn.cells.items) × (l.links ≡ l.fn.links);
}

-- each turn takes a cell
abbrev pub decreases-loop-cell : goal.decreases-loop-cell
decreases-loop-cell l = length l.rest.items
