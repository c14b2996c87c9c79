-- The visits so far and those of the cells that are left are the whole sweep, and what is known of ways is so.
use Rattle.std.proofs.Common.{◌≡◌, List, [], ◌++◌, length, map, Some}
use Rattle.rtl_ir.specs.Types.{table_ports}
use Rattle.rtl_ir.specs.declared.module.Link.{Link}
use Rattle.net_alias.specs.Aliases.{IsAliases}
use Rattle.opt_more.specs.Ends.{AreArms}
use Rattle.opt_more.specs.Muxtree.{muxtree_visit}
use Rattle.opt_more.specs.Sweep.{swept_by}
use Rattle.opt_more.proofs.trees.visit_trees.Given as goal

abbrev pub invariant-loop-cell : goal.invariant-loop-cell
invariant-loop-cell l = record {
  so_far : (links : List Link) → IsAliases l.fn.aliases links → swept_by (muxtree_visit (table_ports l.ports.modules) l.fn.cells.items) l.done.items l.rest.items links ≡ swept_by (muxtree_visit (table_ports l.ports.modules) l.fn.cells.items) [] l.fn.cells.items links;
  aliases : (links : List Link) → IsAliases l.fn.aliases links → IsAliases l.aliases links;
  arms : (links : List Link) → IsAliases l.fn.aliases links → AreArms l.arms l.fn.cells.items (l.done.items ++ map Some l.rest.items) links;
}

-- each turn takes a cell
abbrev pub decreases-loop-cell : goal.decreases-loop-cell
decreases-loop-cell l = length l.rest.items
