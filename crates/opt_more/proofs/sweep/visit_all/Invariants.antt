-- The visits so far and those of the cells that are left are the whole sweep.
use Rattle.std.proofs.Common.{◌≡◌, List, [], length}
use Rattle.rtl_ir.specs.Types as rtl
use Rattle.rtl_ir.specs.declared.wire.Wire.{Wire}
use Rattle.net_alias.specs.Aliases.{IsAliases}
use Rattle.net_index.specs.Types.{AreTypes}
use Rattle.opt_more.specs.Sweep.{swept_by}
use Rattle.rtl_ir.specs.Starts.{inits_of}
use Rattle.opt_more.specs.Visits.{visit_by}
use Rattle.opt_more.proofs.sweep.visit_all.Given as goal

abbrev pub invariant-loop-cell : goal.invariant-loop-cell
invariant-loop-cell l = record {
  so_far : (ports : rtl.Ports) (wires : List Wire) → AreTypes l.by.types.now ports → l.by.inits.now ≡ inits_of wires → swept_by (visit_by l.by.pass ports wires l.fn.cells.items) l.done.items l.rest.items l.links ≡ swept_by (visit_by l.by.pass ports wires l.fn.cells.items) [] l.fn.cells.items l.fn.links;
  aliases : IsAliases l.aliases l.links;
}

-- each turn takes a cell
abbrev pub decreases-loop-cell : goal.decreases-loop-cell
decreases-loop-cell l = length l.rest.items
