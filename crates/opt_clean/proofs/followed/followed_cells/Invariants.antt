-- The cells so far and those that are left, followed, are all; until a change is told, they are the cells.
use Rattle.std.proofs.Common.{◌≡◌, ◌++◌, map, true}
use Rattle.rtl_ir.specs.declared.module.Module.{Module}
use Rattle.rtl_ir.specs.Types.{Ports}
use Rattle.net_index.specs.Drivers.{AreDrivers}
use Rattle.net_index.specs.Types.{AreTypes}
use Rattle.follow_laws.specs.Inputs.{followed_cell}
use Rattle.opt_clean.proofs.followed.followed_cells.Given as goal

abbrev pub invariant-loop-cell : goal.invariant-loop-cell
invariant-loop-cell l = record {
  all : (ports : Ports) (m : Module) → AreTypes l.types ports → AreDrivers l.index ports m → l.found.items ++ map (followed_cell ports m.links) l.cell-iterator.rest.items ≡ map (followed_cell ports m.links) l.fn.cells.items;
  same : l.is_same ≡ true → l.found.items ++ l.cell-iterator.rest.items ≡ l.fn.cells.items;
}
