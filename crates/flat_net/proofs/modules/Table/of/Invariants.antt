-- The table has the modules from the place on.
use Rattle.std.proofs.Common.{ℕ, List, drop}
use Rattle.rtl_ir.specs.Flat.Tree.{named}
use Rattle.net_index.specs.Types.{at_name}
use Rattle.flat_net.specs.Tables.{Stands}
use Rattle.flat_net.proofs.modules.Table.of.Given as goal

abbrev pub invariant-loop-at : goal.invariant-loop-at
invariant-loop-at l = (name : List ℕ) → Stands (at_name l.found name) (named (drop l.at l.modules) name)
