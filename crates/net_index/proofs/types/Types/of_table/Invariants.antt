-- The tables are those of the modules from the place on.
use Rattle.std.proofs.Common.{ℕ, List, drop}
use Rattle.rtl_ir.specs.Types.{table_ports}
use Rattle.net_index.specs.Types.{Stands, at_name}
use Rattle.net_index.proofs.types.Types.of_table.Given as goal

abbrev pub invariant-loop-at : goal.invariant-loop-at
invariant-loop-at l = (name : List ℕ) → Stands (at_name l.found name) (table_ports (drop l.at l.modules) name)
