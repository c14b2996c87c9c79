use Rattle.std.proofs.Common.{[]}
use Rattle.rtl_ir.specs.Types.{table_ports}
use Rattle.process_trees.specs.Tables.{links_alone}
use Rattle.process_trees.proofs.tables.EventTests.follow.Goals as goal

pub returns : goal.returns
returns c = record { value = λ links are. c.follow.ensures.value (table_ports []) (links_alone links) are.index }
