use Rattle.std.proofs.Common.{[], ◌∙◌}
use Rattle.rtl_ir.specs.Types.{table_ports}
use Rattle.process_trees.specs.Tables.{links_alone}
use Rattle.process_trees.proofs.Ways.{link_back}
use Rattle.process_trees.proofs.tables.EventTests.source.Goals as goal

pub returns : goal.returns
returns c = record { value = λ links are. c.linked.ensures.value ∙ link_back links c.args.bit c.driver.result (c.driver.ensures.value (table_ports []) (links_alone links) are.index) }
