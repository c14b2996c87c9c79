use Rattle.rtl_write.proofs.PortTableLemmas.{readable_table}
use Rattle.rtl_write.proofs.laws.tables_of_readable_designs.Goals as goal

pub returns : goal.returns
returns c = readable_table
