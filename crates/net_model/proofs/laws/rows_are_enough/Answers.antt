use Rattle.rtl_ir.specs.Flat.Tree.{table_ports}
use Rattle.net_model.proofs.Lifted.{lifted}
use Rattle.net_model.proofs.laws.rows_are_enough.Goals as goal

pub returns : goal.returns
returns c = record { refines = λ b d table. lifted b d (table_ports table) }
