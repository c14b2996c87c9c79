use Rattle.rtl_ir.specs.Flat.Tree.{table_ports}
use Rattle.net_model.proofs.Grown.{grown_refines}
use Rattle.net_model.proofs.laws.fresh_wires_change_nothing.Goals as goal

pub returns : goal.returns
returns c = record { refines = λ m fresh table. grown_refines m fresh (table_ports table) }
