use Rattle.rtl_ir.specs.Flat.Tree.{table_ports}
use Rattle.net_model.proofs.Composing.{RefinesOver_trans}
use Rattle.net_model.proofs.laws.passes_in_turn.Goals as goal

pub returns : goal.returns
returns c = record { refines = λ b c d table. RefinesOver_trans b c d (table_ports table) }
