use Rattle.std.proofs.Common.{rules, append_assoc}
use Rattle.std.proofs.lemmas.Result.{IfOk-equal}
use Rattle.rtl_write.specs.Text.{cell_text}
use Rattle.rtl_write.proofs.statement.put_cell.Goals as goal

pub returns : goal.returns
unfolding cell_text
returns c = record { ok = search (rules, IfOk-equal, append_assoc) }
