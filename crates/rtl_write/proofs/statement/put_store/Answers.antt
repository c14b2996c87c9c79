use Rattle.std.proofs.Common.{rules, append_assoc}
use Rattle.std.proofs.lemmas.Result.{IfOk-equal}
use Rattle.rtl_write.specs.Text.{store_text}
use Rattle.rtl_write.proofs.statement.put_store.Goals as goal

pub returns : goal.returns
unfolding store_text
returns c = record { ok = search (rules, IfOk-equal, append_assoc) }
