use Rattle.readable_runs.proofs.Flat.{flat_script_reads}
use Rattle.readable_runs.proofs.Names.{short_named}
use Rattle.readable_runs.proofs.Scripts.{script_reads, word_reads}
use Rattle.readable_runs.proofs.laws.scripts_keep_readable_modules.Goals as goal

pub returns : goal.returns
returns c = record {
  word = λ table word m n given short is e. word_reads table word m n given (short_named m is short) is e;
  script = λ script table m n stage start short is e. script_reads script table m n stage start (short_named m is short) is e;
  flat = flat_script_reads;
}
