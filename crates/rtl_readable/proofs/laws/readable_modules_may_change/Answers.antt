use Rattle.rtl_readable.proofs.Changing.{recelled_reads}
use Rattle.rtl_readable.proofs.laws.readable_modules_may_change.Goals as goal

pub returns : goal.returns
returns c = record { readable = recelled_reads }
