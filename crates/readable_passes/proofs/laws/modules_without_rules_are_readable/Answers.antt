use Rattle.readable_passes.proofs.Writes.{sync_reads}
use Rattle.readable_passes.proofs.laws.modules_without_rules_are_readable.Goals as goal

pub returns : goal.returns
returns c = record { stored = sync_reads }
