use Rattle.readable_passes.proofs.Latch.{latch_reads}
use Rattle.readable_passes.proofs.Mux.{mux_reads}
use Rattle.readable_passes.proofs.Reset.{reset_reads}
use Rattle.readable_passes.proofs.Tree.{tree_reads}
use Rattle.readable_passes.proofs.laws.steps_of_proc_are_readable.Goals as goal

pub returns : goal.returns
returns c = record { ruled = tree_reads; levels = reset_reads; latched = latch_reads; chosen = mux_reads }
