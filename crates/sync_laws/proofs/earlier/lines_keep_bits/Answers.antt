use Rattle.sync_laws.proofs.Kept.{latch_keeps, reset_keeps, tree_keeps}
use Rattle.sync_laws.proofs.earlier.lines_keep_bits.Goals as goal

pub returns : goal.returns
returns c = record { trees = tree_keeps; resets = reset_keeps; latches = latch_keeps }
