use Rattle.std.proofs.Common.{◌+◌, ◌*◌}
use Rattle.mem_map.proofs.reads.+tree.Given as goal

-- a walk goes down bit by bit
abbrev pub decreases-read_tree : goal.decreases-read_tree
decreases-read_tree l = 2 * l.bits

abbrev pub decreases-high_half : goal.decreases-high_half
decreases-high_half l = 2 * l.bits + 1
