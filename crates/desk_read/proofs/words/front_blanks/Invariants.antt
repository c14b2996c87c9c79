use Rattle.std.proofs.Common.{◌≡◌, ◌+◌, ◌-◌, drop, length}
use Rattle.std.specs.List.{prefix_len}
use Rattle.desk_read.specs.Words.{is_blank}
use Rattle.desk_read.proofs.words.front_blanks.Given as goal

-- the blanks so far and those that are left are all
abbrev pub invariant-loop-count : goal.invariant-loop-count
invariant-loop-count l = l.count + prefix_len is_blank (drop l.count l.line) ≡ prefix_len is_blank l.line

abbrev pub decreases-loop-count : goal.decreases-loop-count
decreases-loop-count l = length l.line - l.count
