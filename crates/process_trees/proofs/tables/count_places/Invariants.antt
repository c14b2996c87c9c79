-- The places so far and those of the connections that are left are all.
use Rattle.std.proofs.Common.{◌≡◌, ◌+◌, length, drop}
use Rattle.rtl_ir.specs.Follow.{all_joins}
use Rattle.process_trees.proofs.tables.count_places.Given as goal

abbrev pub invariant-loop-link : goal.invariant-loop-link
invariant-loop-link l = l.count + length (all_joins (drop l.link-index l.links)) ≡ length (all_joins l.links)
