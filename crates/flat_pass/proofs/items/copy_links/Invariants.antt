-- The copies of the connections so far stand after what was there.
use Rattle.std.proofs.Common.{◌≡◌, ◌++◌, map, take}
use Rattle.flat_pass.specs.Copies.{copied_link}
use Rattle.flat_pass.proofs.items.copy_links.Given as goal

abbrev pub invariant-loop-link : goal.invariant-loop-link
invariant-loop-link l = l.links ≡ l.initial.links ++ map (copied_link l.first) (take l.link-index l.own)
