-- The connections so far and those that are left, by their new places, are all.
use Rattle.std.proofs.Common.{◌≡◌, ◌++◌, Bool, List, drop, map}
use Rattle.opt_clean.specs.Moving.{AreMoves}
use Rattle.opt_clean.specs.Wires.{moved_link}
use Rattle.opt_clean.proofs.wires.Moves.links.Given as goal

abbrev pub invariant-loop-link : goal.invariant-loop-link
invariant-loop-link l =
    (marks : List Bool) → AreMoves l.self marks
    → l.moved.items ++ map (moved_link marks) (drop l.link-index l.links) ≡ map (moved_link marks) l.links
