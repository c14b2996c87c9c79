-- The rounds so far are those of as many expansions.
use Rattle.std.proofs.Common.{◌≡◌, ◌≤◌, List, length}
use Rattle.rtl_ir.specs.Flat.Place.{Place}
use Rattle.flat_net.specs.Points.{AreApart}
use Rattle.flat_net.specs.Within.{IsTreeWithin}
use Rattle.sim_eval.specs.Leaves.{AreExpanded, AreLeavesWithin}
use Rattle.sim_eval.proofs.expand.expanded_bits.Given as goal

abbrev pub invariant-loop-round : goal.invariant-loop-round
invariant-loop-round l = record {
  begun : 1 ≤ l._round;
  reached : (ps : List Place) → AreApart ps → length ps ≡ length l.values → AreLeavesWithin (length ps) l.leaves → IsTreeWithin (length ps) l.tree → AreExpanded ps l.values l.reset l.leaves l.tree.root l.tree.width l._round l.bits.items;
}
