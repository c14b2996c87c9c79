-- The places so far and those that are left are all.
use Rattle.std.proofs.Common.{◌≡◌, ◌++◌, List, drop}
use Rattle.rtl_sig.specs.declared.sig.WireBit.{WireBit}
use Rattle.rtl_ir.specs.Follow.{joins}
use Rattle.rtl_ir.specs.Tree.{CaseView}
use Rattle.net_model.specs.Proc.Reset.{reset_places}
use Rattle.process_trees.specs.Rounds.{AreLeaves}
use Rattle.proc_reset.specs.Places.{joins_of, leaves_at}
use Rattle.proc_reset.proofs.places.places_of.Given as goal

abbrev pub invariant-loop-at : goal.invariant-loop-at
invariant-loop-at l =
    (root : CaseView) (bits : List WireBit) → AreLeaves l.leaves root bits
    → joins_of l.places.items ++ reset_places (leaves_at root bits) (joins (drop l.at l.left) (drop l.at l.right)) ≡ reset_places (leaves_at root bits) (joins l.left l.right)
