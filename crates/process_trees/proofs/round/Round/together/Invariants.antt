-- With the sources that are left the value comes to what all do.
use Rattle.std.proofs.Common.{◌≡◌, List, drop}
use Rattle.rtl_sig.specs.declared.sig.WireBit.{WireBit}
use Rattle.process_trees.specs.Leaves.{joined_over, sources_summary}
use Rattle.process_trees.specs.Numbers.{AreNumbers}
use Rattle.process_trees.specs.Rounds.{leaf_summary}
use Rattle.process_trees.proofs.round.Round.together.Given as goal

abbrev pub invariant-loop-at : goal.invariant-loop-at
invariant-loop-at l =
    (bits : List WireBit) → AreNumbers l.self.numbers.now bits
    → joined_over (leaf_summary l.self.asked bits l.self.summaries.now) l.value (drop l.at l.sources) ≡ sources_summary (leaf_summary l.self.asked bits l.self.summaries.now) l.sources
