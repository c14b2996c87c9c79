-- What is put so far is that of the rows so far.
use Rattle.std.proofs.Common.{◌≡◌, List, take}
use Rattle.rtl_sig.specs.declared.sig.WireBit.{WireBit}
use Rattle.process_trees.specs.Leaves.{rows_summaries}
use Rattle.process_trees.specs.Numbers.{AreNumbers}
use Rattle.process_trees.specs.Rounds.{leaf_summary}
use Rattle.process_trees.proofs.round.Round.next.Given as goal

abbrev pub invariant-loop-row : goal.invariant-loop-row
invariant-loop-row l =
    (bits : List WireBit) → AreNumbers l.self.numbers.now bits
    → l.next.items ≡ rows_summaries (leaf_summary l.self.asked bits l.self.summaries.now) (take l.row-index l.rows)
