-- The ends so far are known.
use Rattle.std.proofs.Common.{◌≡◌, ℕ, ◌+◌, ◌-◌, ◌<◌, ◌≤◌, List, Option, length}
use Rattle.std.specs.Prelude.{slice_index_or}
use Rattle.std.specs.Arc.{arc_value}
use Rattle.rtl_ir.specs.declared.cell.Cell.{Cell}
use Rattle.rtl_ir.specs.declared.module.Link.{Link}
use Rattle.opt_more.specs.Ends.{AreEnds, IsKnown}
use Rattle.opt_more.proofs.ends.Arm.learn.Given as goal

abbrev pub invariant-loop-back : goal.invariant-loop-back
invariant-loop-back l = record {
  name : l.self.name ≡ l.fn.self.name;
  ends : (cells : List Cell) (slots : List (Option Cell)) (links : List Link) → AreEnds l.fn.self cells slots links → l.steps + length l.passed ≤ length slots → ((back : ℕ) → back < length l.passed → IsKnown l.fn.self.name cells slots links (slice_index_or l.passed (length l.passed - 1 - back) 0) (l.steps + back) (arc_value l.word)) → AreEnds l.self cells slots links;
}
