-- What is left of the way leads where the whole way does, and the cells so far are passed.
use Rattle.std.proofs.Common.{◌≡◌, ◌-◌, List, length}
use Rattle.rtl_ir.specs.declared.cell.Cell.{Cell}
use Rattle.rtl_ir.specs.declared.module.Link.{Link}
use Rattle.net_alias.specs.Aliases.{IsAliases}
use Rattle.opt_expr.specs.Places.{ArePlaces}
use Rattle.opt_more.specs.Ends.{AreEnds}
use Rattle.opt_more.specs.Muxtree.{arm_end, walked}
use Rattle.opt_more.specs.Turns.{slots_with}
use Rattle.opt_more.proofs.Learning.{HasPassed}
use Rattle.opt_more.proofs.muxes.arm_end.Given as goal

abbrev pub invariant-loop-step : goal.invariant-loop-step
invariant-loop-step l = record {
  word : (cells : List Cell) (links : List Link) → ArePlaces l.turn.others.now.places.now cells → IsAliases l.fn.aliases links → AreEnds l.fn.arm cells (slots_with l.turn.others.now l.turn.cell.now) links → walked l.fn.arm.name cells (slots_with l.turn.others.now l.turn.cell.now) links l.turn.cell.now (length (slots_with l.turn.others.now l.turn.cell.now) - l.step) l.word ≡ arm_end l.fn.arm.name cells (slots_with l.turn.others.now l.turn.cell.now) links l.turn.cell.now;
  passed : (cells : List Cell) (links : List Link) → ArePlaces l.turn.others.now.places.now cells → IsAliases l.fn.aliases links → AreEnds l.fn.arm cells (slots_with l.turn.others.now l.turn.cell.now) links → HasPassed l.fn.arm.name cells (slots_with l.turn.others.now l.turn.cell.now) links l.turn.cell.now l.passed.items l.word;
  long : length l.passed.items ≡ l.step;
  same : l.arm ≡ l.fn.arm;
  keeps : (links : List Link) → IsAliases l.fn.aliases links → IsAliases l.aliases links;
}
