-- The values settle, and each change leaves fewer that are x.
use Rattle.std.proofs.Common.{◌≡◌, List, length}
use Rattle.rtl_ir.specs.Flat.Place.{Place}
use Rattle.flat_net.specs.Within.{ArePartsWithin}
use Rattle.sim_eval.specs.Advance.{unknowns}
use Rattle.sim_eval.specs.Agenda.{IsSettling}
use Rattle.sim_eval.specs.Moment.{IsBoard, time_of}
use Rattle.sim_eval.proofs.settle.settle_all.Given as goal

abbrev pub invariant-loop : goal.invariant-loop
invariant-loop l = record {
  sized : length l.agenda.marks.items ≡ length l.parts;
  settling : (ps : List Place) → IsBoard ps l.moment l.fn.now → ArePartsWithin (length ps) l.parts → IsSettling ps (time_of ps l.moment) l.parts l.fn.agenda l.fn.now → IsSettling ps (time_of ps l.moment) l.parts l.agenda l.now;
}

abbrev pub decreases-loop : goal.decreases-loop
decreases-loop l = unknowns l.now
