-- Parts that changed nothing are not to be evaluated.
use Rattle.std.proofs.Common.{◌≡◌, List, false, length}
use Rattle.rtl_ir.specs.Flat.Place.{Place}
use Rattle.flat_net.specs.Within.{ArePartsWithin}
use Rattle.sim_eval.specs.Advance.{AreFewer}
use Rattle.sim_eval.specs.Agenda.{IsSettling}
use Rattle.sim_eval.specs.Moment.{IsBoard, time_of}
use Rattle.sim_eval.proofs.settle.change.Given as goal

abbrev pub invariant-loop-place : goal.invariant-loop-place
invariant-loop-place l = record {
  sized : length l.agenda.marks.items ≡ length l.parts;
  fewer : AreFewer l.fn.now l.now false;
  settling : (ps : List Place) → IsBoard ps l.moment l.fn.now → ArePartsWithin (length ps) l.parts → IsSettling ps (time_of ps l.moment) l.parts l.fn.agenda l.fn.now → IsSettling ps (time_of ps l.moment) l.parts l.agenda l.now;
}

abbrev pub decreases-loop-place : goal.decreases-loop-place
decreases-loop-place l = length l.agenda.places.items
