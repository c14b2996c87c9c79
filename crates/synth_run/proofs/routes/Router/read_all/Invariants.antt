use Rattle.std.proofs.Common.{◌≡◌, ◌-◌, ◌<◌, length}
use Rattle.synth_run.specs.Routes.{IsRouter}
use Rattle.synth_run.proofs.Routed.{Stands}
use Rattle.synth_run.proofs.routes.Router.read_all.Given as goal

-- so many bytes were taken, and the parts of the lines that ended in them are held
abbrev pub invariant-loop-count : goal.invariant-loop-count
invariant-loop-count g l = record {
  stands : Stands l.fn.self l.self (g.S.Source.left l.fn.source) (g.S.Source.left l.source) l.taken;
  router : IsRouter l.self;
  piece : 0 < length l.piece;
  source : g.S.Source.faults l.source ≡ g.S.Source.faults l.fn.source;
}

abbrev pub decreases-loop-count : goal.decreases-loop-count
decreases-loop-count g l = 67108864 - l.taken
