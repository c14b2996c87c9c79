use Rattle.std.proofs.Common.{◌≡◌, ◌-◌, ◌<◌, length}
use Rattle.synth_run.proofs.Holding.{Stands}
use Rattle.synth_run.proofs.session.Session.answer_all.Given as goal

-- so many bytes were taken, and the commands whose last lines ended in them were answered
abbrev pub invariant-loop-count : goal.invariant-loop-count
invariant-loop-count g l = record {
  stands :
      Stands l.fn.self l.self (g.S.Source.left l.fn.source) (g.S.Source.left l.source) (g.K.Sink.held l.fn.sink) (g.K.Sink.held l.sink) l.taken
      l.fn.meter l.meter;
  piece : 0 < length l.piece;
  source : g.S.Source.faults l.source ≡ g.S.Source.faults l.fn.source;
  sink : g.K.Sink.faults l.sink ≡ g.K.Sink.faults l.fn.sink;
}

abbrev pub decreases-loop-count : goal.decreases-loop-count
decreases-loop-count g l = 67108864 - l.taken
