use Rattle.std.proofs.Common.{◌≡◌, length}
use Rattle.synth_run.proofs.Going.{Goes}
use Rattle.synth_run.proofs.session.Session.take_bytes.Given as goal

-- the lines that have ended so far were taken
abbrev pub invariant-loop-front : goal.invariant-loop-front
invariant-loop-front g l = record {
  goes : Goes l.fn.self l.bytes l.self l.left (g.K.Sink.held l.fn.sink) (g.K.Sink.held l.sink) l.fn.meter l.meter;
  same : g.K.Sink.faults l.sink ≡ g.K.Sink.faults l.fn.sink;
}

abbrev pub decreases-loop-front : goal.decreases-loop-front
decreases-loop-front g l = length l.left
