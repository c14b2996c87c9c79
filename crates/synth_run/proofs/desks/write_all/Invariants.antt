use Rattle.std.proofs.Common.{◌≡◌, drop}
use Rattle.synth_run.proofs.Written.{Written}
use Rattle.synth_run.proofs.desks.write_all.Given as goal

-- the replies to the parts so far were written
abbrev pub invariant-loop-part : goal.invariant-loop-part
invariant-loop-part g l = record {
  written : Written l.parts l.answers l.writer (drop l.part-index l.parts) (g.K.Sink.held l.fn.sink) (g.K.Sink.held l.sink);
  same : g.K.Sink.faults l.sink ≡ g.K.Sink.faults l.fn.sink;
}
