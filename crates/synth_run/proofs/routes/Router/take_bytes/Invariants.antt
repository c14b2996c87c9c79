use Rattle.std.proofs.Common.{length}
use Rattle.synth_run.specs.Routes.{IsRouter}
use Rattle.synth_run.proofs.Routed.{Routes}
use Rattle.synth_run.proofs.routes.Router.take_bytes.Given as goal

-- the lines that have ended so far were taken
abbrev pub invariant-loop-front : goal.invariant-loop-front
invariant-loop-front l = record {
  routes : Routes l.fn.self l.self l.bytes l.left;
  router : IsRouter l.self;
}

abbrev pub decreases-loop-front : goal.decreases-loop-front
decreases-loop-front l = length l.left
