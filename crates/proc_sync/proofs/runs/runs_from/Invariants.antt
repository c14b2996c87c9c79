-- The runs so far, and those of the places that are left behind the run that has begun, are all.
use Rattle.std.proofs.Common.{◌≡◌, ◌++◌, ◌∷◌, drop, length, map}
use Rattle.net_model.specs.Proc.Sync.{classed, classed_behind}
use Rattle.proc_sync.specs.Sources.{joins_in}
use Rattle.proc_sync.specs.Runs.{class_code, class_in, run_of}
use Rattle.proc_sync.proofs.runs.runs_from.Given as goal

abbrev pub invariant-loop-place : goal.invariant-loop-place
invariant-loop-place l =
    map run_of l.runs.items ++ classed_behind (class_in (joins_in l.sources) l.beside) (class_code l.class) l.run.items (length l.run.items) ((drop l.place-index l.rest))
    ≡ classed (class_in (joins_in l.sources) l.beside) ((l.fn.first ∷ l.rest))
