use Rattle.std.proofs.Common.{◌≡◌, ◌<◌, ◌-◌, ◌∷◌, [], take, drop, map}
use Rattle.std.specs.Prelude.{reverse}
use Rattle.std.specs.List.{fold}
use Rattle.rtl_write.specs.Signal.{with_bit}
use Rattle.rtl_write.proofs.run.runs_in.Given as goal

-- the bits so far are cut into the runs so far, and the run that is open
abbrev pub invariant-loop-at : goal.invariant-loop-at
invariant-loop-at l = record {
  open_run : l.from < l.at;
  cut : fold with_bit [] (take l.at l.bits) ≡ take (l.at - l.from) (drop l.from l.bits) ∷ map (λ run. run.now) (reverse l.runs.items);
}
