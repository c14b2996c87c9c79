use Rattle.std.proofs.Common.{◌≡◌, ◌++◌, ◌∷◌, take, map}
use Rattle.std.specs.List.{flat_map}
use Rattle.rtl_write.specs.Signal.{run_text}
use Rattle.rtl_write.proofs.signal.put_braces.Given as goal

-- the runs so far are written
abbrev pub invariant-loop-run : goal.invariant-loop-run
invariant-loop-run l = l.out ≡ l.fn.out ++ 123 ∷ flat_map (λ run. 32 ∷ run_text l.wires run) (map (λ run. run.now) (take l.run-index l.runs))
