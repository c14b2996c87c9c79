-- The bits so far, and those of the places that are left, are all.
use Rattle.std.proofs.Common.{◌≡◌, ◌++◌, drop}
use Rattle.proc_mux.specs.Givens.{unknowns}
use Rattle.proc_mux.proofs.given.unknowns.Given as goal

abbrev pub invariant-loop : goal.invariant-loop
invariant-loop l = l.bits ++ unknowns (drop l.index l.run) ≡ unknowns l.run
