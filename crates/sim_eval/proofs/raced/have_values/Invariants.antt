-- All have values where those that are left have.
use Rattle.std.proofs.Common.{◌≡◌, drop}
use Rattle.std.specs.List.{list_all}
use Rattle.sim_eval.specs.Race.{held_has}
use Rattle.sim_eval.proofs.raced.have_values.Given as goal

abbrev pub invariant-loop-bit : goal.invariant-loop-bit
invariant-loop-bit l = list_all (held_has l.now) (drop l.bit-index l.bits) ≡ list_all (held_has l.now) l.bits
