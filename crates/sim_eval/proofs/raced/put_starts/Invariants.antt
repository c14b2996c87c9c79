-- The bits so far were given their start values.
use Rattle.std.proofs.Common.{◌≡◌, ◌<◌, List, length, map, take}
use Rattle.std.specs.List.{AllByRecursion}
use Rattle.rtl_ir.specs.Flat.Place.{Place}
use Rattle.flat_net.specs.declared.leaves.HeldBit.{HeldBit}
use Rattle.flat_net.specs.Points.{AreApart}
use Rattle.sim_eval.specs.Advance.{AreFewer, Takes}
use Rattle.sim_eval.specs.Race.{start_fact}
use Rattle.sim_eval.proofs.raced.put_starts.Given as goal

abbrev pub invariant-loop-bit : goal.invariant-loop-bit
invariant-loop-bit l = record {
  fewer : AreFewer l.fn.now l.now l.changed;
  takes : (ps : List Place) → AreApart ps → length ps ≡ length l.fn.now → AllByRecursion (λ (b : HeldBit). b.number < length ps) l.bits → Takes ps (map (start_fact ps) (take l.bit-index l.bits)) l.fn.now l.now l.changed;
}
