-- The outputs so far were given their values.
use Rattle.std.proofs.Common.{◌≡◌, ◌<◌, List, length, map, take}
use Rattle.std.specs.List.{AllByRecursion}
use Rattle.rtl_ir.specs.Flat.Place.{Place}
use Rattle.flat_net.specs.declared.net.Output.{Output}
use Rattle.flat_net.specs.Points.{AreApart}
use Rattle.sim_eval.specs.Advance.{AreFewer, Takes, output_fact}
use Rattle.sim_eval.proofs.cell.put_all.Given as goal

abbrev pub invariant-loop-output : goal.invariant-loop-output
invariant-loop-output l = record {
  fewer : AreFewer l.fn.now l.now l.changed;
  takes : (ps : List Place) → AreApart ps → length ps ≡ length l.fn.now → AllByRecursion (λ (o : Output). o.number < length ps) l.outputs → Takes ps (map (output_fact ps l.worked) (take l.output-index l.outputs)) l.fn.now l.now l.changed;
}
