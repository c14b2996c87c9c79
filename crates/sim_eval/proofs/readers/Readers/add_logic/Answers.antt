use Rattle.std.proofs.Common.{◌++◌, subst}
use Rattle.sim_eval.specs.Reads.{AddsReads}
use Rattle.sim_eval.proofs.AddingReads.{adds_more}
use Rattle.sim_eval.proofs.Taking.{on_ok_more}
use Rattle.sim_eval.proofs.readers.Readers.add_logic.Goals as goal

pub returns : goal.returns
returns c =
    let cell = c.args.cell.now in
    let place = c.args.place in
    let a = subst (λ z. AddsReads c.args.self.now c.add_points.new.self place z) c.as_slice.ensures.value c.in_ok-add_points.ensures.adds in
    let b = subst (λ z. AddsReads c.add_points.new.self c.add_points-2.new.self place z) c.as_slice-2.ensures.value c.in_ok-add_points-2.ensures.adds in
    record {
      adds = on_ok_more c.add_points-3.result _ _ (λ h. adds_more c.args.self.now c.add_points.new.self c.add_points-3.new.self place cell.a (cell.b ++ cell.s) a
          (adds_more c.add_points.new.self c.add_points-2.new.self c.add_points-3.new.self place cell.b cell.s b (subst (λ z. AddsReads c.add_points-2.new.self c.add_points-3.new.self place z) c.as_slice-3.ensures.value h)))
          c.add_points-3.ensures.adds;
    }
