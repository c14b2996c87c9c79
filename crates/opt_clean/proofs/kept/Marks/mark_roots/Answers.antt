use Rattle.std.proofs.Common.{arith}
use Rattle.std.proofs.lemmas.Grind.{common_steps}
use Rattle.opt_clean.specs.Marking.{mark_places, marking_of, root_places}
use Rattle.opt_clean.proofs.MarkSteps.{root_step}
use Rattle.opt_clean.proofs.kept.Marks.mark_roots.Goals as goal

pub loop-place-preserved : goal.loop-place-preserved
loop-place-preserved c = λ ports wires are shown.
    root_step ports wires c.args.cells.now c.loop-place.place c.index-cells-place.result (marking_of c.loop-place.self) (marking_of c.mark_if_root.new.self) (mark_places (marking_of c.args.self.now) (root_places ports wires 0 c.args.cells.now))
    c.loop-place-test.true c.index-cells-place.is (c.in_ok-mark_if_root.ensures.value ports wires are shown) (c.loop-place.invariant ports wires are shown)

pub returns : goal.returns
returns c = record { value = λ ports wires are shown. grind (arith, common_steps, c.loop-place.invariant ports wires are shown) }
