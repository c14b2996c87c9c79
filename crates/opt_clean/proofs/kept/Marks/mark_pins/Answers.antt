use Rattle.std.proofs.Common.{◌∙◌, [], ◌∷◌, ap, arith, drop, ◌+◌}
use Rattle.std.proofs.lemmas.Grind.{common_steps}
use Rattle.opt_clean.specs.Kept.{read_bits}
use Rattle.opt_clean.specs.Linked.{cell_places}
use Rattle.opt_clean.specs.Marking.{mark_places, marking_of}
use Rattle.opt_clean.proofs.MarkSteps.{first_reads, mark_step}
use Rattle.opt_clean.proofs.Steps.{here}
use Rattle.opt_clean.proofs.kept.Marks.mark_pins.Goals as goal

pub loop-pin-preserved : goal.loop-pin-preserved
loop-pin-preserved c = λ type ports m t is.
    let pins = c.args.pins.now in
    let i = c.loop-pin.pin-index in
    let pin = c.pin-item.result in
    mark_step ports m (marking_of c.loop-pin.self) (marking_of c.mark_pin.new.self) (mark_places (marking_of c.args.self.now) (cell_places ports m (read_bits type pins)))
    (read_bits type (pin ∷ [])) (read_bits type (drop (i + 1) pins)) (read_bits type (drop i pins))
    (ap (read_bits type) (here pins i pin c.loop-pin-test.true c.pin-item.is) ∙ first_reads type pin (drop (i + 1) pins))
    (c.in_ok-mark_pin.ensures.value type ports m t is)
    (c.loop-pin.invariant type ports m t is)

pub returns : goal.returns
returns c = record { value = λ type ports m t is. grind (arith, common_steps, c.loop-pin.invariant type ports m t is) }
