use Rattle.std.proofs.Common.{◌≡◌, ◌∙◌, ap, arith, map}
use Rattle.std.proofs.lemmas.Grind.{common_steps}
use Rattle.rtl_ir.specs.declared.cell.Pin.{Pin}
use Rattle.opt_clean.specs.Wires.{moved_bit, moved_pin}
use Rattle.opt_clean.proofs.Steps.{map_rest}
use Rattle.opt_clean.proofs.wires.Moves.pins.Goals as goal

pub loop-pin-preserved : goal.loop-pin-preserved
loop-pin-preserved c = λ marks are.
    let sig = c.in_ok-sig.ensures.value marks are ∙ ap (map (moved_bit marks)) c.as_slice.ensures.value in
    let pin : Pin = record { name = c.in-Some.pin.name; sig = c.in_ok-sig.sig } in
    let is : pin ≡ moved_pin marks c.in-Some.pin = λ i. record { name = c.in-Some.pin.name; sig = sig i } in
    map_rest (moved_pin marks) c.loop-pin.pin-iterator.rest.items c.next.new.self.rest.items c.in-Some.pin pin c.loop-pin.moved.items c.push.new.self.items (map (moved_pin marks) c.args.pins.items)
    c.in-Some.ensures.steps.0 is c.in_ok-push.ensures.items (c.loop-pin.invariant marks are)

pub returns : goal.returns
returns c = record { value = λ marks are. grind (arith, common_steps, c.loop-pin.invariant marks are, c.in-None.ensures.steps, c.from_vec.ensures.value) }
