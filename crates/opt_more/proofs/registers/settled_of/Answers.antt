use Rattle.std.proofs.Common.{◌≡◌, ℕ, suc, ◌+◌, ◌-◌, List, length, sym, ◌∙◌, ap, arith}
use Rattle.cell_types.specs.PinName.{pin_text}
use Rattle.cell_types.specs.declared.pin_name.PinName.TheVariants.{Q}
use Rattle.rtl_sig.specs.declared.sig.SigBit.{SigBit}
use Rattle.rtl_ir.specs.Parameters.{signal_at}
use Rattle.opt_more.specs.Dff.{settled_bit, settled_from}
use Rattle.opt_more.proofs.RegisterSteps.{place_open, place_settled, values_then}
use Rattle.opt_more.proofs.registers.settled_of.Goals as goal

pub returns-in-None : goal.returns-in-None
returns-in-None c = record {
  value = λ wires cell inits shape enable pins.
      let long : length c.pin_signal-count.result.now ≡ length (signal_at cell.pins (pin_text Q)) = ap length (c.pin_signal-count.ensures.value ∙ ap (λ ps. signal_at ps (pin_text Q)) pins) in
      let left : length (signal_at cell.pins (pin_text Q)) - c.loop-at.at ≡ suc (length (signal_at cell.pins (pin_text Q)) - (c.loop-at.at + 1)) = omega (arith, c.loop-at-test.true, long) in
      sym (place_open wires c.args.kind cell c.loop-at.values c.loop-at.at (length (signal_at cell.pins (pin_text Q)) - (c.loop-at.at + 1)) (sym (c.settled_bit.ensures.value wires cell inits shape enable pins) ∙ c.in-None.is))
      ∙ ap (λ n. values_then c.loop-at.values (settled_from wires c.args.kind cell c.loop-at.at n)) (sym left)
      ∙ c.loop-at.invariant wires cell inits shape enable pins;
}

pub loop-at-preserved : goal.loop-at-preserved
loop-at-preserved c = λ wires cell inits shape enable pins.
    let long : length c.pin_signal-count.result.now ≡ length (signal_at cell.pins (pin_text Q)) = ap length (c.pin_signal-count.ensures.value ∙ ap (λ ps. signal_at ps (pin_text Q)) pins) in
    let left : length (signal_at cell.pins (pin_text Q)) - c.loop-at.at ≡ suc (length (signal_at cell.pins (pin_text Q)) - (c.loop-at.at + 1)) = omega (arith, c.loop-at-test.true, long) in
    let one : c.loop-at.at + 1 ≡ suc c.loop-at.at = omega arith in
    let rest : ℕ = length (signal_at cell.pins (pin_text Q)) - (c.loop-at.at + 1) in
    ap (λ n. values_then c.push.new.self (settled_from wires c.args.kind cell n rest)) one
    ∙ ap (λ (z : List SigBit). values_then z (settled_from wires c.args.kind cell (suc c.loop-at.at) rest)) c.in_ok-push-in-Some.ensures.ok
    ∙ sym (place_settled wires c.args.kind cell c.loop-at.values c.loop-at.at rest c.in-Some.bit (sym (c.settled_bit.ensures.value wires cell inits shape enable pins) ∙ c.in-Some.is))
    ∙ ap (λ n. values_then c.loop-at.values (settled_from wires c.args.kind cell c.loop-at.at n)) (sym left)
    ∙ c.loop-at.invariant wires cell inits shape enable pins
