use Rattle.std.proofs.Common.{◌∙◌, arith, map, sym}
use Rattle.std.proofs.lemmas.Bool.{and_parts}
use Rattle.std.proofs.lemmas.Grind.{common_steps}
use Rattle.follow_laws.specs.Inputs.{followed_pin}
use Rattle.opt_clean.proofs.Steps.{map_rest, rest_kept}
use Rattle.opt_clean.proofs.followed.followed_pins.Goals as goal

pub loop-pin-preserved : goal.loop-pin-preserved
loop-pin-preserved c =
    let rest = c.loop-pin.pin-iterator.rest.items in
    let more = c.next.new.self.rest.items in
    let done = c.loop-pin.found.items in
    record {
      all = λ type ports m t is.
          map_rest (followed_pin type m.links) rest more c.in-Some.pin c.in_ok-turned.turned.value done c.push.new.self.items (map (followed_pin type m.links) c.args.pins.items)
          c.in-Some.ensures.steps.0 (c.in_ok-turned.ensures.value type ports m t is) c.in_ok-push.ensures.items (c.loop-pin.invariant.all type ports m t is);
      same = λ e.
          let parts = and_parts c.loop-pin.is_same c.in_ok-turned.turned.is_same (sym c.both-is_same.ensures.value ∙ e) in
          rest_kept rest more c.in-Some.pin c.in_ok-turned.turned.value done c.push.new.self.items c.args.pins.items
          c.in-Some.ensures.steps.0 (c.in_ok-turned.ensures.same parts.1) c.in_ok-push.ensures.items (c.loop-pin.invariant.same parts.0);
    }

pub returns : goal.returns
returns c = record {
  value = λ type ports m t is. grind (arith, common_steps, c.loop-pin.invariant.all type ports m t is, c.in-None.ensures.steps, c.from_vec.ensures.value);
  same = λ e. grind (arith, common_steps, c.loop-pin.invariant.same e, c.in-None.ensures.steps, c.from_vec.ensures.value);
}
