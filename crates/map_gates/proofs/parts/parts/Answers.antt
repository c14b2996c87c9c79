use Rattle.std.proofs.Common.{rules, ◌∙◌, sym, arith}
use Rattle.map_gates.proofs.Placing.{ands_over, hit_over, parts_begin, parts_end, parts_last, parts_step}
use Rattle.map_gates.proofs.parts.parts.Goals as goal

pub loop-part-init : goal.loop-part-init
loop-part-init c = record {
  gates = parts_begin c.args.a.now c.args.s.now c.args.inverses.now c.args.y.now c.args.builder.now;
  within = λ h. h;
}

pub returns-then-is_empty-clause-exact : goal.returns-then-is_empty-clause-exact
returns-then-is_empty-clause-exact c =
    parts_end c.args.a.now c.args.s.now c.args.inverses.now c.args.y.now c.loop-part.part c.loop-part.rest.now c.loop-part.builder _ c.loop-part.invariant.gates (sym c.is_empty.ensures ∙ c.if-is_empty.true)

pub returns-in_err-hit-clause-over : goal.returns-in_err-hit-clause-over
returns-in_err-hit-clause-over c e =
    hit_over c.args.a.now c.args.s.now c.args.inverses.now c.args.y.now c.loop-part.part c.loop-part.rest.now c.loop-part.builder _ c.loop-part.invariant.gates (omega (arith, c.loop-part-test.true)) (sym c.is_empty.ensures ∙ c.if-is_empty.false)
    (search (rules, c.hit.ensures.over, e, c.from_residual.ensures))

pub returns-in_err-binary_gates-clause-over : goal.returns-in_err-binary_gates-clause-over
returns-in_err-binary_gates-clause-over c e =
    ands_over c.args.a.now c.args.s.now c.args.inverses.now c.args.y.now c.loop-part.part c.loop-part.rest.now c.loop-part.builder _ c.loop-part.invariant.gates (omega (arith, c.loop-part-test.true)) (sym c.is_empty.ensures ∙ c.if-is_empty.false) _ _ c.in_ok-hit.ensures.exact _ c.below.ensures.value
    (search (rules, c.binary_gates.ensures.over, e, c.from_residual-in_err-binary_gates.ensures))

pub loop-part-preserved : goal.loop-part-preserved
loop-part-preserved c = record {
  gates =
      parts_step c.args.a.now c.args.s.now c.args.inverses.now c.args.y.now c.loop-part.part c.loop-part.rest.now c.loop-part.builder _ c.loop-part.invariant.gates (omega (arith, c.loop-part-test.true)) (sym c.is_empty.ensures ∙ c.if-is_empty.false) _ _ c.in_ok-hit.ensures.exact _ c.below.ensures.value
      _ c.in_ok-binary_gates.ensures.exact _ c.above-rest.ensures.value;
  within = λ h. c.in_ok-binary_gates.ensures.within (c.in_ok-hit.ensures.within (c.loop-part.invariant.within h));
}

pub returns-clause-exact : goal.returns-clause-exact
returns-clause-exact c =
    parts_last c.args.a.now c.args.s.now c.args.inverses.now c.args.y.now c.loop-part.part c.loop-part.rest.now c.loop-part.builder _ c.loop-part.invariant.gates (omega (arith, c.loop-part-test.false))
