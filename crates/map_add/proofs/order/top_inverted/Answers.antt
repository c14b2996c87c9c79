use Rattle.std.proofs.Common.{rules, ◌∷◌, [], ◌++◌, ap, ◌∙◌}
use Rattle.map_add.proofs.Limits.{top_exact, top_over}
use Rattle.map_add.proofs.order.top_inverted.Goals as goal

pub returns-in_err-inverse-clause-over : goal.returns-in_err-inverse-clause-over
returns-in_err-inverse-clause-over c e =
    top_over c.args.bits.now c.in-Some.below.now c.in-Some.top.now c.args.builder.now c.in-Some.ensures.cases.0
    (search (rules, c.add_gate.ensures.over, e, c.from_residual.ensures))

pub returns-clause-exact : goal.returns-clause-exact
returns-clause-exact c =
    ap (λ word. (word, c.add_gate.new.builder)) c.in_ok-push.ensures.ok
    ∙ ap (λ word. (word ++ c.in_ok-inverse.inverse ∷ [], c.add_gate.new.builder)) c.in_ok-word.ensures.value
    ∙ top_exact c.args.bits.now c.in-Some.below.now c.in-Some.top.now c.in_ok-inverse.inverse c.args.builder.now c.add_gate.new.builder c.in-Some.ensures.cases.0 c.in_ok-inverse.ensures.exact
