use Rattle.std.proofs.Common.{◌∙◌, ap, sym, rules}
use Rattle.flat_pass.specs.Flat.{child_of, is_within, replaced}
use Rattle.flat_pass.specs.Grown.{built}
use Rattle.flat_pass.proofs.Limits.{past_next}
use Rattle.flat_pass.proofs.Turning.{on_ok}
use Rattle.flat_pass.proofs.turns.replace_one.Goals as goal

pub returns-in_err-put_child-clause-over : goal.returns-in_err-put_child-clause-over
returns-in_err-put_child-clause-over c = λ below are e.
    past_next (replaced (child_of below c.args.instance.now.kind_name) c.args.instance.now (built c.args.grown.now)) (c.put_child.ensures.over below are (search (rules, e, c.from_residual.ensures)))

pub returns-clause-exact : goal.returns-clause-exact
returns-clause-exact c = λ below are. on_ok c.check_limits.result (c.in_ok-put_child.ensures.exact below are)

pub returns-clause-over : goal.returns-clause-over
returns-clause-over c = λ below are e. ap is_within (sym (c.in_ok-put_child.ensures.exact below are)) ∙ c.check_limits.ensures.over e

pub returns-clause-sound : goal.returns-clause-sound
returns-clause-sound c = on_ok c.check_limits.result c.in_ok-put_child.ensures.sound
