use Rattle.std.proofs.Common.{◌≡◌, ◌<◌, subst, OnOk}
use Rattle.flat_pass.specs.Grown.{built}
use Rattle.flat_pass.proofs.Turning.{found_child, missing_child}
use Rattle.flat_pass.proofs.turns.put_child.Goals as goal

pub returns-in-Some-clause-exact : goal.returns-in-Some-clause-exact
returns-in-Some-clause-exact c = λ below are.
    subst (λ z. OnOk c.replace.result (built c.replace.new.self ≡ z)) (found_child below c.args.instance.now.kind_name c.as_slice.result.now c.in-Some.child.now.body.now c.args.instance.now (built c.args.grown.now) (c.in-Some.ensures.value below are) c.as_slice.ensures.value) c.replace.ensures.exact

pub returns-in-Some-clause-over : goal.returns-in-Some-clause-over
returns-in-Some-clause-over c = λ below are e.
    subst (λ z. 1000000000 < z.next) (found_child below c.args.instance.now.kind_name c.as_slice.result.now c.in-Some.child.now.body.now c.args.instance.now (built c.args.grown.now) (c.in-Some.ensures.value below are) c.as_slice.ensures.value) (c.replace.ensures.over e)

pub returns-in-None-clause-exact : goal.returns-in-None-clause-exact
returns-in-None-clause-exact c = λ below are.
    missing_child below c.args.instance.now.kind_name c.as_slice.result.now c.args.instance.now (built c.args.grown.now) (c.in-None.ensures.value below are) c.as_slice.ensures.value
