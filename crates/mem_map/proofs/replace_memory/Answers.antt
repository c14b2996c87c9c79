use Rattle.std.proofs.Common.{rules, ◌∙◌, ap, get_or, subst, sym}
use Rattle.net_index.specs.Builder.{PassesLimit}
use Rattle.mem_map.specs.Limits.{no_store}
use Rattle.mem_map.proofs.Passing.{after_is, begun_is, module_over, store_at}
use Rattle.mem_map.proofs.replace_memory.Goals as goal

pub returns-in_err-check_limits-clause-over : goal.returns-in_err-check_limits-clause-over
returns-in_err-check_limits-clause-over c e =
    module_over c.args.module c.args.plan.now
    (subst PassesLimit
    (begun_is c.args.module c.args.plan.now c.in_ok-store.store c.in_ok-rest.rest c.first_number-next.result c.numbered_from-builder.result
    (c.in_ok-store.ensures.value
    ∙ store_at c.args.module.memories c.args.plan.now.store c.index-as_slice-at.result no_store c.requires.in_range
    (c.index-as_slice-at.is ∙ ap (λ stores. get_or stores c.args.plan.now.store c.index-as_slice-at.result) c.as_slice.ensures.value))
    (c.in_ok-rest.ensures.value c.in_ok-store.store (sym c.as_slice-2.ensures.value)) c.first_number-next.ensures.value c.numbered_from-builder.ensures.value)
    (search (rules, c.check_limits.ensures.over, e, c.from_residual-in_err-check_limits.ensures)))

pub returns-clause-exact : goal.returns-clause-exact
returns-clause-exact c =
    c.finish.ensures.value
    ∙ after_is c.args.module c.args.plan.now c.in_ok-store.store c.in_ok-rest.rest c.first_number-next.result c.numbered_from-builder.result
    (c.in_ok-store.ensures.value
    ∙ store_at c.args.module.memories c.args.plan.now.store c.index-as_slice-at.result no_store c.requires.in_range
    (c.index-as_slice-at.is ∙ ap (λ stores. get_or stores c.args.plan.now.store c.index-as_slice-at.result) c.as_slice.ensures.value))
    (c.in_ok-rest.ensures.value c.in_ok-store.store (sym c.as_slice-2.ensures.value)) c.first_number-next.ensures.value c.numbered_from-builder.ensures.value
    c.in_ok-after.after c.in_ok-after.ensures.exact
