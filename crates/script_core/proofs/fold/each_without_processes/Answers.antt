use Rattle.std.proofs.Common.{◌≡◌, None, rules, ap, sym, subst, ◌∙◌}
use Rattle.rtl_ir.specs.Ports.{port_table_of}
use Rattle.script_core.specs.declared.word.Word.TheVariants.{Proc}
use Rattle.script_core.specs.Fold.{MayBeGiven, MayEachStart, each_proc, pass_of}
use Rattle.script_core.proofs.EachProc.{may_start, one_more, one_over}
use Rattle.script_core.proofs.fold.each_without_processes.Goals as goal

pub without_processes-requires : goal.without_processes-requires
without_processes-requires c =
    let place : c.in_ok-place.place ≡ c.loop-at.at = search rules in
    let modules = c.in_ok-tables.ensures.value ∙ sym c.as_slice-modules.ensures.value in
    record {
      ready = subst (MayBeGiven c.in_ok-ports.ports Proc) (sym c.in_ok-module.ensures.value)
          (may_start c.as_slice-modules.result.now c.loop-at.at c.index-modules-at.result c.loop-at-test.true c.index-modules-at.is c.in_ok-ports.ports
          (c.in_ok-ports.ensures.value ∙ (λ i. port_table_of (modules i) (place i)))
          (subst MayEachStart (sym c.as_slice-modules.ensures.value) c.requires.ready));
    }

pub returns-in_err-after-clause-over : goal.returns-in_err-after-clause-over
returns-in_err-after-clause-over c = λ e.
    let place : c.in_ok-place.place ≡ c.loop-at.at = search (rules, c.try_from.ensures, c.ok.ensures.value, c.in_ok-place.ensures.ok_part) in
    let modules = c.in_ok-tables.ensures.value ∙ sym c.as_slice-modules.ensures.value in
    let over = c.in_err-after.ensures.over (search (rules, e)) in
    subst (λ ms. each_proc ms ms ≡ None) c.as_slice-modules.ensures.value
    (one_over c.as_slice-modules.result.now c.loop-at.at c.index-modules-at.result c.loop-at-test.true c.index-modules-at.is c.in_ok-ports.ports
    (c.in_ok-ports.ensures.value ∙ (λ i. port_table_of (modules i) (place i)))
    c.loop-at.all _ (ap (pass_of c.in_ok-ports.ports Proc) (sym c.in_ok-module.ensures.value) ∙ over) c.loop-at.invariant)

pub loop-at-preserved : goal.loop-at-preserved
loop-at-preserved c =
    let place : c.in_ok-place.place ≡ c.loop-at.at = search (rules, c.try_from.ensures, c.ok.ensures.value, c.in_ok-place.ensures.ok_part) in
    let modules = c.in_ok-tables.ensures.value ∙ sym c.as_slice-modules.ensures.value in
    one_more c.as_slice-modules.result.now c.loop-at.at c.index-modules-at.result c.loop-at-test.true c.index-modules-at.is c.in_ok-ports.ports
    (c.in_ok-ports.ensures.value ∙ (λ i. port_table_of (modules i) (place i)))
    c.loop-at.all c.push.new.self c.in_ok-after.after _
    (ap (pass_of c.in_ok-ports.ports Proc) (sym c.in_ok-module.ensures.value) ∙ c.in_ok-after.ensures.exact)
    c.in_ok-push.ensures.ok c.loop-at.invariant
