use Rattle.std.proofs.Common.{◌≡◌, None, Some, sym, ap, ◌∙◌}
use Rattle.std.specs.List.{insert}
use Rattle.rtl_ir.specs.Faults.Recursion.{place_named}
use Rattle.design_edit.proofs.Naming.{place_within}
use Rattle.design_edit.proofs.Taking.{back_again, taken_is, taken_none}
use Rattle.design_edit.proofs.taken.take_module.Goals as goal

pub returns-in_err-at-clause-value : goal.returns-in_err-at-clause-value
returns-in_err-at-clause-value c =
    let none : place_named c.args.modules.now.items c.args.name.now ≡ None = sym (c.in_err-at.ensures.value ∙ ap (λ ms. place_named ms c.args.name.now) c.as_slice.ensures.value) in
    taken_none c.args.modules.now.items c.args.name.now none

pub returns-clause-value : goal.returns-clause-value
returns-clause-value c =
    let found : place_named c.args.modules.now.items c.args.name.now ≡ Some c.in_ok-at.at = sym (c.in_ok-at.ensures.value ∙ ap (λ ms. place_named ms c.args.name.now) c.as_slice.ensures.value) in
    c.remove-module.ensures.items ∙ taken_is c.args.modules.now.items c.args.name.now c.in_ok-at.at c.remove-module.result c.requires.distinct found

pub returns-clause-back : goal.returns-clause-back
returns-clause-back c =
    let found : place_named c.args.modules.now.items c.args.name.now ≡ Some c.in_ok-at.at = sym (c.in_ok-at.ensures.value ∙ ap (λ ms. place_named ms c.args.name.now) c.as_slice.ensures.value) in
    ap (λ ms. insert ms c.in_ok-at.at c.remove-module.result) c.remove-module.ensures.items
    ∙ back_again c.args.modules.now.items c.in_ok-at.at c.remove-module.result (place_within c.args.modules.now.items c.args.name.now c.in_ok-at.at c.remove-module.result found) c.remove-module.ensures.value
