use Rattle.std.proofs.Common.{◌≡◌, ℕ, ◌-◌, List, [], Some, None, length, refl, sym, ap, subst, ◌∙◌, arith}
use Rattle.std.specs.Prelude.{IfOk, codes}
use Rattle.rtl_ir.specs.declared.module.Design.{Design}
use Rattle.rtl_ir.specs.declared.module.Module.{Module}
use Rattle.rtl_ir.specs.Faults.{check_faults}
use Rattle.rtl_ir.specs.Faults.Recursion.{place_named}
use Rattle.rtl_readable.specs.Readable.{IsReadable}
use Rattle.reply_lines.specs.Lines.{counted, ok_line, ok_reply}
use Rattle.design_edit.proofs.Readings.{readable_without}
use Rattle.design_edit.specs.Modules.{without_module}
use Rattle.desk_core.specs.declared.present.Present.{Present}
use Rattle.desk_core.specs.Answers.{remove_answer}
use Rattle.desk_core.specs.Present.{state_with}
use Rattle.desk_core.specs.Results.{AreBeside}
use Rattle.desk_core.specs.State.{State, answer}
use Rattle.desk_core.proofs.Changing.{not_removed, refused_removal, removed, same_present, taken_design}
use Rattle.desk_core.proofs.Staying.{long_removed, one_less, present_removed}
use Rattle.desk_core.proofs.Told.{on_err}
use Rattle.desk_core.proofs.present.Present.remove.Goals as goal

pub remove_module-requires : goal.remove_module-requires
remove_module-requires c = record { distinct = c.requires.readable.distinct }

pub returns-in_default-clause-ok : goal.returns-in_default-clause-ok
returns-in_default-clause-ok c = λ kept.
    let here = c.as_slice-modules.ensures.value ∙ ap (λ (d : Design). d.modules) c.design.ensures.value in
    let place : None ≡ place_named c.args.self.now.design.design.modules c.args.name.now = cc here in
    not_removed (state_with kept c.args.self.now) c.args.name.now c.told_reply.result (sym place) c.told_reply.ensures.value

pub returns-in-Err-clause-present : goal.returns-in-Err-clause-present
returns-in-Err-clause-present c = λ keys stand.
    subst (λ (q : Present). AreBeside keys q.design.design q.script c.args.found.now.items) (sym (same_present c.args.self.now c.remove_module.new.design c.in-Err.ensures.err)) stand

pub returns-in-Err-clause-ok : goal.returns-in-Err-clause-ok
returns-in-Err-clause-ok c = λ kept.
    let p = c.args.self.now in
    let s = state_with kept p in
    let name = c.args.name.now in
    let here = c.as_slice-modules.ensures.value ∙ ap (λ (d : Design). d.modules) c.design.ensures.value in
    let place : Some c.in-Some.at ≡ place_named p.design.design.modules name = cc here in
    subst (λ (q : Present). IfOk c.check_reply.result (λ reply. answer reply (state_with kept q) ≡ remove_answer s name)) (sym (same_present p c.remove_module.new.design c.in-Err.ensures.err))
    (refused_removal s name c.in-Some.at c.in-Err.fault c.check_reply.result (sym place) c.in-Err.ensures.fault c.check_reply.ensures.memory c.check_reply.ensures.value)

pub returns-in-Err-clause-err : goal.returns-in-Err-clause-err
returns-in-Err-clause-err c = on_err c.check_reply.result (same_present c.args.self.now c.remove_module.new.design c.in-Err.ensures.err, refl)

pub let_go_unseen-requires-clause-readable : goal.let_go_unseen-requires-clause-readable
let_go_unseen-requires-clause-readable c =
    subst (λ (ms : List Module). IsReadable (record { modules = ms })) (sym c.in_default-remove_module.ensures.ok) (readable_without c.args.self.now.design.design.modules c.args.name.now c.requires.readable)

pub let_go_unseen-requires-clause-beside : goal.let_go_unseen-requires-clause-beside
let_go_unseen-requires-clause-beside c =
    let design = c.args.self.now.design.design in
    let source : c.as_slice-modules.result.now ≡ design.modules = c.as_slice-modules.ensures.value ∙ ap (λ (d : Design). d.modules) c.design.ensures.value in
    let place : Some c.in-Some.at ≡ place_named design.modules c.args.name.now = cc source in
    long_removed design c.remove_module.new.design.design c.args.name.now c.in-Some.at c.args.found.now.items c.remove.new.self.items c.requires.readable c.requires.beside
    c.in_default-remove_module.ensures.ok (sym place) c.remove.ensures.items

pub returns-clause-present : goal.returns-clause-present
returns-clause-present c = λ keys stand.
    let design = c.args.self.now.design.design in
    let after = c.remove_module.new.design.design in
    let source : c.as_slice-modules.result.now ≡ design.modules = c.as_slice-modules.ensures.value ∙ ap (λ (d : Design). d.modules) c.design.ensures.value in
    let place : Some c.in-Some.at ≡ place_named design.modules c.args.name.now = cc source in
    let readable : IsReadable after =
    subst (λ (ms : List Module). IsReadable (record { modules = ms })) (sym c.in_default-remove_module.ensures.ok) (readable_without design.modules c.args.name.now c.requires.readable) in
    present_removed keys design after c.args.self.now.script c.args.name.now c.in-Some.at c.args.found.now.items c.remove.new.self.items c.let_go_unseen.new.found.items stand readable
    c.in_default-remove_module.ensures.ok (sym place) c.remove.ensures.items c.let_go_unseen.ensures.seen

pub returns-clause-ok : goal.returns-clause-ok
returns-clause-ok c = λ kept.
    let p = c.args.self.now in
    let s = state_with kept p in
    let name = c.args.name.now in
    let rest = without_module p.design.design.modules name in
    let source : c.as_slice-modules.result.now ≡ p.design.design.modules = c.as_slice-modules.ensures.value ∙ ap (λ (d : Design). d.modules) c.design.ensures.value in
    let place : Some c.in-Some.at ≡ place_named p.design.design.modules name = cc source in
    let are : c.remove_module.new.design.design.modules ≡ rest = c.in_default-remove_module.ensures.ok in
    let fine : check_faults rest ≡ [] = ap check_faults (sym are) ∙ c.remove_module.new.design.faultless in
    let number : length c.as_slice-modules.result.now - 1 ≡ length rest =
    (let less = one_less name p.design.design.modules c.in-Some.at c.requires.readable (sym place) in let long = ap (λ (ms : List Module). length ms) source in omega (arith, less, long)) in
    let told : c.in_ok-reply.reply ≡ ok_reply (ok_line (counted (codes "modules") (length rest))) =
    c.in_ok-reply.ensures.value ∙ ap (λ (n : ℕ). ok_reply (ok_line (counted (codes "modules") n))) number in
    let after : State = state_with kept (record p { design = c.remove_module.new.design }) in
    let state : after ≡ record s { design = record { modules = rest } } = ap (λ (ms : List Module). record s { design = record { modules = ms } }) are in
    removed s after name c.in-Some.at c.in_ok-reply.reply (sym place) (taken_design s after rest c.in_ok-reply.reply fine told state)
