use Rattle.std.proofs.Common.{◌≡◌, List, Option, length, sym, ap, subst, refl, ◌∙◌, arith}
use Rattle.std.specs.Prelude.{IfOk}
use Rattle.rtl_ir.specs.declared.module.Design.{Design}
use Rattle.rtl_ir.specs.declared.module.Module.{Module}
use Rattle.script_core.specs.declared.built.Built.{Built}
use Rattle.design_edit.specs.Modules.{with_modules}
use Rattle.desk_core.specs.declared.present.Present.{Present}
use Rattle.desk_core.specs.Answers.{IsEdited}
use Rattle.desk_core.specs.Beside.{unedited}
use Rattle.desk_core.specs.Present.{state_with}
use Rattle.desk_core.specs.Results.{AreBeside}
use Rattle.desk_core.specs.State.{answer}
use Rattle.desk_core.proofs.Changing.{readable_edited, refused_edits, same_present}
use Rattle.desk_core.proofs.Staying.{long_edited, present_edited, shorter_edited, unedited_long}
use Rattle.desk_core.proofs.Told.{on_err}
use Rattle.desk_core.proofs.present.Present.take_edits.Goals as goal

pub edit_design-requires : goal.edit_design-requires
edit_design-requires c = record { few = c.requires.readable.count }

pub fill_up-requires : goal.fill_up-requires
fill_up-requires c =
    let modules = c.args.self.now.design.design.modules in
    let edits = c.args.edits.modules in
    let source : c.as_slice-modules.result.now ≡ modules = c.as_slice-modules.ensures.value ∙ ap (λ (d : Design). d.modules) c.design.ensures.value in
    let many : c.in_ok-count.count ≡ length (with_modules modules edits) =
    c.in_ok-count.ensures.value ∙ ap (λ (ms : List Module). length (with_modules ms c.as_slice.result.now)) source ∙ ap (λ (es : List Module). length (with_modules modules es)) c.as_slice.ensures.value in
    let found : c.in_ok-rest.rest.items ≡ unedited edits modules c.args.found.now.items =
    c.in_ok-rest.ensures.value ∙ ap (λ (es : List Module). unedited es c.as_slice-modules.result.now c.as_slice-3.result.now) c.as_slice-2.ensures.value
    ∙ ap (λ (ms : List Module). unedited edits ms c.as_slice-3.result.now) source ∙ ap (λ (fs : List (Option Built)). unedited edits modules fs) c.as_slice-3.ensures.value in
    let long : length c.in_ok-rest.rest.items ≡ length modules =
    ap (λ (fs : List (Option Built)). length fs) found ∙ unedited_long edits modules c.args.found.now.items c.requires.beside ∙ c.requires.beside in
    let le = shorter_edited edits modules in
    record { few = omega (arith, many, long, le) }

pub returns-in-Err-clause-present : goal.returns-in-Err-clause-present
returns-in-Err-clause-present c = λ keys stand.
    let p = c.args.self.now in
    subst (λ (q : Present). AreBeside keys q.design.design q.script c.args.found.now.items) (sym (same_present p c.edit_design.new.design c.in-Err.ensures.err)) stand

pub returns-in-Err-clause-ok : goal.returns-in-Err-clause-ok
returns-in-Err-clause-ok c = λ kept.
    let p = c.args.self.now in
    subst (λ (q : Present). IfOk c.edit_reply.result (λ reply. IsEdited (state_with kept p) c.args.text.now c.args.edits (answer reply (state_with kept q)))) (sym (same_present p c.edit_design.new.design c.in-Err.ensures.err))
    (refused_edits (state_with kept p) c.args.text.now c.args.edits c.in-Err.fault c.edit_reply.result c.requires.reads c.in-Err.ensures.fault c.edit_reply.ensures.value)

pub returns-in-Err-clause-err : goal.returns-in-Err-clause-err
returns-in-Err-clause-err c = on_err c.edit_reply.result (same_present c.args.self.now c.edit_design.new.design c.in-Err.ensures.err, refl)

pub let_go_unseen-requires-clause-readable : goal.let_go_unseen-requires-clause-readable
let_go_unseen-requires-clause-readable c =
    readable_edited c.args.text.now c.args.self.now.design.design.modules c.args.edits c.edit_design.new.design.design.modules c.requires.readable c.requires.reads c.in_default.ensures.ok c.in_default.ensures.count

pub let_go_unseen-requires-clause-beside : goal.let_go_unseen-requires-clause-beside
let_go_unseen-requires-clause-beside c =
    let design = c.args.self.now.design.design in
    let edits = c.args.edits.modules in
    let source : c.as_slice-modules.result.now ≡ design.modules = c.as_slice-modules.ensures.value ∙ ap (λ (d : Design). d.modules) c.design.ensures.value in
    let many : c.in_ok-count.count ≡ length c.edit_design.new.design.design.modules =
    c.in_ok-count.ensures.value ∙ ap (λ (ms : List Module). length (with_modules ms c.as_slice.result.now)) source ∙ ap (λ (es : List Module). length (with_modules design.modules es)) c.as_slice.ensures.value
    ∙ ap (λ (ms : List Module). length ms) (sym c.in_default.ensures.ok) in
    let found : c.in_ok-rest.rest.items ≡ unedited edits design.modules c.args.found.now.items =
    c.in_ok-rest.ensures.value ∙ ap (λ (es : List Module). unedited es c.as_slice-modules.result.now c.as_slice-3.result.now) c.as_slice-2.ensures.value
    ∙ ap (λ (ms : List Module). unedited edits ms c.as_slice-3.result.now) source ∙ ap (λ (fs : List (Option Built)). unedited edits design.modules fs) c.as_slice-3.ensures.value in
    long_edited design c.edit_design.new.design.design edits c.args.found.now.items c.in_ok-rest.rest.items c.fill_up.new.found.items c.in_ok-count.count
    c.requires.beside c.in_default.ensures.ok many found c.in_ok-fill_up.ensures.ok

pub returns-clause-present : goal.returns-clause-present
returns-clause-present c = λ keys stand.
    let design = c.args.self.now.design.design in
    let edits = c.args.edits.modules in
    let source : c.as_slice-modules.result.now ≡ design.modules = c.as_slice-modules.ensures.value ∙ ap (λ (d : Design). d.modules) c.design.ensures.value in
    let many : c.in_ok-count.count ≡ length c.edit_design.new.design.design.modules =
    c.in_ok-count.ensures.value ∙ ap (λ (ms : List Module). length (with_modules ms c.as_slice.result.now)) source ∙ ap (λ (es : List Module). length (with_modules design.modules es)) c.as_slice.ensures.value
    ∙ ap (λ (ms : List Module). length ms) (sym c.in_default.ensures.ok) in
    let found : c.in_ok-rest.rest.items ≡ unedited edits design.modules c.args.found.now.items =
    c.in_ok-rest.ensures.value ∙ ap (λ (es : List Module). unedited es c.as_slice-modules.result.now c.as_slice-3.result.now) c.as_slice-2.ensures.value
    ∙ ap (λ (ms : List Module). unedited edits ms c.as_slice-3.result.now) source ∙ ap (λ (fs : List (Option Built)). unedited edits design.modules fs) c.as_slice-3.ensures.value in
    present_edited keys design c.edit_design.new.design.design c.args.self.now.script edits c.args.found.now.items c.in_ok-rest.rest.items c.fill_up.new.found.items c.let_go_unseen.new.found.items c.in_ok-count.count stand
    (readable_edited c.args.text.now design.modules c.args.edits c.edit_design.new.design.design.modules c.requires.readable c.requires.reads c.in_default.ensures.ok c.in_default.ensures.count)
    c.in_default.ensures.ok many found c.in_ok-fill_up.ensures.ok c.let_go_unseen.ensures.seen
