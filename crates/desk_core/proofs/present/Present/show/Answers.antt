use Rattle.std.proofs.Common.{◌≡◌, ◌++◌, List, [], ℕ, Some, None, get_or, length, ap, ◌∙◌}
use Rattle.std.specs.Prelude.{codes}
use Rattle.rtl_ir.specs.declared.module.Design.{Design}
use Rattle.rtl_ir.specs.declared.module.Module.{Module}
use Rattle.rtl_ir.specs.Faults.Recursion.{place_named}
use Rattle.rtl_write.specs.Text.{module_text}
use Rattle.reply_lines.specs.Lines.{counted, ok_line, ok_reply}
use Rattle.desk_core.specs.Answers.{printed_reply, unchanged}
use Rattle.desk_core.specs.Present.{state_with}
use Rattle.desk_core.proofs.Showing.{shown, told_same, unknown}
use Rattle.desk_core.proofs.present.Present.show.Goals as goal

pub returns-in_default : goal.returns-in_default
returns-in_default c =
    let here = c.as_slice-modules.ensures.value ∙ ap (λ (d : Design). d.modules) c.design.ensures.value in
    let place : None ≡ place_named c.args.self.now.design.design.modules c.args.name.now = cc here in
    record {
      ok = λ kept.
          let s = state_with kept c.args.self.now in
          unknown s c.args.name.now (λ m. unchanged s (printed_reply [] (module_text m))) c.told_reply.result place c.told_reply.ensures.value;
    }

pub returns : goal.returns
returns c =
    let modules = c.args.self.now.design.design.modules in
    let m = c.index-modules-at.result in
    let here = c.as_slice-modules.ensures.value ∙ ap (λ (d : Design). d.modules) c.design.ensures.value in
    let place : Some c.in-Some.at ≡ place_named modules c.args.name.now = cc here in
    let own : m ≡ get_or modules c.in-Some.at m = c.index-modules-at.is ∙ ap (λ (l : List Module). get_or l c.in-Some.at m) here in
    let text : c.in_ok-text.text ≡ module_text m = c.in_ok-text.ensures.exact in
    let words : c.as_slice-2.result.now ≡ counted (codes "bytes") (length (module_text m)) =
    c.as_slice-2.ensures.value ∙ c.in_ok-words.ensures.value ∙ ap (λ (t : List ℕ). counted (codes "bytes") (length t)) (c.as_slice.ensures.value ∙ text) in
    let same : ok_reply (ok_line c.as_slice-2.result.now ++ c.in_ok-text.text) ≡ printed_reply [] (module_text m) =
    ap (λ (w : List ℕ). ok_reply (ok_line w ++ c.in_ok-text.text)) words
    ∙ ap (λ (t : List ℕ). ok_reply (ok_line (counted (codes "bytes") (length (module_text m))) ++ t)) text in
    record {
      ok = λ kept. shown (state_with kept c.args.self.now) c.args.name.now c.in-Some.at m c.text_reply.result place own (told_same c.text_reply.result _ _ same c.text_reply.ensures.value);
    }
