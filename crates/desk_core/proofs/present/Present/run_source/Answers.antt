use Rattle.std.proofs.Common.{◌≡◌, ◌++◌, List, ℕ, Some, None, Ok, Err, get_or, slice_get, sym, ap, ◌∙◌}
use Rattle.std.proofs.lemmas.Option.{slice_get-get_or}
use Rattle.std.specs.Prelude.{codes}
use Rattle.rtl_ir.specs.declared.module.Design.{Design}
use Rattle.rtl_ir.specs.declared.module.Module.{Module}
use Rattle.rtl_ir.specs.Faults.Recursion.{place_named}
use Rattle.design_edit.proofs.Naming.{place_within}
use Rattle.reply_lines.specs.Lines.{error_reply}
use Rattle.sim_trace.specs.Stimulus.{stimulus_of}
use Rattle.desk_core.specs.Answers.{by_stimulus, source_reply, unchanged}
use Rattle.desk_core.specs.Present.{state_with}
use Rattle.desk_core.proofs.Showing.{bad_line, sourced, told_same, unknown}
use Rattle.desk_core.proofs.present.Present.run_source.Goals as goal

pub returns-in_default : goal.returns-in_default
returns-in_default c =
    let name = c.args.ask.now.module in
    let here = c.as_slice-modules.ensures.value ∙ ap (λ (d : Design). d.modules) c.design.ensures.value in
    let asked : c.as_slice.result.now ≡ name = c.as_slice.ensures.value in
    let place : None ≡ place_named c.args.self.now.design.design.modules name =
    sym c.in_default.is ∙ c.place_named.ensures.value ∙ ap (place_named c.as_slice-modules.result.now) asked ∙ ap (λ (ms : List Module). place_named ms name) here in
    let same = ap (λ (t : List ℕ). error_reply (codes "18 " ++ t)) c.as_slice-in_default.ensures.value in
    record {
      ok = λ kept.
          let s = state_with kept c.args.self.now in
          unknown s name (λ m. by_stimulus s (stimulus_of m c.args.ask.now.steps) (λ stimulus. unchanged s (source_reply s c.args.ask.now.order m stimulus))) c.told_reply.result place
          (told_same c.told_reply.result _ _ same c.told_reply.ensures.value);
    }

pub returns-in-Ok : goal.returns-in-Ok
returns-in-Ok c =
    let modules = c.args.self.now.design.design.modules in
    let name = c.args.ask.now.module in
    let at = c.in-Some.at in
    let m = c.index-modules-at.result in
    let here = c.as_slice-modules.ensures.value ∙ ap (λ (d : Design). d.modules) c.design.ensures.value in
    let asked : c.as_slice.result.now ≡ name = c.as_slice.ensures.value in
    let place : Some at ≡ place_named modules name =
    sym c.in-Some.is ∙ c.place_named.ensures.value ∙ ap (place_named c.as_slice-modules.result.now) asked ∙ ap (λ (ms : List Module). place_named ms name) here in
    let own : m ≡ get_or modules at m = c.index-modules-at.is ∙ ap (λ (l : List Module). get_or l at m) here in
    let there : slice_get modules at ≡ Some m = slice_get-get_or modules at m (place_within modules name at m (sym place)) ∙ ap Some (sym own) in
    let reads : stimulus_of m c.args.ask.now.steps ≡ Ok c.in-Ok.stimulus =
    ap (stimulus_of m) (sym c.as_slice-2.ensures.value) ∙ c.in-Ok.ensures.reads in
    record {
      ok = λ kept.
          let s = state_with kept c.args.self.now in
          let same = ap (source_reply s c.args.ask.now.order m) c.as_slice-in-Ok.ensures.value in
          sourced s c.args.ask.now.order name c.args.ask.now.steps at m c.in-Ok.stimulus c.source_trace.result place own reads (told_same c.source_trace.result _ _ same (c.source_trace.ensures.value kept m there));
    }

pub returns-in-Err-Bad : goal.returns-in-Err-Bad
returns-in-Err-Bad c =
    let modules = c.args.self.now.design.design.modules in
    let name = c.args.ask.now.module in
    let at = c.in-Some.at in
    let m = c.index-modules-at.result in
    let here = c.as_slice-modules.ensures.value ∙ ap (λ (d : Design). d.modules) c.design.ensures.value in
    let asked : c.as_slice.result.now ≡ name = c.as_slice.ensures.value in
    let place : Some at ≡ place_named modules name =
    sym c.in-Some.is ∙ c.place_named.ensures.value ∙ ap (place_named c.as_slice-modules.result.now) asked ∙ ap (λ (ms : List Module). place_named ms name) here in
    let own : m ≡ get_or modules at m = c.index-modules-at.is ∙ ap (λ (l : List Module). get_or l at m) here in
    let bad : stimulus_of m c.args.ask.now.steps ≡ Err c.in-Err-Bad.number =
    ap (stimulus_of m) (sym c.as_slice-2.ensures.value) ∙ c.in-Err-Bad.ensures.bad c.in-Err-Bad.number cc in
    record {
      ok = λ kept.
          let s = state_with kept c.args.self.now in
          bad_line s name c.args.ask.now.steps at m c.in-Err-Bad.number (λ n stimulus. unchanged s (source_reply s c.args.ask.now.order n stimulus)) c.number_reply.result place own bad c.number_reply.ensures.value;
    }
