use Rattle.std.proofs.Common.{◌≡◌, ℕ, ◌-◌, List, ◌++◌, Option, length, ap, subst, ◌∙◌, arith}
use Rattle.std.specs.Prelude.{IfOk, codes}
use Rattle.reply_lines.specs.Lines.{counted}
use Rattle.rtl_ir.specs.declared.module.Design.{Design}
use Rattle.rtl_ir.specs.declared.module.Module.{Module}
use Rattle.desk_core.specs.Results.{over_of}
use Rattle.desk_core.specs.Told.{told_by}
use Rattle.desk_core.proofs.runs.tell_found.Goals as goal

pub built_words-requires : goal.built_words-requires
built_words-requires c =
    let few = c.requires.few in
    let same : length c.as_slice-modules.result.now ≡ length c.args.design.now.design.modules =
    ap (λ (ms : List Module). length ms) (c.as_slice-modules.ensures.value ∙ ap (λ (d : Design). d.modules) c.design.ensures.value) in
    record { few = omega (arith, few, same) }

pub returns : goal.returns
returns c =
    let modules = c.args.design.now.design.modules in
    let built = c.args.built in
    let same : c.as_slice-modules.result.now ≡ modules = c.as_slice-modules.ensures.value ∙ ap (λ (d : Design). d.modules) c.design.ensures.value in
    let count : length c.as_slice-modules.result.now ≡ length modules = ap (λ (ms : List Module). length ms) same in
    let words : c.in_ok-words.words ≡ counted (codes "built") built ++ counted (codes "reused") (length modules - built) =
    c.in_ok-words.ensures.value ∙ ap (λ (n : ℕ). counted (codes "built") built ++ counted (codes "reused") (n - built)) count in
    let over : c.in_ok-over.over ≡ over_of modules c.args.found.now =
    c.in_ok-over.ensures.value ∙ ap (λ (ms : List Module). over_of ms c.args.found.now) same in
    record {
      value =
          subst (λ (o : Option (List ℕ)). IfOk c.told_by.result (λ told. told ≡ told_by (counted (codes "built") built ++ counted (codes "reused") (length modules - built)) o)) over
          (subst (λ (w : List ℕ). IfOk c.told_by.result (λ told. told ≡ told_by w c.in_ok-over.over)) words c.told_by.ensures.value);
    }
