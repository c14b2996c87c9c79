use Rattle.std.proofs.Common.{rules, ap, ap₂, codes, true, Some, ◌≡◌, ◌∙◌}
use Rattle.std.proofs.lemmas.Result.{IfOk-weaker}
use Rattle.clap.specs.Simple.{app_of_fields, on_top}
use Rattle.clap.specs.Words.{Rule, app_of, rule_of, with_rule}
use Rattle.clap.specs.declared.builder.action.ArgAction.TheVariants.{SetTrue}
use Rattle.synth_run.specs.Values.{bare_app, switch_rule, value_rule}
use Rattle.synth_run.proofs.values.options_command.Goals as goal

pub returns : goal.returns
returns c =
    let session_is : rule_of c.action-session.result ≡ switch_rule (codes "session") =
    ap rule_of c.action-session.ensures
    ∙ ap (λ (r : Rule). record r { action = Some SetTrue })
    (ap rule_of c.long.ensures ∙ ap (λ (r : Rule). record r { long = Some (codes "session") }) c.new.ensures.rule) in
    let session_global = ap (λ z. z.global) c.action-session.ensures ∙ ap (λ z. z.global) c.long.ensures ∙ c.new.ensures.optional.1 in
    let script_is : rule_of c.long-script.result ≡ value_rule (codes "script") = search rules in
    let workers_is : rule_of c.long-workers.result ≡ value_rule (codes "workers") = search rules in
    let generate_is : rule_of c.long-generate.result ≡ value_rule (codes "gen") = search rules in
    let desks_is : rule_of c.long-desks.result ≡ value_rule (codes "desks") = search rules in
    let bare_is : app_of c.disable_help_flag.result ≡ bare_app =
    ap app_of_fields c.disable_help_flag.ensures
    ∙ ap (on_top (λ s. record s { disable_help_flag = true }))
    (ap app_of_fields c.no_binary_name.ensures ∙ ap (on_top (λ s. record s { no_binary_name = true })) c.new-6.ensures.app) in
    record {
      app = IfOk-weaker c.arg-5.result _ _
          (λ command added. added.shape (search rules)
          ∙ ap₂ with_rule
          (c.in_ok-arg-4.ensures.shape (search rules)
          ∙ ap₂ with_rule
          (c.in_ok-arg-3.ensures.shape (search rules)
          ∙ ap₂ with_rule
          (c.in_ok-arg-2.ensures.shape (search rules)
          ∙ ap₂ with_rule (c.in_ok-arg.ensures.shape session_global ∙ ap₂ with_rule bare_is session_is) script_is)
          workers_is)
          generate_is)
          desks_is)
          c.arg-5.ensures;
    }
