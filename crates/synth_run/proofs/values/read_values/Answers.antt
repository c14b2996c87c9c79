use Rattle.std.proofs.Common.{ap, map, ◌≡◌, ◌∙◌}
use Rattle.std.specs.Prelude.{string_bytes}
use Rattle.clap.specs.Words.{found_of, is_simple, kind_of, matches_of, takes}
use Rattle.clap.specs.declared.error.kind.ErrorKind.TheVariants.{OutOfMemory}
use Rattle.clap.proofs.TakesLemmas.{passed_up}
use Rattle.synth_run.proofs.Valuing.{is_simple_app, options_read, words_taken}
use Rattle.synth_run.proofs.values.read_values.Goals as goal

pub returns-in_err-matches-clause-memory : goal.returns-in_err-matches-clause-memory
returns-in_err-matches-clause-memory c =
    let words = map string_bytes c.args.words.now in
    passed_up c.from_residual-in_err-matches.result c.in_err-matches.field-0.0 (λ error. kind_of error ≡ OutOfMemory) c.from_residual-in_err-matches.ensures.1
    (c.in_err-matches.ensures.passes (ap (λ app. takes app words) c.in_ok-options_command.ensures.app ∙ words_taken words c.requires.meant))

pub returns-clause-value : goal.returns-clause-value
returns-clause-value c =
    let words = map string_bytes c.args.words.now in
    let app_is = c.in_ok-options_command.ensures.app in
    let rows_are = (c.in_ok-matches.ensures.matches (ap is_simple app_is ∙ is_simple_app)).0 ∙ ap (λ app. matches_of app words) app_is in
    options_read words (found_of c.in_ok-matches.matches) c.get_flag.result _ _ _ _ c.requires.meant rows_are (c.get_flag.ensures.value, c.get_flag.ensures.other)
    c.get_str.ensures c.get_str-2.ensures c.get_str-3.ensures c.get_str-4.ensures
