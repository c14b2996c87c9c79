-- The command by which the values of options are read.
use Rattle.std.specs.Prelude.{ℕ, List, codes, true, Some}
use Rattle.clap.specs.Words.{App, Rule, new_app, new_rule, with_rule}
use Rattle.clap.specs.Simple.{on_top}
use Rattle.clap.specs.declared.builder.action.ArgAction.TheVariants.{SetTrue}

-- an option without a value, and one with a value
abbrev pub switch_rule : List ℕ → Rule
switch_rule name = record (new_rule name) { long = Some name; action = Some SetTrue }

abbrev pub value_rule : List ℕ → Rule
value_rule name = record (new_rule name) { long = Some name }

-- a command whose words are options alone, without a help text
abbrev pub bare_app : App
bare_app = on_top (λ s. record s { no_binary_name = true; disable_help_flag = true }) (new_app (codes "rtlsyn"))

abbrev pub options_app : App
options_app =
    with_rule
    (with_rule
    (with_rule (with_rule (with_rule bare_app (switch_rule (codes "session"))) (value_rule (codes "script"))) (value_rule (codes "workers")))
    (value_rule (codes "gen")))
    (value_rule (codes "desks"))
