-- Options as the code has them.
use Rattle.std.specs.Option.{option_map}
use Rattle.synth_run.specs.declared.options.Given.{Given}
use Rattle.synth_run.specs.declared.options.Form.{Form}
use Rattle.synth_run.specs.declared.options.Form.TheVariants as forms
use Rattle.synth_run.specs.Options as options

-- the options that the code has found
abbrev pub given_as : Given → options.Given
given_as given = record {
  session = given.session;
  script = option_map (λ value. value.now) given.script;
  workers = option_map (λ value. value.now) given.workers;
  generate = option_map (λ value. value.now) given.generate;
  desks = option_map (λ value. value.now) given.desks;
}

abbrev pub form_as : Form → options.Form
form_as forms.Session = options.session
form_as (forms.Before name) = options.before name
form_as (forms.Holds name value) = options.holds name value.now
form_as forms.Nothing = options.nothing
