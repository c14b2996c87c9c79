use Rattle.std.proofs.Common.{◌≡◌, List, sym, subst, ◌∙◌}
use Rattle.std.specs.Prelude.{IfOk}
use Rattle.script_core.specs.declared.word.Word.{Word}
use Rattle.script_core.specs.Fold.{IsApplicable, fold_script}
use Rattle.script_core.specs.Words.{IsScript}
use Rattle.script_core.proofs.Reading.{read_given, read_key, value_of_answer}
use Rattle.script_core.proofs.Stepping.{starts}
use Rattle.script_core.proofs.building.outcome_of.Goals as goal

pub fold-requires : goal.fold-requires
fold-requires c = record {
  applicable = λ is.
      subst (λ (s : List Word). IsApplicable s c.in_ok-ports.ports c.in_ok-below.below.modules c.in_ok-module.module) (sym c.script.ensures.value)
      (read_given c.args.key.now c.in_ok-module.module c.in_ok-ports.ports c.in_ok-below.below
      (λ m good e. c.in_ok-module.ensures.round_trip m good (c.body.ensures.value ∙ e))
      (λ t good e. c.in_ok-ports.ensures.round_trip t good (c.ports.ensures.value ∙ e))
      (λ d good e. c.in_ok-below.ensures.round_trip d good (c.below.ensures.value ∙ e))
      c.requires.accepted (starts c.args.key.now.script (subst IsScript c.script.ensures.value is)));
}

pub returns : goal.returns
returns c =
    let read = read_key c.args.key.now c.in_ok-module.module c.in_ok-ports.ports c.in_ok-below.below
    (λ m good e. c.in_ok-module.ensures.round_trip m good (c.body.ensures.value ∙ e))
    (λ t good e. c.in_ok-ports.ensures.round_trip t good (c.ports.ensures.value ∙ e))
    (λ d good e. c.in_ok-below.ensures.round_trip d good (c.below.ensures.value ∙ e)) in
    record {
      value = value_of_answer c.args.key.now c.in_ok-module.module c.in_ok-ports.ports c.in_ok-below.below.modules read c.fold.result
          (subst (λ (s : List Word). IfOk c.fold.result (λ outcome. outcome ≡ fold_script s c.in_ok-ports.ports c.in_ok-below.below.modules c.in_ok-module.module)) c.script.ensures.value c.fold.ensures.exact);
    }
