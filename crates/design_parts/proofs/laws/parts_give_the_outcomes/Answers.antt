use Rattle.design_parts.proofs.Outcomes.{key_same, outcome_same, stands}
use Rattle.design_parts.proofs.laws.parts_give_the_outcomes.Goals as goal

pub returns : goal.returns
returns c = record {
  stands = λ script d own. stands script own d.modules;
  outcome = λ script d own. outcome_same script own d.modules;
  key = λ script d own. key_same script own d.modules;
}
