use Rattle.std.proofs.Common.{◌++◌, ◌∷◌, [], ◌∙◌}
use Rattle.net_model.specs.Race.{unless_certain, unless_impossible}
use Rattle.sim_eval.specs.Race.{common_option}
use Rattle.sim_eval.proofs.Common.{raced_common}
use Rattle.sim_eval.proofs.race.raced_of.Goals as goal

pub returns : goal.returns
returns c =
    let clock = c.args.clock_edge in
    let reset = c.args.reset_edge in
    let old = c.unless_certain-common.ensures.value in
    let active = c.unless_impossible-common.ensures.value _ old in
    let is = c.unless_impossible-common-2.ensures.value _ active in
    let was = c.unless_impossible-common-3.ensures.value _ is in
    let edge = c.bit_or.ensures.value in
    record {
      value =
          c.unwrap_or.ensures
          ∙ raced_common clock reset c.args.was c.args.is c.args.active c.args.old _
          (was ∙ (λ i. common_option (unless_impossible clock (c.args.was ∷ []) ++ (unless_impossible clock (c.args.is ∷ []) ++ (unless_impossible reset (c.args.active ∷ []) ++ unless_certain (edge i) (c.args.old ∷ []))))));
    }
