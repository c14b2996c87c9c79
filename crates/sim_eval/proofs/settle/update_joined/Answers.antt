use Rattle.std.proofs.Common.{◌∙◌, ap}
use Rattle.net_model.specs.Valuation.{passed_of}
use Rattle.sim_eval.proofs.Bridges.{advances_joined}
use Rattle.sim_eval.proofs.settle.update_joined.Goals as goal

pub returns-clause-advances : goal.returns-clause-advances
returns-clause-advances c = λ ps apart same l within t.
    advances_joined ps t c.args.join _ _ _ _ apart same l within (c.passed-value.ensures.value ∙ ap passed_of c.read.ensures.value) c.put.ensures.value c.put.ensures.gains
