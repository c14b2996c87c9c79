use Rattle.pass_laws.proofs.Widening.{widened}
use Rattle.pass_laws.proofs.laws.fresh_wires_may_be_added.Goals as goal

pub returns : goal.returns
returns c = record { pass = widened }
