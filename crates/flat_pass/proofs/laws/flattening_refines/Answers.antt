use Rattle.flat_pass.proofs.Promises.{flattened}
use Rattle.flat_pass.proofs.laws.flattening_refines.Goals as goal

pub returns : goal.returns
returns c = record { pass = flattened }
