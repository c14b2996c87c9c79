use Rattle.pass_laws.proofs.Rewriting.{replaced}
use Rattle.pass_laws.proofs.laws.cells_may_be_replaced.Goals as goal

pub returns : goal.returns
returns c = record { pass = replaced }
