use Rattle.flat_pass.proofs.Promises.{replaced_refines}
use Rattle.flat_pass.proofs.laws.one_replacement_refines.Goals as goal

pub returns : goal.returns
returns c = record { refines = replaced_refines }
