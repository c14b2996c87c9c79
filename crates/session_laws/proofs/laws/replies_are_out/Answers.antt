use Rattle.session_laws.proofs.Out.{are_out}
use Rattle.session_laws.proofs.laws.replies_are_out.Goals as goal

pub returns : goal.returns
returns c = are_out
