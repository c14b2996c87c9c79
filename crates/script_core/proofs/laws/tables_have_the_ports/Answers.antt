use Rattle.script_core.specs.Built.{body_name}
use Rattle.script_core.proofs.Given.{given_first}
use Rattle.script_core.proofs.Tables.{agree}
use Rattle.script_core.proofs.laws.tables_have_the_ports.Goals as goal

pub returns : goal.returns
returns c = record { ports = λ d m. agree d.modules m; given = λ d readable none m i. given_first d readable none m i body_name }
