use Rattle.cell_types.proofs.Apart.{gate_first}
use Rattle.cell_types.proofs.kind.kind_of.Goals as goal

pub returns-in-Some : goal.returns-in-Some
returns-in-Some c = record { value = gate_first c.args.name.now c.in-Some.kind c.in-Some.ensures.value }
