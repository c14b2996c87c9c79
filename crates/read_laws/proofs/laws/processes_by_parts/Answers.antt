use Rattle.read_laws.proofs.Processes.{stands, only_so, parts}
use Rattle.read_laws.proofs.laws.processes_by_parts.Goals as goal

pub returns-clause-stands : goal.returns-clause-stands
returns-clause-stands c = stands

pub returns-clause-only_so : goal.returns-clause-only_so
returns-clause-only_so c = only_so

pub returns-clause-parts : goal.returns-clause-parts
returns-clause-parts c = parts
