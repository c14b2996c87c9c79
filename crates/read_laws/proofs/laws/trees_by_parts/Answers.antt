use Rattle.read_laws.proofs.Trees.{parts}
use Rattle.read_laws.proofs.TreePlaces.{stands, only_so}
use Rattle.read_laws.proofs.laws.trees_by_parts.Goals as goal

pub returns-clause-stands : goal.returns-clause-stands
returns-clause-stands c = stands

pub returns-clause-only_so : goal.returns-clause-only_so
returns-clause-only_so c = only_so

pub returns-clause-parts : goal.returns-clause-parts
returns-clause-parts c = parts
