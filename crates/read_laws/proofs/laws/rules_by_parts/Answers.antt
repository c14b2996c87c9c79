use Rattle.read_laws.proofs.Rules.{stands, only_so, parts, closes}
use Rattle.read_laws.proofs.laws.rules_by_parts.Goals as goal

pub returns-clause-stands : goal.returns-clause-stands
returns-clause-stands c = stands

pub returns-clause-only_so : goal.returns-clause-only_so
returns-clause-only_so c = only_so

pub returns-clause-parts : goal.returns-clause-parts
returns-clause-parts c = parts

pub returns-clause-closes : goal.returns-clause-closes
returns-clause-closes c = closes
