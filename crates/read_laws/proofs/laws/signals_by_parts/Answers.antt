use Rattle.read_laws.proofs.Places.{stands_so, only_so}
use Rattle.read_laws.proofs.SignalBits.{bits_so}
use Rattle.read_laws.proofs.laws.signals_by_parts.Goals as goal

pub returns-clause-stands : goal.returns-clause-stands
returns-clause-stands c = stands_so

pub returns-clause-only_so : goal.returns-clause-only_so
returns-clause-only_so c = only_so

pub returns-clause-bits : goal.returns-clause-bits
returns-clause-bits c = bits_so
