use Rattle.build_laws.proofs.CountingBits.{fresh_distinct}
use Rattle.build_laws.proofs.laws.fresh_bits_stand_once.Goals as goal

pub returns : goal.returns
returns c = record { distinct = fresh_distinct }
