use Rattle.result_cache.proofs.Facts.{filled_found, value_stands}
use Rattle.result_cache.proofs.shard.Shard.facts.Goals as goal

pub returns-clause-filled : goal.returns-clause-filled
returns-clause-filled g c = filled_found c.self.invariant c.self.view_is

pub returns-clause-stands : goal.returns-clause-stands
returns-clause-stands g c = value_stands c.self.invariant c.self.view_is
