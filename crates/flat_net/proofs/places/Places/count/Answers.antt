use Rattle.std.proofs.Common.{subst}
use Rattle.flat_net.specs.Known.{Known}
use Rattle.flat_net.specs.Points.{AreApart}
use Rattle.flat_net.proofs.Apart.{spots_apart}
use Rattle.flat_net.proofs.places.Places.count.Goals as goal

pub returns-clause-apart : goal.returns-clause-apart
returns-clause-apart c = subst (λ (k : Known). AreApart k.places) c.self.view_is (spots_apart _ _ _ c.self.invariant c.len.ensures.unique)
