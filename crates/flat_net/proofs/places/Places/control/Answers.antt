use Rattle.std.proofs.Common.{refl}
use Rattle.flat_net.proofs.places.Places.control.Goals as goal

pub returns-clause-value : goal.returns-clause-value
returns-clause-value c = λ p path. record { point = c.in_ok-first_point.ensures.value p path; level = refl }
