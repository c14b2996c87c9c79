use Rattle.flat_net.proofs.Giving.{numbers_read}
use Rattle.flat_net.proofs.Results.{if_ok}
use Rattle.flat_net.proofs.places.Places.role_numbers.Goals as goal

pub returns-clause-value : goal.returns-clause-value
returns-clause-value c = λ p path. if_ok c.numbers_in.result c.numbers_in.ensures.value (λ numbers put. numbers_read _ numbers _ _ _ c.as_slice.ensures.value (c.in_ok-points.ensures.value p path) put)
