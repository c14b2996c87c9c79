use Rattle.flat_net.proofs.places.Places.source.Goals as goal

pub returns-clause-value : goal.returns-clause-value
returns-clause-value c = λ p path. record { from = c.in_ok-from.ensures.value p path; tree = c.in_ok-tree.ensures.value }
