use Rattle.flat_net.proofs.places.Places.cell_clock.Goals as goal

pub returns-clause-value : goal.returns-clause-value
returns-clause-value c = λ p path. record { point = c.in_ok-point.ensures.value p path; level = c.edge_level.ensures.value }
