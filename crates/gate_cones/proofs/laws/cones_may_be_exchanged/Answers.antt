use Rattle.gate_cones.proofs.Adding.{exchanged}
use Rattle.gate_cones.proofs.Exchanging.{by_bit, by_gate}
use Rattle.gate_cones.proofs.laws.cones_may_be_exchanged.Goals as goal

pub returns-clause-gate : goal.returns-clause-gate
returns-clause-gate c = λ table m pre root post leaves first second d ready is h.
    by_gate table m pre root post ready is leaves first second h.below h.old d h.new h.output h.faultless h.within

pub returns-clause-fresh : goal.returns-clause-fresh
returns-clause-fresh c = λ table m pre root post fresh new leaves first second d ready is adds h.
    exchanged table m pre root post fresh new leaves first second d ready is adds h.below h.old h.new h.output h.faultless h.within

pub returns-clause-bit : goal.returns-clause-bit
returns-clause-bit c = λ table m pre root post leaves first second y ready is h.
    by_bit table m pre root post ready is leaves first second h.below h.old h.output y h.drives h.new h.within
