use Rattle.std.proofs.Common.{◌∙◌, [], map, sym}
use Rattle.cell_gate.specs.Control.{pick_of}
use Rattle.net_model.specs.Words.{after_ports}
use Rattle.flat_net.specs.Words.{ported_of, ports_at}
use Rattle.sim_eval.specs.Shown.{shown}
use Rattle.sim_eval.proofs.SameBits.{equal}
use Rattle.sim_eval.proofs.Writing.{no_edge}
use Rattle.sim_eval.proofs.remembered.at_edge.Goals as goal

pub returns-then-eq : goal.returns-then-eq
returns-then-eq c = record {
  value = λ ps apart same within.
      let edge = c.args.edge in
      let old = c.bit_at-old.ensures.value in
      let b = c.args.bit.now in
      c.pick.ensures.value
      ∙ (λ i. pick_of edge (old i) (old i))
      ∙ no_edge edge (after_ports (shown ps c.args.before.now) b.address [] (ports_at b.at [] (map (ported_of ps) c.args.ports.now)) _) _ (equal edge _ (sym c.eq.ensures ∙ c.if-eq.true));
}

pub returns : goal.returns
returns c = record {
  value = λ ps apart same within.
      let edge = c.args.edge in
      let old = c.bit_at-old.ensures.value in
      let b = c.args.bit.now in
      c.pick-2.ensures.value
      ∙ (λ i. pick_of edge (c.in_ok-new.ensures.value ps apart same within i) (c.bit_at-old.result))
      ∙ (λ i. pick_of edge (after_ports (shown ps c.args.before.now) b.address [] (ports_at b.at [] (map (ported_of ps) c.args.ports.now)) (old i)) (old i));
}
