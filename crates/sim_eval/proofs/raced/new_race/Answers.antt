use Rattle.std.proofs.Common.{◌∙◌, ap, sym}
use Rattle.cell_gate.specs.Control.{was_of}
use Rattle.sim_eval.proofs.Bridges.{read_same}
use Rattle.sim_eval.proofs.Racing.{raced_at_reset}
use Rattle.sim_eval.proofs.raced.new_race.Goals as goal

pub returns : goal.returns
returns c = record {
  value = λ ps apart before now within.
      let raced = c.args.raced.now in
      let was = c.args.before.now in
      let reset_was = read_same ps was apart before raced.reset within.reset in
      let reset_now = read_same ps c.args.now.now apart now raced.reset within.reset in
      record {
        clock_edge = c.edge_at.ensures.value ps apart before now within.clock;
        reset_edge = c.edge_at-2.ensures.value ps apart before now within.reset;
        was = raced_at_reset ps was raced _ _ _ (c.clock_before-reset_before.ensures.value ∙ ap (was_of c.args.first) (c.read.ensures.value ∙ sym reset_was)) (c.in_ok-expanded_bits.ensures.value ps apart before tt within.tree);
        is = raced_at_reset ps was raced _ _ _ (c.read-reset_now.ensures.value ∙ sym reset_now) (c.in_ok-expanded_bits-2.ensures.value ps apart before tt within.tree);
        active = raced_at_reset ps was raced _ _ _ c.level_bit-reset_active.ensures.value (c.in_ok-expanded_bits-3.ensures.value ps apart before tt within.tree);
      };
}
