use Rattle.std.proofs.Common.{◌∙◌, ap, sym}
use Rattle.cell_gate.specs.Control.{active_of, was_of}
use Rattle.sim_eval.proofs.Bridges.{read_same}
use Rattle.sim_eval.proofs.Racing.{raced_at_reset}
use Rattle.sim_eval.proofs.clocked.new_clocked.Goals as goal

pub returns : goal.returns
returns c = record {
  value = λ ps apart before now within.
      let raced = c.args.raced.now in
      let was = c.args.before.now in
      let reset_was = read_same ps was apart before raced.reset within.reset in
      let reset_now = read_same ps c.args.now.now apart now raced.reset within.reset in
      record {
        edge = c.edge_at.ensures.value ps apart before now within.clock;
        active = c.active.ensures.value ∙ ap (active_of raced.reset_level) (c.read-2.ensures.value ∙ sym reset_now);
        was = raced_at_reset ps was raced _ _ _ (c.clock_before-reset.ensures.value ∙ ap (was_of c.args.first) (c.read.ensures.value ∙ sym reset_was)) (c.in_ok-expanded_bits.ensures.value ps apart before tt within.tree);
      };
}
