use Rattle.std.proofs.Common.{◌≡◌, ◌∙◌, [], length, map, subst, sym}
use Rattle.std.specs.Prelude.{slice_index_or}
use Rattle.std.specs.List.{AllByRecursion}
use Rattle.rtl_bits.specs.declared.bit.Bit.TheVariants.{X}
use Rattle.cell_gate.specs.Control.{pick_of}
use Rattle.net_model.specs.Value.{value_of}
use Rattle.net_model.specs.Words.{after_ports}
use Rattle.flat_net.specs.Within.{IsWritePortWithin}
use Rattle.flat_net.specs.Words.{ported_of, ports_at, word_row}
use Rattle.sim_eval.specs.Moment.{HasBefore, time_of}
use Rattle.sim_eval.specs.Shown.{shown}
use Rattle.sim_eval.proofs.Remembering.{remembered_same}
use Rattle.sim_eval.proofs.Taking.{if_ok_more}
use Rattle.sim_eval.proofs.remembered.remembered.Goals as goal

pub returns-in-Step : goal.returns-in-Step
returns-in-Step c = record {
  value =
      if_ok_more c.at_edge.result _ _ (λ value k ps board words within.
      let before = c.in-Step.before.now in
      let b = c.args.bit.now in
      let edge = c.edge_at-edge.result in
      let old = slice_index_or before b.number X in
      let was : length ps ≡ length before = subst (HasBefore ps) c.in-Step.is board.before in
      let inside = subst (AllByRecursion (IsWritePortWithin (length ps))) (sym c.as_slice.ensures.value) words.ports in
      subst (λ m. value_of (word_row ps c.args.words.now b).driver (time_of ps m) (shown ps c.args.now.now) ≡ value) (sym c.in-Step.is)
      (remembered_same ps before c.in-Step.inputs.now c.args.now.now (record { first = c.in-Step.first; order = c.in-Step.order }) c.args.words.now b edge value board.apart was within (c.edge_at-edge.ensures.value ps board.apart was board.now words.clock)
      (k ps board.apart was inside ∙ (λ i. pick_of edge (after_ports (shown ps before) b.address [] (ports_at b.at [] (map (ported_of ps) (c.as_slice.ensures.value i))) old) old))))
      c.at_edge.ensures.value;
}
