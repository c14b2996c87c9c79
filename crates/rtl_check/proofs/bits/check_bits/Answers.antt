use Rattle.std.proofs.Common.{◌∙◌, ap, subst, flat_map}
use Rattle.rtl_ir.specs.Drivers.{drives_of}
use Rattle.rtl_ir.specs.Faults.Bits.{bits_faults}
use Rattle.net_index.specs.Numbering.{widths_of}
use Rattle.rtl_check.specs.Finds.{Finds}
use Rattle.rtl_check.specs.Tallies.{HasCounted, Tallied, bits_of_cell, bits_of_link, bits_of_rules, bits_of_tree, port_bits, untallied, with_bits}
use Rattle.rtl_check.proofs.Scanning.{counted_tells}
use Rattle.rtl_check.proofs.Telling.{widths-with_bits}
use Rattle.rtl_check.proofs.bits.check_bits.Goals as goal

pub check_wires-requires : goal.check_wires-requires
check_wires-requires c = record {
  widths =
      ap (λ (t : Tallied). t.widths) c.in_ok-count_updates.ensures.ok.2
      ∙ widths-with_bits c.in_ok-count_updates.ensures.ok.0 c.count_trees.new.tally
      ∙ ap (λ (t : Tallied). t.widths) c.in_ok-count_trees.ensures.ok
      ∙ widths-with_bits (flat_map bits_of_tree c.as_slice-3.result.now) c.count_links.new.tally
      ∙ ap (λ (t : Tallied). t.widths) c.count_links.ensures.value
      ∙ widths-with_bits (flat_map bits_of_link c.as_slice-2.result.now) c.count_cells.new.tally
      ∙ c.count_cells.ensures.widths
      ∙ ap (λ (t : Tallied). t.widths) c.in_ok-count_ports.ensures.ok
      ∙ widths-with_bits (port_bits 0 c.as_slice-wires.result.now) c.in_ok-tally.tally
      ∙ ap (λ (t : Tallied). t.widths) c.in_ok-tally.ensures.value;
}

pub returns : goal.returns
returns c = record {
  first = λ ports are.
      let body = c.args.body.now in
      let links =
      c.count_links.ensures.value
      ∙ (λ i. with_bits (c.count_cells.ensures.value ports are i) (flat_map bits_of_link (c.as_slice-2.ensures.value i)))
      ∙ (λ i. with_bits (with_bits (c.in_ok-count_ports.ensures.ok i) (flat_map (bits_of_cell ports) (c.as_slice.ensures.value i))) (flat_map bits_of_link body.links))
      ∙ (λ i. with_bits (with_bits (with_bits (c.in_ok-tally.ensures.value i) (port_bits 0 (c.as_slice-wires.ensures.value i))) (flat_map (bits_of_cell ports) body.cells)) (flat_map bits_of_link body.links))
      ∙ (λ i. with_bits (with_bits (with_bits (untallied (widths_of (c.as_slice-wires.ensures.value i))) (port_bits 0 body.wires)) (flat_map (bits_of_cell ports) body.cells)) (flat_map bits_of_link body.links)) in
      let made = c.in_ok-count_trees.ensures.ok ∙ (λ i. with_bits (links i) (flat_map bits_of_tree (c.as_slice-3.ensures.value i))) in
      subst (λ ws. Finds c.check_wires.result (bits_faults body.id (drives_of ports body) 0 ws)) c.as_slice-wires.ensures.value (c.check_wires.ensures.first (drives_of ports body) (counted_tells ports body _ _ made (subst (λ ps. HasCounted c.count_trees.new.tally (flat_map bits_of_rules ps) c.count_updates.new.tally) c.as_slice-4.ensures.value c.in_ok-count_updates.ensures.ok)));
}
