use Rattle.std.proofs.Common.{◌≡◌, ◌++◌, map, ap, subst}
use Rattle.rtl_ir.specs.Drivers.{cell_drives, drives_of, link_drives, port_drives, rule_drives, tree_drives}
use Rattle.net_index.specs.DriverFill.{Adds, join_drive}
use Rattle.net_index.proofs.Indexing.{adds_alone, adds_both}
use Rattle.net_index.proofs.driver_fill.drivers_of.Goals as goal

pub returns : goal.returns
returns c = record {
  value = λ ports are.
      let m = c.args.module.now in
      let none = c.in_ok-drivers.drivers in
      let links : map join_drive c.args.joins.now ≡ link_drives m.links =
      ap (map join_drive) c.requires.joins in
      let by_ports : Adds none (port_drives 0 m.wires) c.add_ports.new.drivers =
      subst (λ ws. Adds none (port_drives 0 ws) c.add_ports.new.drivers) c.as_slice-wires.ensures.value c.in_ok-add_ports.ensures.ok in
      let by_cells : Adds c.add_ports.new.drivers (cell_drives ports 0 m.cells) c.add_cells.new.drivers =
      subst (λ cs. Adds c.add_ports.new.drivers (cell_drives ports 0 cs) c.add_cells.new.drivers) c.as_slice.ensures.value (c.in_ok-add_cells.ensures.ok ports are) in
      let by_links : Adds c.add_cells.new.drivers (link_drives m.links) c.add_joins.new.drivers =
      subst (λ ds. Adds c.add_cells.new.drivers ds c.add_joins.new.drivers) links c.in_ok-add_joins.ensures.ok in
      let by_trees : Adds c.add_joins.new.drivers (tree_drives 0 m.processes) c.add_trees.new.drivers =
      subst (λ ps. Adds c.add_joins.new.drivers (tree_drives 0 ps) c.add_trees.new.drivers) c.as_slice-2.ensures.value c.in_ok-add_trees.ensures.ok in
      let by_rules : Adds c.add_trees.new.drivers (rule_drives 0 m.processes) c.add_rules.new.drivers =
      subst (λ ps. Adds c.add_trees.new.drivers (rule_drives 0 ps) c.add_rules.new.drivers) c.as_slice-3.ensures.value c.in_ok-add_rules.ensures.ok in
      let two = port_drives 0 m.wires ++ cell_drives ports 0 m.cells in
      let three = two ++ link_drives m.links in
      let four = three ++ tree_drives 0 m.processes in
      let to_cells = adds_both none c.add_ports.new.drivers c.add_cells.new.drivers (port_drives 0 m.wires) (cell_drives ports 0 m.cells) by_ports by_cells in
      let to_links = adds_both none c.add_cells.new.drivers c.add_joins.new.drivers two (link_drives m.links) to_cells by_links in
      let to_trees = adds_both none c.add_joins.new.drivers c.add_trees.new.drivers three (tree_drives 0 m.processes) to_links by_trees in
      let all = adds_both none c.add_trees.new.drivers c.add_rules.new.drivers four (rule_drives 0 m.processes) to_trees by_rules in
      adds_alone none c.add_rules.new.drivers (drives_of ports m) c.in_ok-drivers.ensures.none all;
}
