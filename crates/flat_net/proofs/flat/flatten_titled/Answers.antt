use Rattle.std.proofs.Common.{◌≡◌, ◌-◌, ◌++◌, List, suc, length, subst, refl, arith}
use Rattle.std.proofs.lemmas.List.{length-map}
use Rattle.rtl_ir.specs.declared.module.Module.{Module}
use Rattle.rtl_ir.specs.declared.wire.Role.TheVariants.{Input}
use Rattle.rtl_ir.specs.Flat.Driver.{Driven}
use Rattle.rtl_ir.specs.Flat.Rows.{rows_of}
use Rattle.rtl_ir.specs.Flat.Tree.{design_ports, given_rows, in_tree, output_places, places, role_points, root}
use Rattle.rtl_ir.specs.Ports.{ports_of}
use Rattle.flat_net.specs.Adds.{Adds}
use Rattle.flat_net.specs.Reads.{AreNumbers}
use Rattle.flat_net.specs.Titled.{titled_design, titled_module}
use Rattle.flat_net.proofs.Ending.{is_net}
use Rattle.flat_net.proofs.Results.{if_ok_all}
use Rattle.flat_net.proofs.Titling.{plain_got, titled_is, tree_under}
use Rattle.flat_net.proofs.flat.flatten_titled.Goals as goal

pub add_all-requires : goal.add_all-requires
add_all-requires c = record { outside = rw c.make-builder.ensures.places refl }

pub returns : goal.returns
returns c = record {
  value = λ m is.
      let modules = c.args.modules.now in
      let d = titled_design modules in
      let top = c.index-modules-at.result in
      let below = length modules - 1 in
      let levels : suc below ≡ length d.modules = (let long = length-map modules titled_module in omega (arith, c.requires.in_range, long)) in
      let own : titled_module top ≡ m = titled_is modules c.args.at top m c.requires.in_range c.index-modules-at.is is in
      let plain = plain_got modules c.args.at top c.requires.plain c.requires.in_range c.index-modules-at.is in
      let given = given_rows (places (role_points Input (root (titled_module top)) (ports_of top.body.now.wires))) 0 in
      let rows =
      subst (λ (n : Module). Adds c.make-builder.result c.add_all.new.self (given_rows (places (role_points Input (root n) (ports_of n.wires))) 0 ++ in_tree d (rows_of (design_ports d)) (suc below) (root n) n)) own
      (subst (λ (tree : List Driven). Adds c.make-builder.result c.add_all.new.self (given ++ tree)) (tree_under d (suc below) (root (titled_module top)) top.body.now top.id.now plain)
      (c.in_ok-outputs.ensures.rows d c.in_ok-table.ensures.value)) in
      let outputs = subst (λ (n : Module). AreNumbers c.add_all.new.self.places.places c.in_ok-outputs.outputs (output_places n)) own c.in_ok-outputs.ensures.outputs in
      if_ok_all c.finish.result c.finish.ensures.count c.finish.ensures.parts c.finish.ensures.outputs (λ net count parts outs. (
        c.add_all.new.self.places.places,
        is_net net d m c.make-builder.result c.add_all.new.self c.in_ok-outputs.outputs c.args.at below is levels c.make-builder.ensures.places c.make-builder.ensures.parts rows outputs
            c.finish.ensures.apart count parts outs,
      ));
}
