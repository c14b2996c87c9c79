use Rattle.std.proofs.Common.{◌≡◌, ◌∙◌, ◌-◌, ◌++◌, ℕ, List, suc, length, get_or, ap, subst, refl, arith}
use Rattle.std.proofs.lemmas.Option.{get_or_from_slice_get}
use Rattle.rtl_ir.specs.declared.module.Module.{Module}
use Rattle.rtl_ir.specs.declared.wire.Role.TheVariants.{Input}
use Rattle.rtl_ir.specs.Flat.Tree.{design_ports, given_rows, in_tree, output_places, places, role_points, root}
use Rattle.rtl_ir.specs.Ports.{ports_of}
use Rattle.flat_net.specs.Adds.{Adds}
use Rattle.flat_net.specs.Reads.{AreNumbers}
use Rattle.flat_net.specs.Tables.{IsTable}
use Rattle.rtl_ir.specs.Flat.Rows.{rows_of}
use Rattle.flat_net.proofs.Ending.{is_net}
use Rattle.flat_net.proofs.Results.{if_ok_all}
use Rattle.flat_net.proofs.flat.flatten.Goals as goal

pub add_all-requires : goal.add_all-requires
add_all-requires c = record { outside = rw c.make-builder.ensures.places refl }

pub returns : goal.returns
returns c = record {
  value = λ m is.
      let d = c.args.design.now in
      let modules = c.as_slice-modules.ensures.value in
      let below = length c.as_slice-modules.result.now - 1 in
      let same : length c.as_slice-modules.result.now ≡ length d.modules = ap length modules in
      let levels : suc below ≡ length d.modules = omega (arith, c.requires.in_range) in
      let table = subst (λ ms. IsTable c.in_ok-table.table ms) modules c.in_ok-table.ensures.value in
      let body : c.index-modules-at.result ≡ m = c.index-modules-at.is ∙ ap (λ ms. get_or ms c.args.at c.index-modules-at.result) modules ∙ get_or_from_slice_get d.modules c.args.at m c.index-modules-at.result is in
      let top = c.index-modules-at.result in
      let titled : record top { id = c.as_slice.result.now } ≡ m = ap (λ (id : List ℕ). record top { id = id }) c.as_slice.ensures.value ∙ body in
      let rows =
      subst (λ (n : Module). Adds c.make-builder.result c.add_all.new.self (given_rows (places (role_points Input (root n) (ports_of m.wires))) 0 ++ in_tree d (rows_of (design_ports d)) (suc below) (root n) m)) titled
      (subst (λ (n : Module). Adds c.make-builder.result c.add_all.new.self (given_rows (places (role_points Input (root (record top { id = c.as_slice.result.now })) (ports_of n.wires))) 0 ++ in_tree d (rows_of (design_ports d)) (suc below) (root (record top { id = c.as_slice.result.now })) n)) body
      (c.in_ok-outputs.ensures.rows d table)) in
      let outputs = subst (λ (n : Module). AreNumbers c.add_all.new.self.places.places c.in_ok-outputs.outputs (output_places n)) titled c.in_ok-outputs.ensures.outputs in
      if_ok_all c.finish.result c.finish.ensures.count c.finish.ensures.parts c.finish.ensures.outputs (λ net count parts outs. (
        c.add_all.new.self.places.places,
        is_net net d m c.make-builder.result c.add_all.new.self c.in_ok-outputs.outputs c.args.at below is levels c.make-builder.ensures.places c.make-builder.ensures.parts rows outputs
            c.finish.ensures.apart count parts outs,
      ));
}
