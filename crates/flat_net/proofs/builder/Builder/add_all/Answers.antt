use Rattle.std.proofs.Common.{◌≡◌, sym, subst, Some, slice_get}
use Rattle.std.proofs.lemmas.Option.{slice_get_within}
use Rattle.rtl_ir.specs.Flat.Tree.{output_places, places, role_points, root}
use Rattle.rtl_ir.specs.declared.wire.Role.TheVariants.{Input}
use Rattle.rtl_ir.specs.Ports.{ports_of}
use Rattle.flat_net.specs.Known.{Known}
use Rattle.flat_net.specs.Reads.{AreNumbers}
use Rattle.flat_net.proofs.Ending.{all_added}
use Rattle.flat_net.proofs.Reading.{AreNumbers-kept}
use Rattle.flat_net.proofs.builder.Builder.add_all.Goals as goal

pub add_tree-requires : goal.add_tree-requires
add_tree-requires c = record { in_range = rw c.in_ok-give.ensures.places (slice_get_within _ _ _ c.in_ok-ends.ensures.value.root_is) }

pub returns-clause-rows : goal.returns-clause-rows
returns-clause-rows c = λ d table.
    let ends = c.in_ok-ends.ensures.value in
    let inputs = subst (λ ns. AreNumbers c.ends.new.self.places ns (places (role_points Input (root (record c.args.body.now { id = c.args.id.now })) (ports_of c.args.body.now.wires)))) (sym c.as_slice.ensures.value) ends.inputs_are in
    let path = subst (λ (k : Known). slice_get k.paths c.in_ok-ends.ends.root ≡ Some (root (record c.args.body.now { id = c.args.id.now }))) (sym c.in_ok-give.ensures.places) ends.root_is in
    all_added c.args.self.now c.give.new.self c.add_tree.new.self c.ends.new.self _ _ c.in_ok-ends.ensures.grows (c.in_ok-give.ensures.rows _ inputs) (c.in_ok-add_tree.ensures.rows d table (root (record c.args.body.now { id = c.args.id.now })) path)

pub returns-clause-outputs : goal.returns-clause-outputs
returns-clause-outputs c =
    AreNumbers-kept _ _ c.in_ok-add_tree.ensures.grows.places _ _ (subst (λ (k : Known). AreNumbers k.places c.in_ok-ends.ends.outputs (output_places (record c.args.body.now { id = c.args.id.now }))) (sym c.in_ok-give.ensures.places) c.in_ok-ends.ensures.value.outputs_are)
