use Rattle.std.proofs.Common.{refl, sym}
use Rattle.std.specs.Prelude.{reverse}
use Rattle.rtl_ir.specs.Flat.Pick.{no_test}
use Rattle.flat_net.proofs.Rooting.{tree_made}
use Rattle.flat_net.proofs.Kept.{within-Keeps}
use Rattle.flat_net.proofs.places.Places.tree.Goals as goal

pub tree_outputs-requires : goal.tree_outputs-requires
tree_outputs-requires c = record { in_range = within-Keeps _ _ _ c.in_ok-tree.ensures.grows.paths c.requires.in_range }

pub returns-clause-value : goal.returns-clause-value
returns-clause-value c = λ p path start.
    let wires = c.args.scope.now.wires.now in
    let bits = c.args.rooted.now.bits in
    let root = c.in_ok-tree.ensures.value p path no_test refl in
    let outputs = c.in_ok-tree_outputs.ensures.value p (c.in_ok-tree.ensures.grows.paths _ _ path) in
    tree_made p wires bits start c.root.new.self.places c.tree_outputs.new.self.places c.in_ok-tree.tree.root c.in_ok-tree.tree.width c.in_ok-tree_outputs.field-0 c.args.rooted.now.root (reverse bits)
    c.in_ok-tree_outputs.ensures.grows.places root.branch outputs (sym root.width)
