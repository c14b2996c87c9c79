use Rattle.std.proofs.Common.{refl}
use Rattle.rtl_ir.specs.Flat.Pick.{no_test}
use Rattle.flat_net.proofs.Adding.{Adds-part}
use Rattle.flat_net.proofs.Kept.{within-Keeps}
use Rattle.flat_net.proofs.Reading.{Extends-then}
use Rattle.flat_net.proofs.Sourcing.{IsRoot-kept, held_part}
use Rattle.flat_net.proofs.builder.Builder.add_held.Goals as goal

pub held_bits-requires : goal.held_bits-requires
held_bits-requires c = record { in_range = within-Keeps _ _ _ c.in_ok-tree.ensures.grows.paths c.requires.in_range }

pub returns-clause-rows : goal.returns-clause-rows
returns-clause-rows c = λ p path start is may.
    let wires = c.args.scope.now.wires.now in
    let bits = c.args.rooted.now.bits in
    let root = c.args.rooted.now.root in
    let e = Extends-then _ _ _ c.in_ok-tree.ensures.grows c.in_ok-bits.ensures.grows in
    let tree = IsRoot-kept _ _ c.in_ok-bits.ensures.grows.places no_test p wires bits c.in_ok-tree.tree root (c.in_ok-tree.ensures.value p path no_test refl) in
    let held = c.in_ok-bits.ensures.value p (c.in_ok-tree.ensures.grows.paths _ _ path) start is in
    let part = held_part _ c.in_ok-held.held _ start p wires bits root _ c.in_ok-held.ensures.ok tree held (may, tt) in
    Adds-part _ _ _ _ e c.in_ok-push.ensures.items part.0 part.1
