use Rattle.std.proofs.Common.{refl}
use Rattle.rtl_ir.specs.EventTests.{switch_test}
use Rattle.rtl_ir.specs.Flat.Process.{no_modules}
use Rattle.process_trees.specs.Edge.{edge_as}
use Rattle.flat_net.specs.declared.leaves.Raced.{Raced}
use Rattle.flat_net.specs.declared.net.Point.TheVariants.{At}
use Rattle.flat_net.proofs.Adding.{Adds-part}
use Rattle.flat_net.proofs.Kept.{within-Keeps}
use Rattle.flat_net.proofs.Reading.{Extends-then, number_read}
use Rattle.flat_net.proofs.Sourcing.{IsRoot-kept, raced_part}
use Rattle.flat_net.proofs.builder.Builder.add_race.Goals as goal

pub bit-requires : goal.bit-requires
bit-requires c = record { in_range = within-Keeps _ _ _ c.in_ok-root.ensures.grows.paths c.requires.in_range }

pub bit-requires-2 : goal.bit-requires-2
bit-requires-2 c = record { in_range = within-Keeps _ _ _ (Extends-then _ _ _ c.in_ok-root.ensures.grows c.in_ok-clock_at.ensures.grows).paths c.requires.in_range }

pub held_bits-requires : goal.held_bits-requires
held_bits-requires c =
    let e = Extends-then _ _ _ (Extends-then _ _ _ c.in_ok-root.ensures.grows c.in_ok-clock_at.ensures.grows) c.in_ok-reset_at.ensures.grows in
    record { in_range = within-Keeps _ _ _ e.paths c.requires.in_range }

pub returns-clause-rows : goal.returns-clause-rows
returns-clause-rows c = λ p path start is knows.
    let wires = c.args.scope.now.wires.now in
    let bits = c.args.tree.rooted.now.bits in
    let root = c.args.tree.rooted.now.root in
    let m = c.args.tree.tests.body.now in
    let test = switch_test no_modules m c.args.reset.bit in
    let first = c.in_ok-root.ensures.grows in
    let second = Extends-then _ _ _ first c.in_ok-clock_at.ensures.grows in
    let third = Extends-then _ _ _ second c.in_ok-reset_at.ensures.grows in
    let last = c.in_ok-bits.ensures.grows in
    let from_reset = Extends-then _ _ _ c.in_ok-reset_at.ensures.grows last in
    let from_clock = Extends-then _ _ _ c.in_ok-clock_at.ensures.grows from_reset in
    let qs = c.held_bits.new.self.places in
    let tree = IsRoot-kept _ qs from_clock.places test p wires bits c.in_ok-root.root root (c.in_ok-root.ensures.value p path test (knows, refl)) in
    let clock = number_read qs c.in_ok-clock_at.clock_at _ (from_reset.places _ _ (c.in_ok-clock_at.ensures.value p (first.paths _ _ path))) in
    let reset = number_read qs c.in_ok-reset_at.reset_at _ (last.places _ _ (c.in_ok-reset_at.ensures.value p (second.paths _ _ path))) in
    let held = c.in_ok-bits.ensures.value p (third.paths _ _ path) start is in
    let raced : Raced =
    record {
      tree = c.in_ok-root.root;
      clock = At c.in_ok-clock_at.clock_at;
      clock_level = c.level_after.result;
      reset = At c.in_ok-reset_at.reset_at;
      reset_level = c.level_after-2.result;
      bits = c.in_ok-bits.bits;
    } in
    let part =
    raced_part qs start p wires bits m root (edge_as c.args.clock) (edge_as c.args.reset) raced clock c.level_after.ensures.value reset c.level_after-2.ensures.value tree c.in_ok-new.field-0 c.args.lines.now
    c.in_ok-new.ensures.ok held in
    Adds-part _ _ _ _ (Extends-then _ _ _ third last) c.in_ok-push.ensures.items part.0 part.1
