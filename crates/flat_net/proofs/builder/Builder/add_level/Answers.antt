use Rattle.rtl_ir.specs.Triggers.{trigger_of}
use Rattle.flat_net.proofs.Kept.{within-Keeps}
use Rattle.flat_net.proofs.Moduling.{Adds-behind}
use Rattle.flat_net.proofs.Triggering.{level_points, level_reads, level_rows}
use Rattle.flat_net.proofs.builder.Builder.add_level.Goals as goal

pub add_registers-requires : goal.add_registers-requires
add_registers-requires c = record { in_range = within-Keeps _ _ _ c.in_ok-enable.ensures.grows.paths c.requires.in_range }

pub returns-clause-rows : goal.returns-clause-rows
returns-clause-rows c = λ p path start is.
    let e = c.in_ok-enable.ensures.grows in
    let wires = c.args.scope.now.wires.now in
    let t = trigger_of c.args.level in
    let js = c.args.lines.now in
    let control = c.in_ok-enable.ensures.value p path in
    let made = c.level_register-register.ensures.value in
    Adds-behind c.args.self.now c.add_registers.new.self c.control.new.self _ _ e (level_rows p wires start c.control.new.self.places _ c.in_ok-enable.enable t made control js) c.add_registers.result
    (c.add_registers.ensures.rows p (e.paths _ _ path) start is (level_points p wires t) (level_reads p wires c.control.new.self.places _ c.in_ok-enable.enable t made control))
