use Rattle.std.proofs.Common.{map, ap, subst, sym}
use Rattle.flat_net.specs.declared.registers.Register.{Register}
use Rattle.flat_net.specs.Adds.{Adds}
use Rattle.rtl_ir.specs.Flat.Process.{no_pins}
use Rattle.flat_net.specs.Reads.{ArePins}
use Rattle.flat_net.specs.Registers.{register_row}
use Rattle.flat_net.proofs.Results.{if_ok}
use Rattle.flat_net.proofs.Triggering.{bare_reads}
use Rattle.flat_net.proofs.builder.Builder.add_steps.Goals as goal

pub returns-clause-rows : goal.returns-clause-rows
returns-clause-rows c = λ p path start is.
    let ps = c.args.self.now.places.places in
    let bare = c.bare_register-register.ensures.value in
    let pins = subst (λ (r : Register). ArePins ps r.pins no_pins) (sym bare) (bare_reads ps) in
    let rows = ap (λ (r : Register). map (register_row start p c.args.scope.now.wires.now r no_pins) c.args.lines.now) bare in
    if_ok c.add_registers.result (c.add_registers.ensures.rows p path start is no_pins pins) (λ _ added. subst (Adds c.args.self.now c.add_registers.new.self) rows added)
