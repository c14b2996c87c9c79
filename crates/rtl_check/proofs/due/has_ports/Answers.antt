use Rattle.std.proofs.Common.{sym, ap, ◌∙◌}
use Rattle.rtl_ir.specs.declared.module.Module.{Module}
use Rattle.rtl_ir.specs.Types.{port_lines}
use Rattle.rtl_check.proofs.Noting.{ports_there}
use Rattle.rtl_check.proofs.due.has_ports.Goals as goal

pub returns : goal.returns
returns c = record {
  same = λ t. ports_there c.args.modules.now c.args.at c.index-modules-at.result (port_lines c.args.wires.now) c.requires.in_range c.index-modules-at.is (ap (λ (m : Module). port_lines m.wires) c.index-modules-at.is ∙ ap port_lines (sym c.as_slice.ensures.value) ∙ c.same_ports.ensures.equal t);
}
