use Rattle.std.proofs.Common.{◌≡◌, None, sym, ◌∙◌, ap}
use Rattle.rtl_ir.specs.Types.{table_ports}
use Rattle.net_model.specs.Fsm.Find.{machine_of}
use Rattle.fsm_steps.proofs.Turns.{none_more}
use Rattle.fsm_steps.proofs.search.next_machine.Goals as goal

pub loop-wire-preserved : goal.loop-wire-preserved
loop-wire-preserved c =
    let none : machine_of (table_ports c.args.ports.now.modules) c.args.module.now c.loop-wire.wire ≡ None =
    ap (λ m. machine_of (table_ports c.args.ports.now.modules) m c.loop-wire.wire) (sym c.in_ok-finder.ensures.body)
    ∙ sym (c.in_ok-machine.ensures.exact (table_ports c.args.ports.now.modules) c.in_ok-finder.ensures.value)
    ∙ c.in-None.is in
    none_more (table_ports c.args.ports.now.modules) c.args.module.now c.args.from c.loop-wire.wire c.loop-wire.invariant none
