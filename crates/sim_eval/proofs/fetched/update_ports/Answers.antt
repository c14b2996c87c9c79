use Rattle.std.proofs.Common.{◌∙◌, length, subst, sym}
use Rattle.flat_net.specs.Within.{IsReadPortWithin}
use Rattle.flat_net.specs.Words.{port_rows}
use Rattle.std.specs.Prelude.{flat_map}
use Rattle.std.proofs.lemmas.List.{take_all}
use Rattle.sim_eval.specs.Advance.{Advances}
use Rattle.sim_eval.proofs.Taking.{advances_next, all_at, fewer_more}
use Rattle.sim_eval.proofs.fetched.update_ports.Goals as goal

pub loop-port-preserved : goal.loop-port-preserved
loop-port-preserved c = record {
  fewer = fewer_more _ _ _ _ _ c.loop-port.invariant.fewer c.in_ok-changed.ensures.fewer;
  advances = λ ps apart same fetched within t.
      let port = c.port-item.result in
      let f = c.args.fetched.now in
      advances_next ps t c.args.ports.now c.loop-port.port-index port _ _ _ _ _ c.loop-port-test.true (port_rows ps f) (c.loop-port.invariant.advances ps apart same fetched within t)
      (subst (λ z. Advances ps t (port_rows ps f z) c.loop-port.now c.update_port.new.now c.in_ok-changed.field-0) c.port-item.is
      (c.in_ok-changed.ensures.advances ps apart (same ∙ sym c.loop-port.auto.now) fetched
      (subst (IsReadPortWithin (length ps)) (sym c.port-item.is) (all_at (IsReadPortWithin (length ps)) c.args.ports.now c.loop-port.port-index port within c.loop-port-test.true)) t));
}

pub returns-clause-advances : goal.returns-clause-advances
returns-clause-advances c = λ ps apart same fetched within t.
    subst (λ z. Advances ps t (flat_map (port_rows ps c.args.fetched.now) z) c.args.now.now c.loop-port.now c.loop-port.changed) (take_all c.loop-port.port-index c.args.ports.now c.loop-port-test.false) (c.loop-port.invariant.advances ps apart same fetched within t)
