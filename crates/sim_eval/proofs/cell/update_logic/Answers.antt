use Rattle.std.proofs.Common.{◌<◌, length, map, sym, subst}
use Rattle.std.specs.List.{AllByRecursion}
use Rattle.flat_net.specs.declared.net.Output.{Output}
use Rattle.sim_eval.specs.Advance.{Takes, output_fact}
use Rattle.sim_eval.proofs.Bridges.{advances_worked}
use Rattle.sim_eval.proofs.cell.update_logic.Goals as goal

pub returns-clause-advances : goal.returns-clause-advances
returns-clause-advances c = λ ps apart same within t.
    advances_worked ps t c.args.cell.now c.in_ok-worked.worked _ _ _ apart same within c.in_ok-worked.ensures.value
    (subst (λ z. Takes ps (map (output_fact ps c.in_ok-worked.worked) z) c.args.now.now c.put_all.new.now c.put_all.result) c.as_slice-2.ensures.value
    (c.put_all.ensures.takes ps apart same (subst (AllByRecursion (λ (o : Output). o.number < length ps)) (sym c.as_slice-2.ensures.value) within.outputs)))
