use Rattle.std.proofs.Common.{length, map, subst, sym}
use Rattle.std.specs.List.{AllByRecursion}
use Rattle.net_model.specs.declared.order.Order.TheVariants.{Together}
use Rattle.flat_net.specs.Within.{IsHeldBitWithin}
use Rattle.sim_eval.specs.Advance.{Takes}
use Rattle.sim_eval.specs.Race.{raced_fact}
use Rattle.sim_eval.proofs.raced.update_together.Goals as goal

pub returns-clause-takes : goal.returns-clause-takes
returns-clause-takes c = λ ps apart before now within.
    let raced = c.args.raced.now in
    let old = c.args.now.now in
    let slice = c.as_slice.ensures.value in
    subst (λ z. Takes ps (map (raced_fact ps c.args.before.now Together c.args.first raced old) z) old c.put_raced.new.now c.put_raced.result) slice
    (c.put_raced.ensures.takes ps c.args.first raced old apart before now (c.in_ok-race.ensures.value ps apart before now within)
    (subst (AllByRecursion (IsHeldBitWithin (length ps) raced.tree.width)) (sym slice) within.bits))
