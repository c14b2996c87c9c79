use Rattle.std.proofs.Common.{length, map, subst, sym}
use Rattle.std.specs.List.{AllByRecursion}
use Rattle.net_model.specs.declared.order.Order.TheVariants.{Released}
use Rattle.flat_net.specs.Within.{IsHeldBitWithin}
use Rattle.sim_eval.specs.Advance.{Takes}
use Rattle.sim_eval.specs.Race.{raced_fact}
use Rattle.sim_eval.proofs.Taking.{if_ok_more}
use Rattle.sim_eval.proofs.clocked.update_clocked.Goals as goal

pub returns-clause-takes : goal.returns-clause-takes
returns-clause-takes c =
    if_ok_more c.put_clocked.result _ _ (λ changed takes ps apart before now within.
    let raced = c.args.raced.now in
    let old = c.args.now.now in
    let slice = c.as_slice.ensures.value in
    subst (λ z. Takes ps (map (raced_fact ps c.args.before.now Released c.args.first raced old) z) old c.put_clocked.new.now changed) slice
    (takes ps c.args.first old apart before now (c.in_ok-clocked.ensures.value ps apart before now within) within.tree
    (subst (AllByRecursion (IsHeldBitWithin (length ps) raced.tree.width)) (sym slice) within.bits)))
    c.put_clocked.ensures.takes
