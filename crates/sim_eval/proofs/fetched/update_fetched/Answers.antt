use Rattle.std.proofs.Common.{length, subst, sym}
use Rattle.std.specs.Prelude.{flat_map}
use Rattle.std.specs.List.{AllByRecursion}
use Rattle.flat_net.specs.Within.{IsReadPortWithin}
use Rattle.flat_net.specs.Words.{port_rows}
use Rattle.sim_eval.specs.Advance.{Advances}
use Rattle.sim_eval.proofs.Taking.{if_ok_more}
use Rattle.sim_eval.proofs.fetched.update_fetched.Goals as goal

pub returns-clause-advances : goal.returns-clause-advances
returns-clause-advances c =
    let fetched = c.args.fetched.now in
    let old = c.args.now.now in
    let new = c.update_ports.new.now in
    if_ok_more c.update_ports.result _ _ (λ changed k ps apart same within t.
    subst (λ z. Advances ps t (flat_map (port_rows ps fetched) z) old new changed) c.as_slice.ensures.value
    (k ps apart same within (subst (AllByRecursion (IsReadPortWithin (length ps))) (sym c.as_slice.ensures.value) within.ports) t))
    c.update_ports.ensures.advances
