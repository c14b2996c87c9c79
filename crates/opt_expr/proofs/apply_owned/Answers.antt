use Rattle.std.proofs.Common.{sym, subst}
use Rattle.pass_laws.specs.Pass.{IsPass}
use Rattle.opt_expr.proofs.Sweeping.{expr_passes}
use Rattle.opt_expr.proofs.apply_owned.Goals as goal

pub returns-clause-pass : goal.returns-clause-pass
returns-clause-pass c =
    let table = c.args.ports.now in
    subst (IsPass table c.args.module) (sym c.in_ok-turn.ensures.exact) (expr_passes table c.args.module c.requires.ready)
