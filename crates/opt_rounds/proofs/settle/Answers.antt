use Rattle.std.proofs.Common.{◌≡◌, sym, subst}
use Rattle.std.proofs.lemmas.Result.{IfOk-weaker}
use Rattle.rtl_ir.specs.Types.{table_ports}
use Rattle.pass_laws.specs.Pass.{IsPass}
use Rattle.opt_rounds.specs.Rounds.{opt_of}
use Rattle.opt_rounds.specs.declared.Settled.{Settled}
use Rattle.opt_rounds.proofs.Rounding.{opt_pass}
use Rattle.opt_rounds.proofs.settle.Goals as goal

pub returns-clause-pass : goal.returns-clause-pass
returns-clause-pass c =
    let m = c.args.module in
    let table = c.args.ports.now in
    let P = table_ports table.modules in
    IfOk-weaker c.rounds.result (λ (done : Settled). done.after ≡ opt_of P m) (λ done. IsPass table m done.after) (λ done e. subst (IsPass table m) (sym e) (opt_pass table m c.requires.ready)) c.rounds.ensures.exact
