use Rattle.std.proofs.Common.{sym, ◌∙◌, ap, subst}
use Rattle.rtl_ir.specs.Types.{table_ports}
use Rattle.pass_laws.specs.Pass.{IsPass}
use Rattle.opt_more.specs.Dff.{dff_of}
use Rattle.opt_more.proofs.DffSweeping.{dff_is_pass}
use Rattle.opt_more.proofs.dff.Goals as goal

pub returns-clause-pass : goal.returns-clause-pass
returns-clause-pass c =
    let table = c.args.ports.now in
    subst (IsPass table c.args.module.now) (sym (c.in_ok-after.ensures.exact ∙ ap (dff_of (table_ports table.modules)) c.in_ok-copy.ensures.value)) (dff_is_pass table c.args.module.now c.requires.ready)
