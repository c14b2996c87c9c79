use Rattle.std.proofs.Common.{◌≡◌, Bool, true, sym, subst}
use Rattle.rtl_ir.specs.Types.{table_ports}
use Rattle.opt_rounds.proofs.Rounding.{one_round, pass_driven, round_same}
use Rattle.opt_rounds.proofs.round.Goals as goal

pub merged-requires : goal.merged-requires
merged-requires c = record {
  ready = c.in_ok-folded.ensures.pass.ready c.requires.ready;
  driven = pass_driven c.args.ports.now c.args.module c.in_ok-folded.folded.after c.in_ok-folded.ensures.pass c.requires.driven;
}

pub returns-clause-exact : goal.returns-clause-exact
returns-clause-exact c =
    one_round (table_ports c.args.ports.now.modules) c.args.module c.in_ok-folded.folded.after c.in_ok-merged.merged.after c.in_ok-cleaned.cleaned.after c.in_ok-folded.ensures.exact c.in_ok-merged.ensures.exact c.in_ok-cleaned.ensures.exact

pub returns-clause-same : goal.returns-clause-same
returns-clause-same c =
    subst (λ (t : Bool). t ≡ true → c.in_ok-cleaned.cleaned.after ≡ c.args.module) (sym c.are_all.ensures.value) (round_same (table_ports c.args.ports.now.modules) c.args.module c.in_ok-folded.folded.after c.in_ok-merged.merged.after c.in_ok-cleaned.cleaned.after c.in_ok-folded.folded.is_same c.in_ok-merged.merged.is_same c.in_ok-cleaned.cleaned.is_same c.in_ok-folded.ensures.same c.in_ok-merged.ensures.same c.in_ok-cleaned.ensures.same)
