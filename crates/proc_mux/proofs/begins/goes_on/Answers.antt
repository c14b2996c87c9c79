use Rattle.std.proofs.Common.{◌^◌, ◌<◌, ◌∙◌, not, sym, ap, arith}
use Rattle.proc_mux.proofs.Beginning.{goes_is}
use Rattle.proc_mux.proofs.begins.goes_on.Goals as goal

pub returns-then-is_next : goal.returns-then-is_next
returns-then-is_next c = record {
  value = λ lines are.
      let fits : c.args.b.at < 2 ^ 32 = omega arith in
      ap not c.contains.ensures ∙ goes_is c.args.begins.now lines c.args.a c.args.b are fits (sym c.is_next.ensures.value ∙ c.if-is_next.true);
}
