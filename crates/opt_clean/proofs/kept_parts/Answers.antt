use Rattle.rtl_ir.specs.Types.{table_ports}
use Rattle.opt_clean.proofs.Linking.{is_once}
use Rattle.opt_clean.proofs.kept_parts.Goals as goal

pub returns : goal.returns
returns c =
    let m = c.args.module in
    let ports = table_ports c.args.ports.now.modules in
    record {
      exact = c.in_ok-kept.ensures.exact ports c.in_ok-types.ensures.value c.in_ok-index.ensures.value (is_once ports m c.requires.ready);
      same = c.in_ok-kept.ensures.same;
    }
