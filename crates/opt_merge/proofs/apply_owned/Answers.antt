use Rattle.rtl_ir.specs.Flat.Tree as flat
use Rattle.rtl_ir.specs.Types as types
use Rattle.pass_laws.specs.Pass.{IsPass}
use Rattle.pass_laws.proofs.Promised.{answered}
use Rattle.opt_merge.specs.Merge.{merge_of}
use Rattle.opt_merge.proofs.Counting.{counts_so}
use Rattle.opt_merge.proofs.Refining.{merge_pass}
use Rattle.opt_merge.proofs.Whole.{exact_driven}
use Rattle.opt_merge.proofs.apply_owned.Goals as goal

pub returns-clause-exact : goal.returns-clause-exact
returns-clause-exact c =
    let table = c.args.ports.now in
    exact_driven (types.table_ports table.modules) (flat.table_ports table) c.args.module c.requires.ready c.requires.driven c.merged.result c.merged.ensures.exact

pub returns-clause-pass : goal.returns-clause-pass
returns-clause-pass c =
    let table = c.args.ports.now in
    answered c.merged.result (merge_of c.args.module)
    (exact_driven (types.table_ports table.modules) (flat.table_ports table) c.args.module c.requires.ready c.requires.driven c.merged.result c.merged.ensures.exact)
    (IsPass table c.args.module) (merge_pass table c.args.module c.requires.ready)

pub returns-clause-fewer : goal.returns-clause-fewer
returns-clause-fewer c =
    let table = c.args.ports.now in
    counts_so c.args.module c.merged.result
    (exact_driven (types.table_ports table.modules) (flat.table_ports table) c.args.module c.requires.ready c.requires.driven c.merged.result c.merged.ensures.exact)
