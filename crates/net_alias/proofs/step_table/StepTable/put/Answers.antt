use Rattle.std.proofs.Common.{sym, arith}
use Rattle.net_index.proofs.IndexTables.{put_inside}
use Rattle.net_alias.proofs.step_table.StepTable.put.Goals as goal

pub returns-in-Some : goal.returns-in-Some
returns-in-Some c = record {
  ok = put_inside c.args.self.now.numbering c.args.self.now.inside.items c.args.self.now.outside c.args.bit c.in-Some.number c.args.step (sym c.in-Some.ensures.value) (let s = c.args.self.now.sized in omega (arith, c.in-Some.ensures.within));
}
