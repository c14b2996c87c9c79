use Rattle.std.proofs.Common.{arith}
use Rattle.work_crew.proofs.OwnerLists.{put_same, first_same}
use Rattle.work_crew.proofs.settle.settle.Goals as goal

pub learn_all-requires : goal.learn_all-requires
learn_all-requires c = first_same c.args.owners.now.items c.settle_rows.new.owners.items c.settle_rows.ensures.same c.requires.owners

pub returns : goal.returns
returns c = record {
  once = λ k.
      let t = c.settle_rows.ensures.taken k in
      let p = put_same k c.args.owners.now.items c.settle_rows.new.owners.items c.settle_rows.ensures.same in
      let o = c.learn_all.ensures.once k in
      omega arith;
}
