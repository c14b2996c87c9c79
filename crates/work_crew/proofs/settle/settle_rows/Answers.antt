use Rattle.std.proofs.Common.{ap, ◌∙◌, subst, arith}
use Rattle.work_crew.specs.Settle.{AllOwned, tallies}
use Rattle.work_crew.proofs.OwnerLists.{same_refl, same_trans, rows_same, rows_snoc, tallies_snoc}
use Rattle.work_crew.proofs.settle.settle_rows.Goals as goal

pub loop-row-init : goal.loop-row-init
loop-row-init c = record { same = same_refl c.args.owners.now.items; owned = c.requires; taken = λ k. omega arith }

pub settle_row-requires : goal.settle_row-requires
settle_row-requires c = (rows_snoc c.loop-row.owners.items c.pop.new.self.items c.in-Some.row (subst (AllOwned c.loop-row.owners.items) c.in-Some.ensures.items c.loop-row.invariant.owned)).1

pub loop-row-preserved : goal.loop-row-preserved
loop-row-preserved c =
    let os = c.loop-row.owners.items in
    let ps = c.settle_row.new.owners.items in
    let i = c.loop-row.invariant in
    let s = c.settle_row.ensures.same in
    record {
      same = same_trans c.args.owners.now.items os ps i.same s;
      owned = rows_same os ps c.pop.new.self.items s (rows_snoc os c.pop.new.self.items c.in-Some.row (subst (AllOwned os) c.in-Some.ensures.items i.owned)).0;
      taken = λ k.
          let e = ap (tallies k) c.in-Some.ensures.items ∙ tallies_snoc k c.pop.new.self.items c.in-Some.row in
          let t = c.settle_row.ensures.taken k in
          let j = i.taken k in
          omega arith;
    }
