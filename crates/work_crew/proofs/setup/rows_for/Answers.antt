use Rattle.std.proofs.Common.{[], ◌∷◌, length, sym, ap, ◌∙◌, subst, arith, length-append, refl}
use Rattle.work_crew.specs.Setup.{AllNoted}
use Rattle.work_crew.proofs.Setups.{keeps_refl, keeps_trans, keeps_length, keeps_first, keeps_rows, all_noted_snoc}
use Rattle.work_crew.proofs.setup.rows_for.Goals as goal

pub loop-init : goal.loop-init
loop-init c = record {
  kept = keeps_refl c.args.owners.now.items;
  capacity = refl;
  fixed = λ l. absurd (omega arith);
  noted = subst (AllNoted c.args.owners.now.items) (sym c.in_ok-rows.ensures.items) tt;
  len = ap length c.in_ok-rows.ensures.items;
  room = let k = c.in_ok-rows.ensures.capacity in omega arith;
}

pub share-requires-clause-first : goal.share-requires-clause-first
share-requires-clause-first c = keeps_first c.args.owners.now.items c.loop.owners.items c.loop.invariant.kept c.requires.first

pub share-requires-clause-room : goal.share-requires-clause-room
share-requires-clause-room c =
    let l = keeps_length c.args.owners.now.items c.loop.owners.items c.loop.invariant.kept in
    let a = c.args.owners.now.ok.0 in
    let b = c.loop.owners.ok.0 in
    let k = c.in_ok-row.ensures.capacity in
    omega arith

pub loop-preserved : goal.loop-preserved
loop-preserved c =
    let i = c.loop.invariant in
    let e = c.share.ensures in
    let q = c.push_reserved.ensures in
    record {
      kept = keeps_trans c.args.owners.now.items c.loop.owners.items c.share.new.owners.items i.kept e.kept;
      capacity = e.capacity.0 ∙ i.capacity;
      fixed = λ l. e.fixed;
      noted = subst (AllNoted c.share.new.owners.items) (sym q.items) (all_noted_snoc c.share.new.owners.items c.loop.rows.items c.share.new.row (keeps_rows c.loop.owners.items c.share.new.owners.items c.loop.rows.items e.kept i.noted) e.noted);
      len = ap length q.items ∙ (let n = i.len in omega (arith, length-append c.loop.rows.items (c.share.new.row ∷ [])));
      room = let n = i.room in let k = q.capacity in omega arith;
    }
