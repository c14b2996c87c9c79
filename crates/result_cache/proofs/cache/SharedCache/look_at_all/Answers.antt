use Rattle.std.proofs.Common.{◌+◌, ◌<◌, [], refl, sym, ◌∙◌, subst, arith}
use Rattle.atomic_table.specs.Table.{Me}
use Rattle.result_cache.specs.declared.view.View.{View}
use Rattle.result_cache.specs.Stored.{Contents}
use Rattle.result_cache.specs.Shared.{view_of}
use Rattle.result_cache.specs.Meet.{LookedTo}
use Rattle.result_cache.proofs.Steps.{looks_as}
use Rattle.result_cache.proofs.Meeting.{looked_none, looked_more}
use Rattle.result_cache.proofs.cache.SharedCache.look_at_all.Goals as goal

pub loop-at-init : goal.loop-at-init
loop-at-init g c = record { cache = refl; view = c.requires.view; looked = looked_none c.args.pass.now.me.0.seats }

pub load-requires : goal.load-requires
load-requires g c =
    let i = c.loop-at.invariant in
    let cache = c.args.self.now in
    let key = cache.table.shared.key in
    let at_in : c.loop-at.at < key.1 = let p = c.loop-at-test.true in let m = cache.made in omega arith in (
      i.cache ∙ c.requires.cache,
      (let p = c.loop-at-test.true in let w = cache.words in omega arith),
      looks_as g.row.V.Denot key.0 key.1 cache.table.shared.table_id.slots c.loop-at.pass.id c.loop-at.at c.loop-at.pass.me i.view at_in,
    )

pub loop-at-preserved : goal.loop-at-preserved
loop-at-preserved g c =
    let i = c.loop-at.invariant in
    let t = c.load.ensures.2 in
    let before = c.args.pass.now.me.0.seats in
    record {
      cache = c.load.ensures.0 ∙ i.cache;
      view = t.2 ∙ (λ j. (view_of (sym t.2 j).0.seats, []));
      looked = subst (λ (m : Me (Contents g.row.V.Denot) View). LookedTo (c.loop-at.at + 1) before m.0.seats) (sym t.2) (looked_more c.loop-at.at t.0 before c.loop-at.pass.me.0.seats i.looked t.1);
    }
