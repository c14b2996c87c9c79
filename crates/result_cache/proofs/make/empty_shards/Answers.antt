use Rattle.std.proofs.Common.{◌+◌, length, sym, ap, ◌∙◌, subst}
use Rattle.result_cache.specs.Shared.{AreUncalled}
use Rattle.result_cache.proofs.Opening.{uncalled_snoc, length_snoc}
use Rattle.result_cache.proofs.make.empty_shards.Goals as goal

pub loop-preserved : goal.loop-preserved
loop-preserved g c =
    let i = c.loop.invariant in
    let D = g.row.V.Denot in
    let more = c.in_ok-push.ensures.items in
    record {
      count = ap length more ∙ length_snoc D c.loop.shards.items c.make.result ∙ ap (λ n. n + 1) i.count;
      new = subst AreUncalled (sym more) (uncalled_snoc D c.loop.shards.items c.make.result i.new c.make.ensures.history);
    }
