use Rattle.std.proofs.Common.{◌≡◌, ◌<◌, [], ◌∷◌, sym, ◌∙◌, subst, arith}
use Rattle.atomic_table.specs.Table.{Me}
use Rattle.result_cache.specs.declared.view.View.{View}
use Rattle.result_cache.specs.Stored.{Contents}
use Rattle.result_cache.specs.Shared.{view_of, seat_of}
use Rattle.result_cache.proofs.Steps.{takes_as}
use Rattle.result_cache.proofs.cache.SharedCache.take.Goals as goal

pub compare_exchange-requires : goal.compare_exchange-requires
compare_exchange-requires g c =
    let i = c.loop.invariant in
    let cache = c.args.self.now in
    let at_in : c.args.at < cache.table.shared.key.1 = let p = c.requires.within in let m = cache.made in omega arith in (
      i.2 ∙ c.requires.cache,
      (let p = c.requires.within in let w = cache.words in omega arith),
      takes_as g.row.V.Denot cache.table.shared.key.0 cache.table.shared.key.1 cache.table.shared.table_id.slots c.loop.pass.id c.loop.pass.me c.args.at
          (subst (λ (m : Me (Contents g.row.V.Denot) View). m ≡ (view_of (seat_of m.0 ∷ []), [])) (sym i.3) c.requires.view) at_in,
    )
