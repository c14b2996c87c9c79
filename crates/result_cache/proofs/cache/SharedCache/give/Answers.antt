use Rattle.std.proofs.Common.{◌<◌, arith}
use Rattle.result_cache.proofs.Steps.{gives_as}
use Rattle.result_cache.proofs.cache.SharedCache.give.Goals as goal

pub store-requires : goal.store-requires
store-requires g c =
    let cache = c.args.self.now in
    let key = cache.table.shared.key in
    let at_in : c.args.at < key.1 = let p = c.requires.within in let m = cache.made in omega arith in (
      c.requires.cache,
      (let p = c.requires.within in let w = cache.words in omega arith),
      gives_as g.row.V.Denot key.0 key.1 cache.table.shared.table_id.slots c.args.pass.id c.args.pass.me c.args.at at_in c.requires.shard,
    )
