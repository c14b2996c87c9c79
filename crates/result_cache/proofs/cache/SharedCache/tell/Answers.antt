use Rattle.std.proofs.Common.{◌+◌, ◌%◌, ◌^◌, arith}
use Rattle.result_cache.proofs.Steps.{tells_as}
use Rattle.result_cache.proofs.cache.SharedCache.tell.Goals as goal

pub fetch_add-requires : goal.fetch_add-requires
fetch_add-requires g c =
    let cache = c.args.self.now in
    let key = cache.table.shared.key in (
      c.requires.cache,
      (let p = c.requires.within in let w = cache.words in omega arith),
      tells_as g.row.V.Denot key.0 key.1 cache.table.shared.table_id.slots c.args.pass.now.id c.args.pass.now.me cache.shards c.args.at (λ n. (n + 1) % 2 ^ 64) cache.made,
    )
