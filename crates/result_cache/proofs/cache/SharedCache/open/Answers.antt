use Rattle.std.proofs.Common.{◌≡◌, length, arith}
use Rattle.result_cache.proofs.Opening.{opens}
use Rattle.result_cache.proofs.cache.SharedCache.open.Goals as goal

pub new-requires : goal.new-requires
new-requires g c =
    let n : c.len-shards.result ≡ length c.args.slots.items = omega (arith, c.len-shards.ensures, c.args.slots.ok.0) in
    let w = c.requires.words in
    opens g.row.V.Denot c.args.callers c.len-shards.result c.args.words.now c.args.slots.items (omega arith) (omega arith) c.requires.new
