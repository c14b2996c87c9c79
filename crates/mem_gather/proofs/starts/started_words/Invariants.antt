-- The words after the cells before this place.
use Rattle.std.proofs.Common.{◌≡◌, nat_abs, take}
use Rattle.mem_gather.specs.Tables.{started, table}
use Rattle.mem_gather.proofs.starts.started_words.Given as goal

abbrev pub invariant-loop-init : goal.invariant-loop-init
invariant-loop-init l =
    l.words.items ≡ table (nat_abs l.store.offset) (nat_abs l.store.size) l.store.width (started l.store.width (take l.init-index l.inits))
