use Rattle.std.proofs.Common.{arith}
use Rattle.flat_net.proofs.Celling.{PutsStores-next, PutsStores-all}
use Rattle.flat_net.proofs.stores.store_bits.Goals as goal

pub loop-at-preserved : goal.loop-at-preserved
loop-at-preserved c = λ start is.
    PutsStores-next start _ _ _ _ _ _ c.loop-at.at _ _ (omega arith) (omega arith) (c.loop-at.invariant start is)
    (c.in_ok-put_store.ensures.value start _ (c.at-start.ensures.value start is))

pub returns : goal.returns
returns c = record {
  value = λ start is. rw c.from_vec.ensures.value (PutsStores-all start _ _ _ _ _ c.loop-at.at (omega arith) (c.loop-at.invariant start is));
}
