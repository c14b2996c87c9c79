use Rattle.std.proofs.Common.{rules}
use Rattle.flat_pass.specs.Flat.{put_store}
use Rattle.flat_pass.specs.Grown.{built}
use Rattle.flat_pass.proofs.Puts.{copies_put, put_next, put_over, store_rises}
use Rattle.flat_pass.proofs.grown.Grown.put_stores.Goals as goal

pub returns-in_err-put_store-clause-over : goal.returns-in_err-put_store-clause-over
returns-in_err-put_store-clause-over c = λ e.
    put_over (put_store c.args.instance.now) c.args.stores.now c.loop-store.store-index c.store-item.result c.loop-store-test.true c.store-item.is (store_rises c.args.instance.now) (built c.loop-store.self) _ c.loop-store.invariant.left
    (search (rules, c.put_store.ensures.over, e, c.from_residual.ensures))

pub loop-store-preserved : goal.loop-store-preserved
loop-store-preserved c = record {
  left = put_next (put_store c.args.instance.now) c.args.stores.now c.loop-store.store-index c.store-item.result c.loop-store-test.true c.store-item.is (built c.loop-store.self) (built c.put_store.new.self) _ c.in_ok-put_store.ensures.exact c.loop-store.invariant.left;
  names = copies_put c.args.instance.now c.args.stores.now c.loop-store.store-index c.store-item.result c.loop-store-test.true c.store-item.is (built c.loop-store.self) (built c.put_store.new.self) c.in_ok-put_store.ensures.exact c.loop-store.names c.push.new.self _ c.in_ok-put_store.field-0 c.in_ok-put_store.ensures.name c.in_ok-push.ensures.ok c.loop-store.invariant.names;
  sound = c.in_ok-put_store.ensures.sound;
}
