-- What is left to put on the module so far makes what all makes of the first, and so do the names.
use Rattle.std.proofs.Common.{◌≡◌, ◌++◌, drop}
use Rattle.flat_pass.specs.Flat.{put_all, put_store, store_copies}
use Rattle.flat_pass.specs.Grown.{IsSound, built}
use Rattle.flat_pass.proofs.grown.Grown.put_stores.Given as goal

abbrev pub invariant-loop-store : goal.invariant-loop-store
invariant-loop-store l = record {
  left : put_all (put_store l.instance) (drop l.store-index l.stores) (built l.self) ≡ put_all (put_store l.instance) l.stores (built l.initial.self);
  names : l.names ++ store_copies l.instance (drop l.store-index l.stores) (built l.self) ≡ store_copies l.instance l.stores (built l.initial.self);
  sound : IsSound l.self;
}
