-- The memories so far have no fault.
use Rattle.std.proofs.Common.{◌≡◌, drop, flat_map}
use Rattle.rtl_ir.specs.Faults.Stores.{store_faults}
use Rattle.rtl_ir.specs.Scope.{everything}
use Rattle.rtl_check.proofs.stores.check_stores.Given as goal

abbrev pub invariant-loop-store : goal.invariant-loop-store
invariant-loop-store l = flat_map (store_faults everything l.id) (drop l.store-index l.stores) ≡ flat_map (store_faults everything l.id) l.stores
