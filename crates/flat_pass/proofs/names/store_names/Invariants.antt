-- The names so far.
use Rattle.std.proofs.Common.{◌≡◌, map, take}
use Rattle.rtl_ir.specs.declared.store.Store.{Store}
use Rattle.flat_pass.specs.ByName.{names_now}
use Rattle.flat_pass.proofs.names.store_names.Given as goal

abbrev pub invariant-loop-store : goal.invariant-loop-store
invariant-loop-store l = names_now l.names.items ≡ map (λ (x : Store). x.name) (take l.store-index l.stores)
