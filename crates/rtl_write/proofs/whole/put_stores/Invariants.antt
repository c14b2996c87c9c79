use Rattle.std.proofs.Common.{◌≡◌, ◌++◌, take}
use Rattle.std.specs.List.{flat_map}
use Rattle.rtl_write.specs.Text.{store_text}
use Rattle.rtl_write.proofs.whole.put_stores.Given as goal

-- what was passed so far is written
abbrev pub invariant-loop-store : goal.invariant-loop-store
invariant-loop-store l = l.out ≡ l.initial.out ++ flat_map store_text (take l.store-index l.stores)
