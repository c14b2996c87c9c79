use Rattle.std.proofs.Common.{◌≡◌, take}
use Rattle.rtl_bits.proofs.seq.Copied.copy_all.Given as goal

-- the items so far are copied
abbrev pub invariant-loop-item : goal.invariant-loop-item
invariant-loop-item g l = l.copies.items ≡ take l.item-index l.items
