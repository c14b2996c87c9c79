-- The bits so far, and those that are left, are all of them.
use Rattle.std.proofs.Common.{◌≡◌, ◌-◌, ◌++◌, map}
use Rattle.std.specs.List.{range_with_len}
use Rattle.rtl_ir.specs.Build.{whole}
use Rattle.rtl_sig.specs.declared.sig.SigBit.TheVariants.{Wire as OnWire}
use Rattle.net_index.proofs.builder_items.whole.Given as goal

abbrev pub invariant-loop-at : goal.invariant-loop-at
invariant-loop-at l =
    l.bits ++ map OnWire (map (λ at. record { wire = l.wire; at = at }) (range_with_len l.at (l.width - l.at))) ≡ whole l.wire l.width
