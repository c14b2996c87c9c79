-- With the places that are left, those that were there and those of the row.
use Rattle.std.proofs.Common.{◌≡◌, ◌||◌, drop}
use Rattle.std.specs.HashSet.{contains}
use Rattle.std.specs.List.{list_any}
use Rattle.rtl_sig.specs.declared.sig.WireBit.{WireBit}
use Rattle.rtl_ir.specs.EventTests.{is_bit}
use Rattle.rtl_ir.specs.Signals.{same_bit}
use Rattle.process_trees.proofs.reaching.put_read.Given as goal

abbrev pub invariant-loop-source : goal.invariant-loop-source
invariant-loop-source l =
    (q : WireBit) → (contains same_bit l.read q || list_any (is_bit q) (drop l.source-index l.row)) ≡ (contains same_bit l.initial.read q || list_any (is_bit q) l.row)
