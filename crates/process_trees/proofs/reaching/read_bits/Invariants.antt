-- The bits of the rows so far.
use Rattle.std.proofs.Common.{◌≡◌, take}
use Rattle.std.specs.HashSet.{contains}
use Rattle.std.specs.List.{list_any}
use Rattle.rtl_sig.specs.declared.sig.WireBit.{WireBit}
use Rattle.rtl_ir.specs.EventTests.{is_bit}
use Rattle.rtl_ir.specs.Signals.{same_bit}
use Rattle.process_trees.specs.Walk.{rows_of}
use Rattle.process_trees.proofs.reaching.read_bits.Given as goal

abbrev pub invariant-loop-row : goal.invariant-loop-row
invariant-loop-row l = (q : WireBit) → contains same_bit l.read q ≡ list_any (list_any (is_bit q)) (rows_of (take l.row-index l.rows))
