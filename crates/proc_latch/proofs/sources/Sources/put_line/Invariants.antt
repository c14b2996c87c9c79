-- What is given so far, and what the places that are left give, is all.
use Rattle.std.proofs.Common.{◌≡◌, ◌++◌, drop}
use Rattle.rtl_sig.specs.declared.sig.WireBit.{WireBit}
use Rattle.rtl_ir.specs.Follow.{joins}
use Rattle.proc_latch.specs.Givens.{given_in, own_given}
use Rattle.proc_latch.proofs.sources.Sources.put_line.Given as goal

abbrev pub invariant-loop-at : goal.invariant-loop-at
invariant-loop-at l =
    (b : WireBit) → given_in l.self b ++ own_given b l.node (joins (drop l.at l.left) (drop l.at l.right)) ≡ given_in l.initial.self b ++ own_given b l.node (joins l.left l.right)
