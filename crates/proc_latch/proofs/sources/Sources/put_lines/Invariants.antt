-- What is given so far, and what the lines that are left give, is all.
use Rattle.std.proofs.Common.{◌≡◌, ◌++◌, drop}
use Rattle.rtl_sig.specs.declared.sig.WireBit.{WireBit}
use Rattle.rtl_ir.specs.Follow.{all_joins}
use Rattle.proc_latch.specs.Givens.{given_in, own_given}
use Rattle.proc_latch.proofs.sources.Sources.put_lines.Given as goal

abbrev pub invariant-loop-line : goal.invariant-loop-line
invariant-loop-line l =
    (b : WireBit) → given_in l.self b ++ own_given b l.node (all_joins (drop l.line-index l.lines)) ≡ given_in l.initial.self b ++ own_given b l.node (all_joins l.lines)
