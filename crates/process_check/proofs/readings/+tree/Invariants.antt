-- What is put so far, with what the rest gives, is all.
use Rattle.std.proofs.Common.{◌≡◌, ◌++◌, List, drop}
use Rattle.rtl_sig.specs.declared.sig.WireBit.{WireBit}
use Rattle.rtl_ir.specs.Tree.{cases_of, switches_of}
use Rattle.process_trees.specs.Numbers.{AreNumbers}
use Rattle.process_check.specs.Readings.{cases_edges, switches_edges}
use Rattle.process_check.proofs.readings.+tree.Given as goal

abbrev pub invariant-put_case-loop-switch : goal.invariant-put_case-loop-switch
invariant-put_case-loop-switch l =
    (bits : List WireBit) → AreNumbers l.numbers bits
    → l.edges.items ++ switches_edges bits l.signals (switches_of (drop l.switch-index l.switch-items)) ≡ l.initial.edges.items ++ switches_edges bits l.signals (switches_of l.switch-items)

abbrev pub invariant-put_switch-loop-case : goal.invariant-put_switch-loop-case
invariant-put_switch-loop-case l =
    (bits : List WireBit) → AreNumbers l.numbers bits
    → l.edges.items ++ cases_edges bits l.all.items (cases_of (drop l.case-index l.case-items)) ≡ l.initial.edges.items ++ cases_edges bits l.all.items (cases_of l.case-items)
