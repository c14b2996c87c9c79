-- The bits so far, and those at which the lines that are left part, are all.
use Rattle.std.proofs.Common.{◌≡◌, ◌||◌, drop}
use Rattle.std.specs.HashSet.{contains}
use Rattle.std.specs.List.{list_any}
use Rattle.rtl_sig.specs.declared.sig.WireBit.{WireBit}
use Rattle.rtl_ir.specs.declared.module.Link.{Link}
use Rattle.rtl_ir.specs.Signals.{same_bit}
use Rattle.proc_mux.specs.Begins.{IsNext, parts}
use Rattle.proc_mux.proofs.begins.begins_of.Given as goal

abbrev pub invariant-loop-line : goal.invariant-loop-line
invariant-loop-line l =
    (a b : WireBit) → IsNext a b
    → (contains same_bit l.begins b || list_any (λ (k : Link). parts a b k.left k.right) (drop l.line-index l.lines)) ≡ list_any (λ (k : Link). parts a b k.left k.right) l.lines
