-- What the places that are left give, put in the rows so far, is what all give.
use Rattle.std.proofs.Common.{◌≡◌, drop}
use Rattle.rtl_sig.specs.declared.sig.WireBit.{WireBit}
use Rattle.rtl_ir.specs.Follow.{joins}
use Rattle.proc_mux.specs.Rows.{joins_row, row_at}
use Rattle.proc_mux.proofs.rows.put_line.Given as goal

abbrev pub invariant-loop-at : goal.invariant-loop-at
invariant-loop-at l =
    (b : WireBit) → joins_row l.node b (joins (drop l.at l.left) (drop l.at l.right)) (row_at l.rows b) ≡ joins_row l.node b (joins l.left l.right) (row_at l.initial.rows b)
