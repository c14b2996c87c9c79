-- What the assigns that are left give, put in the rows so far, is what all give.
use Rattle.std.proofs.Common.{◌≡◌, drop}
use Rattle.rtl_sig.specs.declared.sig.WireBit.{WireBit}
use Rattle.rtl_ir.specs.Follow.{all_joins}
use Rattle.proc_mux.specs.Rows.{joins_row, row_at}
use Rattle.proc_mux.proofs.rows.put_assigns.Given as goal

abbrev pub invariant-loop-line : goal.invariant-loop-line
invariant-loop-line l =
    (b : WireBit) → joins_row l.node b (all_joins (drop l.line-index l.assigns)) (row_at l.rows b) ≡ joins_row l.node b (all_joins l.assigns) (row_at l.initial.rows b)
