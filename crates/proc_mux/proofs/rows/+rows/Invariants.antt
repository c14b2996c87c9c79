-- What the parts that are left give, put in the rows so far, is what all give.
use Rattle.std.proofs.Common.{◌≡◌, ◌+◌, drop}
use Rattle.rtl_sig.specs.declared.sig.WireBit.{WireBit}
use Rattle.rtl_ir.specs.Tree.{cases_of, switches_of}
use Rattle.match_cells.specs.Numbers.{cases_size, switches_size}
use Rattle.proc_mux.specs.Rows.{cases_row, row_at, switches_row}
use Rattle.proc_mux.proofs.rows.+rows.Given as goal

abbrev pub invariant-put_case-loop-switch : goal.invariant-put_case-loop-switch
invariant-put_case-loop-switch l = record {
  all : (b : WireBit) → switches_row l.next b (switches_of (drop l.switch-index l.switch-items)) (row_at l.rows b) ≡ switches_row l.initial.next b (switches_of l.switch-items) (row_at l.initial.rows b);
  next : l.next + switches_size (switches_of (drop l.switch-index l.switch-items)) ≡ l.initial.next + switches_size (switches_of l.switch-items);
}

abbrev pub invariant-put_switch-loop-case : goal.invariant-put_switch-loop-case
invariant-put_switch-loop-case l = record {
  all : (b : WireBit) → cases_row l.next b (cases_of (drop l.case-index l.case-items)) (row_at l.rows b) ≡ cases_row l.initial.next b (cases_of l.case-items) (row_at l.initial.rows b);
  next : l.next + cases_size (cases_of (drop l.case-index l.case-items)) ≡ l.initial.next + cases_size (cases_of l.case-items);
}
