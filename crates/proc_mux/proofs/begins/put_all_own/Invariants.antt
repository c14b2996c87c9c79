-- The bits so far, and those at the places that are left, are all.
use Rattle.std.proofs.Common.{◌≡◌, ◌||◌, ◌&&◌, not, drop}
use Rattle.std.specs.HashSet.{contains}
use Rattle.std.specs.List.{list_any}
use Rattle.rtl_sig.specs.declared.sig.WireBit.{WireBit}
use Rattle.rtl_ir.specs.Signals.{same_bit}
use Rattle.proc_mux.specs.Begins.{IsNext}
use Rattle.proc_mux.specs.Lines.{is_bit}
use Rattle.proc_mux.proofs.begins.put_all_own.Given as goal

abbrev pub invariant-loop-place : goal.invariant-loop-place
invariant-loop-place l =
    (a b : WireBit) → IsNext a b
    → (contains same_bit l.begins b || list_any (λ s. is_bit s b && not (contains same_bit l.named a)) (drop l.place-index l.places))
    ≡ (contains same_bit l.initial.begins b || list_any (λ s. is_bit s b && not (contains same_bit l.named a)) l.places)
