-- The bits so far, and those at the places that are left, are all.
use Rattle.std.proofs.Common.{◌≡◌, ◌||◌, drop}
use Rattle.std.specs.HashSet.{contains}
use Rattle.std.specs.List.{list_any}
use Rattle.rtl_sig.specs.declared.sig.WireBit.{WireBit}
use Rattle.rtl_ir.specs.Signals.{same_bit}
use Rattle.proc_mux.specs.Lines.{is_bit}
use Rattle.proc_mux.proofs.begins.bits_of.Given as goal

abbrev pub invariant-loop-place : goal.invariant-loop-place
invariant-loop-place l =
    (b : WireBit) → (contains same_bit l.bits b || list_any (λ s. is_bit s b) (drop l.place-index l.places)) ≡ list_any (λ s. is_bit s b) l.places
