-- The bits so far, and those of the signals that are left, are all.
use Rattle.std.proofs.Common.{◌≡◌, ◌++◌, List, drop}
use Rattle.std.specs.Prelude.{flat_map}
use Rattle.rtl_sig.specs.declared.sig.SigBit.{SigBit}
use Rattle.fsm_code.proofs.fork.others.Given as goal

abbrev pub invariant-loop-at : goal.invariant-loop-at
invariant-loop-at l = l.joined.items ++ flat_map (λ (s : List SigBit). s) (drop l.at l.signals) ≡ flat_map (λ (s : List SigBit). s) (drop 1 l.signals)
