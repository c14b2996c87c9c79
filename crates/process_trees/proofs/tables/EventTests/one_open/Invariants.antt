-- The places so far and those of the signals that are left are all.
use Rattle.std.proofs.Common.{◌≡◌, ◌++◌, List, drop, map, flat_map}
use Rattle.rtl_sig.specs.declared.sig.SigBit.{SigBit}
use Rattle.process_trees.proofs.tables.EventTests.one_open.Given as goal

abbrev pub invariant-loop-signal : goal.invariant-loop-signal
invariant-loop-signal l =
    l.inputs.items ++ flat_map (λ (s : List SigBit). s) (map (λ s. s.now) (drop l.signal-index l.signals)) ≡ flat_map (λ (s : List SigBit). s) (map (λ s. s.now) l.signals)
