-- None of the processes so far reads a bit of the set.
use Rattle.std.proofs.Common.{◌≡◌, List, drop, flat_map}
use Rattle.std.specs.List.{list_any}
use Rattle.rtl_sig.specs.declared.sig.WireBit.{WireBit}
use Rattle.proc_reset.specs.Reads.{AreIn, is_among, process_signals}
use Rattle.proc_reset.proofs.free.processes_meet.Given as goal

abbrev pub invariant-loop-process : goal.invariant-loop-process
invariant-loop-process l =
    (all : List WireBit) → AreIn l.set all
    → list_any (is_among all) (flat_map process_signals (drop l.process-index l.processes)) ≡ list_any (is_among all) (flat_map process_signals l.processes)
