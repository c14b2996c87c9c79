-- None of the places so far is in the set.
use Rattle.std.proofs.Common.{◌≡◌, List, drop}
use Rattle.std.specs.List.{list_any}
use Rattle.rtl_sig.specs.declared.sig.WireBit.{WireBit}
use Rattle.proc_reset.specs.Reads.{AreIn, is_among}
use Rattle.proc_reset.proofs.sets.meets.Given as goal

abbrev pub invariant-loop-place : goal.invariant-loop-place
invariant-loop-place l = (all : List WireBit) → AreIn l.set all → list_any (is_among all) (drop l.place-index l.signal) ≡ list_any (is_among all) l.signal
