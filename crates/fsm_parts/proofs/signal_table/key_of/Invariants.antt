-- The numbers so far and those of the bits that are left are all.
use Rattle.std.proofs.Common.{◌≡◌, ◌++◌, drop}
use Rattle.fsm_parts.specs.SignalTable.{key_of}
use Rattle.fsm_parts.proofs.signal_table.key_of.Given as goal

abbrev pub invariant-loop-bit : goal.invariant-loop-bit
invariant-loop-bit l = l.key.items ++ key_of (drop l.bit-index l.signal) ≡ key_of l.signal
