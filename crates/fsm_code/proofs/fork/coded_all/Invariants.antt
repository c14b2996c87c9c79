-- The signals so far, and those that are left, are all.
use Rattle.std.proofs.Common.{◌≡◌, ◌++◌, map, drop}
use Rattle.net_model.specs.Fsm.Code.{coded}
use Rattle.fsm_code.specs.Outputs.{IsTabled, coding_of}
use Rattle.fsm_code.proofs.fork.coded_all.Given as goal

abbrev pub invariant-loop-signal : goal.invariant-loop-signal
invariant-loop-signal l = IsTabled l.coding.outputs → l.after.items ++ map (coded (coding_of l.coding)) (drop l.signal-index l.signals) ≡ map (coded (coding_of l.coding)) l.signals
