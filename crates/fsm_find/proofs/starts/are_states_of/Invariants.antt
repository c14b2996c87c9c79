-- Those so far are states.
use Rattle.std.proofs.Common.{◌≡◌, drop}
use Rattle.std.specs.List.{list_all}
use Rattle.fsm_find.specs.Starts.{is_state_of}
use Rattle.fsm_find.proofs.starts.are_states_of.Given as goal

abbrev pub invariant-loop-bits : goal.invariant-loop-bits
invariant-loop-bits l = list_all (is_state_of l.width) l.list ≡ list_all (is_state_of l.width) (drop l.bits-index l.list)
