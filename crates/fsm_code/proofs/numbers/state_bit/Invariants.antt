-- The states so far are other numbers.
use Rattle.std.proofs.Common.{◌≡◌, drop}
use Rattle.rtl_bits.specs.Numbers.{number_of}
use Rattle.net_model.specs.Fsm.Code.{state_bit}
use Rattle.fsm_code.proofs.numbers.state_bit.Given as goal

abbrev pub invariant-loop-at : goal.invariant-loop-at
invariant-loop-at l = state_bit (drop l.at l.states) (drop l.at l.code) (number_of l.bits) ≡ state_bit l.states l.code (number_of l.bits)
