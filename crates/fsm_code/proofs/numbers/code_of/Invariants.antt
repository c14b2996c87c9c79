-- The bits so far, and those of the states that are left, are all.
use Rattle.std.proofs.Common.{◌≡◌, ◌++◌, drop}
use Rattle.rtl_bits.specs.Numbers.{number_of}
use Rattle.net_model.specs.Fsm.Code.{code_of}
use Rattle.fsm_code.proofs.numbers.code_of.Given as goal

abbrev pub invariant-loop-state : goal.invariant-loop-state
invariant-loop-state l = l.code ++ code_of (drop l.state-index l.states) (number_of l.bits) ≡ code_of l.states (number_of l.bits)
