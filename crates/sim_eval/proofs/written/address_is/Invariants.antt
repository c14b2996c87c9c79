-- What is so of the bits so far, and of what is left of the number and the bits, is so of all.
use Rattle.std.proofs.Common.{◌≡◌, drop}
use Rattle.rtl_bits.specs.Tables.{and_of}
use Rattle.net_model.specs.Words.{address_is}
use Rattle.sim_eval.specs.Numbers.{number_word}
use Rattle.sim_eval.proofs.written.address_is.Given as goal

abbrev pub invariant-loop-point : goal.invariant-loop-point
invariant-loop-point l = address_is (number_word l.values l.address) l.number ≡ and_of l.all (address_is (number_word l.values (drop l.point-index l.address)) l.rest)
