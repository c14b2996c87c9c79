-- The bits so far are there, and those that are left follow.
use Rattle.std.proofs.Common.{◌≡◌, ◌++◌, drop, map}
use Rattle.opt_merge.specs.Rows.{bits_numbers}
use Rattle.opt_merge.specs.Traits.{bit_number}
use Rattle.opt_merge.proofs.rows.push_bits.Given as goal

abbrev pub invariant-loop-bit : goal.invariant-loop-bit
invariant-loop-bit l = l.row.items ++ map bit_number (drop l.bit-index l.bits) ≡ l.fn.row.items ++ bits_numbers l.bits
