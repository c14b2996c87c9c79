-- The start values so far are there, and those of the bits that are left follow.
use Rattle.std.proofs.Common.{◌≡◌, ◌++◌, List, [], drop, map}
use Rattle.rtl_ir.specs.declared.wire.Wire.{Wire}
use Rattle.rtl_ir.specs.Flat.Start.{start_of}
use Rattle.rtl_ir.specs.Starts.{inits_of}
use Rattle.opt_merge.specs.Rows.{bits_numbers}
use Rattle.opt_merge.specs.Traits.{bit_number}
use Rattle.opt_merge.proofs.rows.push_start_bits.Given as goal

abbrev pub invariant-loop-bit : goal.invariant-loop-bit
invariant-loop-bit l = (wires : List Wire) → l.inits ≡ inits_of wires
    → l.row.items ++ map bit_number (map (start_of wires []) (drop l.bit-index l.signal)) ≡ l.fn.row.items ++ bits_numbers (map (start_of wires []) l.signal)
