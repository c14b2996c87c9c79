-- The start values so far and those of the wires that are left are all.
use Rattle.std.proofs.Common.{◌≡◌, ◌++◌, drop}
use Rattle.rtl_ir.specs.Starts.{inits_of}
use Rattle.rtl_ir.proofs.starts.inits.Given as goal

abbrev pub invariant-loop-wire : goal.invariant-loop-wire
invariant-loop-wire l = l.inits.items ++ inits_of (drop l.wire-index l.wires) ≡ inits_of l.wires
