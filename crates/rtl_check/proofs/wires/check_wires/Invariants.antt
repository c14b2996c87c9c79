-- The wires so far have no fault, and the set has the numbers of their ports.
use Rattle.std.proofs.Common.{◌≡◌, ℤ, List, [], drop}
use Rattle.rtl_ir.specs.Faults.Wires.{wire_faults}
use Rattle.rtl_check.specs.Numbers.{Holds}
use Rattle.rtl_check.proofs.wires.check_wires.Given as goal

abbrev pub invariant-loop-wire : goal.invariant-loop-wire
invariant-loop-wire l =
    (seen : List ℤ) × Holds l.numbers seen × (wire_faults l.id seen (drop l.wire-index l.wires) ≡ wire_faults l.id [] l.wires)
