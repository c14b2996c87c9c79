-- The names so far.
use Rattle.std.proofs.Common.{◌≡◌, map, take}
use Rattle.rtl_ir.specs.declared.wire.Wire.{Wire}
use Rattle.flat_pass.specs.ByName.{names_now}
use Rattle.flat_pass.proofs.names.wire_names.Given as goal

abbrev pub invariant-loop-wire : goal.invariant-loop-wire
invariant-loop-wire l = names_now l.names.items ≡ map (λ (x : Wire). x.name) (take l.wire-index l.wires)
