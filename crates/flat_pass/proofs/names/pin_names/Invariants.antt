-- The names so far.
use Rattle.std.proofs.Common.{◌≡◌, map, take}
use Rattle.rtl_ir.specs.declared.cell.Pin.{Pin}
use Rattle.flat_pass.specs.ByName.{names_now}
use Rattle.flat_pass.proofs.names.pin_names.Given as goal

abbrev pub invariant-loop-pin : goal.invariant-loop-pin
invariant-loop-pin l = names_now l.names.items ≡ map (λ (x : Pin). x.name) (take l.pin-index l.pins)
