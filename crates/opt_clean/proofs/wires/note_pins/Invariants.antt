-- The wires of the bits of the pins so far are noted.
use Rattle.std.proofs.Common.{◌≡◌, drop}
use Rattle.std.specs.List.{flat_map}
use Rattle.rtl_ir.specs.Signals.{wire_bits}
use Rattle.rtl_ir.specs.declared.cell.Pin.{Pin}
use Rattle.opt_clean.specs.Moving.{noted}
use Rattle.opt_clean.proofs.wires.note_pins.Given as goal

abbrev pub invariant-loop-pin : goal.invariant-loop-pin
invariant-loop-pin l =
    noted l.named.items (flat_map (λ (p : Pin). wire_bits p.sig) (drop l.pin-index l.pins))
    ≡ noted l.fn.named.items (flat_map (λ (p : Pin). wire_bits p.sig) l.pins)
