-- What write ports make of a bit of a word through a chain of multiplexers, which has no masks.
use Rattle.std.specs.Prelude.{ℕ, List, [], ◌∷◌}
use Rattle.rtl_bits.specs.declared.bit.Bit.{Bit}
use Rattle.rtl_bits.specs.Tables.{and_of}
use Rattle.cell_gate.specs.Control.{pick_of}
use Rattle.rtl_sig.specs.declared.sig.SigBit.{SigBit}
use Rattle.rtl_ir.specs.declared.plan.WritePort.{WritePort}
use Rattle.rtl_ir.specs.declared.wire.Wire.{Wire}
use Rattle.rtl_ir.specs.Flat.Place.{Path}
use Rattle.rtl_ir.specs.Flat.Point.{point_at, points}
use Rattle.net_model.specs.Valuation.{Valuation, read, read_all}
use Rattle.net_model.specs.Words.{address_is}

-- what a signal has at a place, in a module with these wires at this path; past its end it is x
abbrev pub has_at : Path → List Wire → Valuation → List SigBit → ℕ → Bit
has_at p wires w signal k = read w (point_at (points p wires signal) k)

-- whether a port writes a bit of the word at an address
abbrev pub port_hit : Path → List Wire → Valuation → ℕ → ℕ → WritePort → Bit
port_hit p wires w address k port =
    and_of (has_at p wires w port.enable k) (address_is (read_all w (points p wires port.address)) address)

-- a bit of the word at an address behind ports, each of which goes before those before it
abbrev pub chained : Path → List Wire → Valuation → ℕ → ℕ → List WritePort → Bit → Bit
chained p wires w address k [] old = old
chained p wires w address k (port ∷ ports) old =
    chained p wires w address k ports (pick_of (port_hit p wires w address k port) (has_at p wires w port.data k) old)
