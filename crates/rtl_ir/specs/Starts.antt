-- The start values of bits, by the attributes of wires.
use Rattle.std.specs.Prelude.{◌≡◌, List, map, Some}
use Rattle.rtl_bits.specs.declared.bit.Bit.{Bit}
use Rattle.rtl_ir.specs.Flat.Start.{init_bits}
use Rattle.rtl_ir.specs.declared.wire.Wire.{Wire}

-- the bits of the attribute `\init` of each wire, none where it has no such attribute
abbrev pub inits_of : List Wire → List (List Bit)
inits_of wires = map (λ (w : Wire). init_bits (Some w)) wires

-- they are those of these wires
abbrev pub AreInits : List (List Bit) → List Wire → Type 0
AreInits inits wires = inits ≡ inits_of wires
