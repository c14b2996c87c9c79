-- The drivers of the bits of a module, in a table.
use Rattle.std.specs.Prelude.{◌≡◌, ℕ, List, [], Option, Some, None, if◌then◌else◌}
use Rattle.std.specs.Option.{option_map, option_or}
use Rattle.rtl_sig.specs.declared.sig.WireBit.{WireBit}
use Rattle.rtl_ir.specs.declared.cell.Pin.{Pin}
use Rattle.rtl_ir.specs.declared.wire.Wire.{Wire}
use Rattle.rtl_ir.specs.Drivers.{Drive, FromPort, FromCell, FromLink, all_by, driver_in, is_input, places_by}
use Rattle.rtl_ir.specs.declared.follow.Join.{Join}
use Rattle.rtl_ir.specs.Outputs.{drives_pin}
use Rattle.rtl_ir.specs.Signals.{bits_of_wire, has_bit}
use Rattle.rtl_ir.specs.Types.{CellType}
use Rattle.net_index.specs.declared.driver.Driver.{Driver}
use Rattle.net_index.specs.declared.index_table.BitTable.{BitTable}
use Rattle.net_index.specs.Driver.{driver_by}
use Rattle.net_index.specs.IndexTable.{at_bit}

-- the driver of a bit in the table, and else the first of these drives
abbrev pub first_of : BitTable Driver → List Drive → WireBit → Option Driver
first_of table drives b = option_or (at_bit table b) (option_map driver_by (driver_in drives b))

-- the bits that had no driver have the first of these drives
abbrev pub Adds : BitTable Driver → List Drive → BitTable Driver → Type 0
Adds old drives new = (b : WireBit) → at_bit new b ≡ first_of old drives b

-- the table has the first of these drives of each bit, and nothing else
abbrev pub HasDrivers : BitTable Driver → List Drive → Type 0
HasDrivers table drives = (b : WireBit) → at_bit table b ≡ option_map driver_by (driver_in drives b)

-- the bits of the wire at a place, where it is an input port
abbrev pub drives_of_port : ℕ → Wire → List Drive
drives_of_port wire w = if is_input w.role then all_by FromPort (bits_of_wire wire w.width) else []

-- what a cell of this type drives by a pin
abbrev pub drives_of_pin : CellType → ℕ → ℕ → Pin → List Drive
drives_of_pin type cell pin p = if drives_pin type p.name then places_by (λ at. FromCell cell pin at) 0 p.sig else []

-- what one place of a connection drives
abbrev pub join_drive : Join → Drive
join_drive j = record { bit = j.bit; source = FromLink j.source }

-- the driver of a bit in the table, and else this one where the bit is among these
abbrev pub marked_at : BitTable Driver → List WireBit → Driver → WireBit → Option Driver
marked_at table bits driver b = option_or (at_bit table b) (if has_bit bits b then Some driver else None)
