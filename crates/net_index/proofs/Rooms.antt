-- What is added to a module within the limits, and how many bits the wires then have.
use Rattle.std.proofs.Common.{◌≡◌, ℕ, suc, ◌+◌, ◌-◌, ◌<◌, List, [], ◌∷◌, ◌++◌, length, map, sym, ◌∙◌, ap, arith, append_assoc, length-append}
use Rattle.std.specs.List.{range_with_len}
use Rattle.rtl_ir.specs.Build.{Building, fresh_wire, inner_wire, made_name, new_cell, new_driver, pin_of, whole}
use Rattle.rtl_ir.specs.declared.cell.Cell.{Cell}
use Rattle.rtl_ir.specs.declared.cell.CellParam.{CellParam}
use Rattle.rtl_ir.specs.declared.cell.Pin.{Pin}
use Rattle.rtl_ir.specs.declared.value.Attribute.{Attribute}
use Rattle.rtl_ir.specs.declared.wire.Wire.{Wire}
use Rattle.rtl_sig.specs.declared.sig.SigBit.{SigBit}
use Rattle.rtl_sig.specs.declared.sig.SigBit.TheVariants.{Wire as OnWire}
use Rattle.net_index.specs.Builder.{HasRoom, IsInLimits}
use Rattle.net_index.specs.Numbering.{bit_count, widths_of}

pub range_next : (at width : ℕ) → at < width → range_with_len at (width - at) ≡ at ∷ range_with_len (at + 1) (width - (at + 1))
range_next at width h = let e : width - at ≡ suc (width - (at + 1)) = omega arith in ap (range_with_len at) e

-- a wire that goes last adds its bits
pub bit_count_last : (wires : List Wire) (w : Wire) → bit_count (widths_of (wires ++ w ∷ [])) ≡ bit_count (widths_of wires) + w.width
bit_count_last [] w = omega arith
bit_count_last (v ∷ wires) w = omega (arith, bit_count_last wires w)

module _ (b : Building) where
  -- the wire and the cell that come next
  abbrev wire_of : ℕ → List Attribute → ℕ → Wire
  wire_of width attributes next = inner_wire (made_name next) width attributes

  abbrev cell_of : List ℕ → List CellParam → List Pin → Cell
  cell_of kind params pins = record { kind_name = kind; name = made_name b.next; params = params; pins = pins; attributes = [] }

  -- what there is room for is within the limits, and the other way round
  pub wire_fits : (width : ℕ) (attributes : List Attribute) → HasRoom b 0 width 1 → IsInLimits (fresh_wire width attributes b).1
  wire_fits width attributes room = record {
    cells = omega (arith, room.cells_fit);
    bits = omega (arith, room.bits_fit, bit_count_last b.body.wires (wire_of width attributes b.next));
    names = omega (arith, room.names_fit);
  }

  pub wire_room : (width : ℕ) (attributes : List Attribute) → IsInLimits (fresh_wire width attributes b).1 → HasRoom b 0 width 1
  wire_room width attributes fits = record {
    cells_fit = omega (arith, fits.cells);
    bits_fit = omega (arith, fits.bits, bit_count_last b.body.wires (wire_of width attributes b.next));
    names_fit = omega (arith, fits.names);
  }

  pub cell_fits : (kind : List ℕ) (params : List CellParam) (pins : List Pin) → HasRoom b 1 0 1 → IsInLimits (new_cell kind params pins b)
  cell_fits kind params pins room = record {
    cells = omega (arith, room.cells_fit, length-append b.body.cells (cell_of kind params pins ∷ []));
    bits = omega (arith, room.bits_fit);
    names = omega (arith, room.names_fit);
  }

  pub cell_room : (kind : List ℕ) (params : List CellParam) (pins : List Pin) → IsInLimits (new_cell kind params pins b) → HasRoom b 1 0 1
  cell_room kind params pins fits = record {
    cells_fit = omega (arith, fits.cells, length-append b.body.cells (cell_of kind params pins ∷ []));
    bits_fit = omega (arith, fits.bits);
    names_fit = omega (arith, fits.names);
  }

  pub driver_fits : (kind : List ℕ) (params : List CellParam) (pins : List Pin) (output : List ℕ) (width : ℕ) → HasRoom b 1 width 2 → IsInLimits (new_driver kind params pins output width b).1
  driver_fits kind params pins output width room = record {
    cells = omega (arith, room.cells_fit, length-append b.body.cells (cell_of kind params (pins ++ pin_of output (whole (length b.body.wires) width) ∷ []) ∷ []));
    bits = omega (arith, room.bits_fit, bit_count_last b.body.wires (wire_of width [] (b.next + 1)));
    names = omega (arith, room.names_fit);
  }

  pub driver_room : (kind : List ℕ) (params : List CellParam) (pins : List Pin) (output : List ℕ) (width : ℕ) → IsInLimits (new_driver kind params pins output width b).1 → HasRoom b 1 width 2
  driver_room kind params pins output width fits = record {
    cells_fit = omega (arith, fits.cells, length-append b.body.cells (cell_of kind params (pins ++ pin_of output (whole (length b.body.wires) width) ∷ []) ∷ []));
    bits_fit = omega (arith, fits.bits, bit_count_last b.body.wires (wire_of width [] (b.next + 1)));
    names_fit = omega (arith, fits.names);
  }

-- the bits of a wire from a place on
abbrev pub bits_from : ℕ → ℕ → ℕ → List SigBit
bits_from wire at width = map OnWire (map (λ at. record { wire = wire; at = at }) (range_with_len at (width - at)))

-- one more bit is put behind those before
pub whole_step : (old new all : List SigBit) (wire at width : ℕ) → new ≡ old ++ OnWire (record { wire = wire; at = at }) ∷ [] → at < width
    → old ++ bits_from wire at width ≡ all → new ++ bits_from wire (at + 1) width ≡ all
whole_step old new all wire at width e h i =
    let here : SigBit = OnWire (record { wire = wire; at = at }) in
    let next : bits_from wire at width ≡ here ∷ bits_from wire (at + 1) width = ap (λ places. map OnWire (map (λ at. record { wire = wire; at = at }) places)) (range_next at width h) in
    rw e (append_assoc old (here ∷ []) (bits_from wire (at + 1) width) ∙ ap (λ rest. old ++ rest) (sym next) ∙ i)

-- for `fresh_wire_with`
pub ruleset wire_rooms = (bit_count_last, wire_fits, wire_room)

-- for `add_driver`
pub ruleset driver_rooms = (bit_count_last, driver_fits, driver_room)
