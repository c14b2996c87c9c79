-- A module that a text can give has items that a text can give, and keeps the limits; and the other way round.
use Rattle.std.proofs.Common.{◌≡◌, ◌+◌, List, [], ◌∷◌, refl, arith}
use Rattle.std.specs.List.{sum_by}
use Rattle.std.proofs.lemmas.List.Sums.{sum_by-append}
use Rattle.rtl_ir.specs.Build.{Building}
use Rattle.rtl_ir.specs.declared.module.Module.{Module}
use Rattle.rtl_ir.specs.declared.wire.Wire.{Wire}
use Rattle.net_index.specs.Builder.{IsInLimits}
use Rattle.net_index.specs.Numbering.{bit_count, widths_of}
use Rattle.rtl_readable.specs.Readable.{IsReadableModule}
use Rattle.readable_laws.specs.Extends.{HasReadableItems}

pub items_of : (m : Module) → IsReadableModule m → HasReadableItems m
items_of m is = record {
  id = is.id;
  attributes = is.attributes;
  parameters = is.parameters;
  wires = is.wires;
  memories = is.memories;
  cells = is.cells;
  processes = is.processes;
  links = is.links;
  distinct = is.distinct;
}

-- the bits of a wire and of those behind it
pub widths_more : (w : Wire) (ws : List Wire) → sum_by (λ (v : Wire). v.width) (w ∷ ws) ≡ w.width + sum_by (λ (v : Wire). v.width) ws
widths_more w ws = omega (arith, sum_by-append (λ (v : Wire). v.width) (w ∷ []) ws)

-- the bits of the wires, counted by the wires or by their widths
pub counted : (ws : List Wire) → sum_by (λ (w : Wire). w.width) ws ≡ bit_count (widths_of ws)
counted [] = refl
counted (w ∷ ws) = omega (arith, widths_more w ws, counted ws)

pub within_limits : (b : Building) → HasReadableItems b.body → IsInLimits b → IsReadableModule b.body
within_limits b is limits = record {
  id = is.id;
  attributes = is.attributes;
  parameters = is.parameters;
  wires = is.wires;
  memories = is.memories;
  cells = is.cells;
  processes = is.processes;
  links = is.links;
  distinct = is.distinct;
  bits = omega (arith, limits.bits, counted b.body.wires);
  count = omega (arith, limits.cells);
}
