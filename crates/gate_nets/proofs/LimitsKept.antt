-- What is within the limits of a builder was so before further items, and what passes one does so with them.
use Rattle.std.proofs.Common.{◌≡◌, ◌+◌, List, [], ◌∷◌, ◌++◌, length, ◌∙◌, ap, arith, length-append}
use Rattle.rtl_ir.specs.Build.{Building}
use Rattle.rtl_ir.specs.declared.cell.Cell.{Cell}
use Rattle.rtl_ir.specs.declared.module.Link.{Link}
use Rattle.rtl_ir.specs.declared.wire.Wire.{Wire}
use Rattle.net_index.specs.Builder.{IsInLimits, PassesLimit}
use Rattle.net_index.specs.Numbering.{bit_count, widths_of}
use Rattle.map_laws.specs.Expansion.{Adds}

module _ (old new : Building) (cells : List Cell) (wires : List Wire) (links : List Link) (h : Adds old new cells wires links) where
  -- what is within the limits was so before
  pub limits_before : IsInLimits new → IsInLimits old
  limits_before fits =
      let few : length new.body.cells ≡ length old.body.cells + length cells = ap (λ m. length m.cells) h.body ∙ length-append old.body.cells cells in
      let bits : bit_count (widths_of new.body.wires) ≡ bit_count (widths_of old.body.wires) + bit_count (widths_of wires) = ap (λ m. bit_count (widths_of m.wires)) h.body ∙ bits_more old.body.wires wires in
      record {
        cells = omega (arith, few, fits.cells);
        bits = omega (arith, bits, fits.bits);
        names = omega (arith, h.next, fits.names);
      }
    where
      bits_more : (ws vs : List Wire) → bit_count (widths_of (ws ++ vs)) ≡ bit_count (widths_of ws) + bit_count (widths_of vs)
      bits_more [] vs = omega arith
      bits_more (w ∷ ws) vs = omega (arith, bits_more ws vs)

  -- where a module passes a limit, it does with further items
  pub over_later : PassesLimit old → PassesLimit new
  over_later over fits = over (limits_before fits)
