-- A module that is added to only grows: where it passes a limit, it does with whatever is added later.
use Rattle.std.proofs.Common.{ℕ, ◌+◌, ◌≤◌, List, [], ◌∷◌, ◌++◌, length, arith, length-append}
use Rattle.std.specs.Prelude.{codes}
use Rattle.rtl_sig.specs.declared.sig.SigBit.{SigBit}
use Rattle.rtl_ir.specs.Build.{Building, inner_wire, integer_param, made_name, new_driver, new_link, pin_of, whole}
use Rattle.rtl_ir.specs.declared.cell.Cell.{Cell}
use Rattle.rtl_ir.specs.declared.cell.CellParam.{CellParam}
use Rattle.rtl_ir.specs.declared.cell.Pin.{Pin}
use Rattle.net_index.specs.Builder.{PassesLimit}
use Rattle.net_index.specs.Numbering.{bit_count, widths_of}
use Rattle.net_index.proofs.Rooms.{bit_count_last}
use Rattle.net_model.specs.Proc.Mux.{equal_cell, joined_bits, mux_cell}
use Rattle.match_cells.specs.Parts.{binary_params, equal_pins, mux_pins, or_cell, or_params}

-- a module has no fewer cells, bits of wires and numbers of names than before
pub record Grows (a b : Building) : Type 0 where
  pub cells : length a.body.cells ≤ length b.body.cells
  pub bits : bit_count (widths_of a.body.wires) ≤ bit_count (widths_of b.body.wires)
  pub names : a.next ≤ b.next

pub grows_none : (b : Building) → Grows b b
grows_none b = record { cells = omega arith; bits = omega arith; names = omega arith }

pub grows_more : (a b c : Building) → Grows a b → Grows b c → Grows a c
grows_more a b c g h = record {
  cells = omega (arith, g.cells, h.cells);
  bits = omega (arith, g.bits, h.bits);
  names = omega (arith, g.names, h.names);
}

pub over_later : (a b : Building) → Grows a b → PassesLimit a → PassesLimit b
over_later a b g over fits =
    over (record {
      cells = omega (arith, g.cells, fits.cells);
      bits = omega (arith, g.bits, fits.bits);
      names = omega (arith, g.names, fits.names);
    })

pub driver_grows : (kind : List ℕ) (params : List CellParam) (pins : List Pin) (output : List ℕ) (width : ℕ) (b : Building) → Grows b (new_driver kind params pins output width b).1
driver_grows kind params pins output width b = record {
  cells = omega (arith, length-append b.body.cells (cell ∷ []));
  bits = omega (arith, bit_count_last b.body.wires (inner_wire (made_name (b.next + 1)) width []));
  names = omega arith;
}
  where
    cell : Cell
    cell = record {
      kind_name = kind;
      name = made_name b.next;
      params = params;
      pins = pins ++ pin_of output (whole (length b.body.wires) width) ∷ [];
      attributes = [];
    }

pub link_grows : (left right : List SigBit) (b : Building) → Grows b (new_link left right b)
link_grows left right b = record { cells = omega arith; bits = omega arith; names = omega arith }

pub equal_grows : (places : List (SigBit × SigBit)) (b : Building) → Grows b (equal_cell places b).1
equal_grows places b = driver_grows (codes "$eq") (binary_params (length places)) (equal_pins places) (codes "\\Y") 1 b

pub or_grows : (bits : List SigBit) (b : Building) → Grows b (or_cell bits b).1
or_grows bits b = driver_grows (codes "$reduce_or") (or_params (length bits)) (pin_of (codes "\\A") bits ∷ []) (codes "\\Y") 1 b

pub mux_grows : (x y : List SigBit) (s : SigBit) (b : Building) → Grows b (mux_cell x y s b).1
mux_grows x y s b = driver_grows (codes "$mux") (integer_param (codes "\\WIDTH") (length x) ∷ []) (mux_pins x y s) (codes "\\Y") (length x) b

pub joined_grows : (bits : List SigBit) (b : Building) → Grows b (joined_bits bits b).1
joined_grows [] b = or_grows [] b
joined_grows (s ∷ []) b = grows_none b
joined_grows (s ∷ t ∷ bits) b = or_grows (s ∷ t ∷ bits) b
