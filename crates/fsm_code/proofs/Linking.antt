-- Connections that are added, and cells in their places.
use Rattle.std.proofs.Common.{◌≡◌, ℕ, ◌+◌, List, [], ◌∷◌, ◌++◌, length, map, Option, Some, None, append_assoc, append-nil, refl, sym, ◌∙◌, ap}
use Rattle.std.specs.Prelude.{codes, replicate}
use Rattle.cell_types.specs.declared.pin_name.PinName.TheVariants.{Clk}
use Rattle.rtl_bits.specs.declared.bit.Bit.{Bit}
use Rattle.rtl_bits.specs.declared.bit.Bit.TheVariants.{S0}
use Rattle.rtl_sig.specs.declared.sig.SigBit.{SigBit}
use Rattle.rtl_sig.specs.declared.sig.SigBit.TheVariants.{Fixed}
use Rattle.rtl_ir.specs.declared.cell.Cell.{Cell}
use Rattle.rtl_ir.specs.declared.machine.Machine.{Machine}
use Rattle.rtl_ir.specs.declared.module.Link.{Link}
use Rattle.rtl_ir.specs.declared.module.Module.{Module}
use Rattle.rtl_ir.specs.Build.{Building, pin_of}
use Rattle.net_model.specs.Fsm.Code.{Coding, coded_cell, coded_cells, reset_pin}
use Rattle.net_model.specs.Fsm.Find.{at_pin}
use Rattle.fsm_code.specs.Links.{behind, linked, with_cells}
use Rattle.fsm_code.specs.Parts.{pins_of}

pub zeros_are : (signal : List SigBit) → replicate (length signal) (Fixed S0) ≡ map (λ s. Fixed S0) signal
zeros_are [] = refl
zeros_are (s ∷ signal) = ap (λ z. Fixed S0 ∷ z) (zeros_are signal)

-- the pins of a flip-flop, with its reset or without
pub pins_are : (c : Cell) (reset : Option (List Bit)) (d q : List SigBit) → pins_of c reset d q ≡ pin_of (codes "\\CLK") (at_pin c Clk) ∷ (reset_pin c reset ++ pin_of (codes "\\D") d ∷ pin_of (codes "\\Q") q ∷ [])
pins_are c None d q = refl
pins_are c (Some value) d q = refl

-- one cell more
module _ (m : Module) (machine : Machine) (c : Coding) (at : ℕ) (cell : Cell) (rest : List Cell) (body : Building) where
  pub cell_goes : (old new : List Cell) (before after : List Link) (all : List Cell × Building)
      → ((b : Building) → (new, linked b after) ≡ behind old (coded_cell m machine c at cell (linked b before)))
      → behind old (coded_cells m machine c at (cell ∷ rest) (linked body before)) ≡ all
      → behind new (coded_cells m machine c (at + 1) rest (linked body after)) ≡ all
  cell_goes old new before after all made so =
      let here = coded_cell m machine c at cell (linked body before) in
      let then = coded_cells m machine c (at + 1) rest here.1 in
      ap (λ (r : List Cell × Building). behind r.0 (coded_cells m machine c (at + 1) rest r.1)) (made body)
      ∙ ap (λ cells. (cells, then.1)) (append_assoc old here.0 then.0)
      ∙ so

-- no cell is left
pub cells_end : (m : Module) (machine : Machine) (c : Coding) (at : ℕ) (cells : List Cell) (links : List Link) (body : Building) (all : List Cell × Building) → behind cells (coded_cells m machine c at [] (linked body links)) ≡ all → with_cells (cells, linked body links) ≡ with_cells all
cells_end m machine c at cells links body all so =
    ap (λ z. with_cells (z, linked body links)) (sym (append-nil cells)) ∙ ap with_cells so
