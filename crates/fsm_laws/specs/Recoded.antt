-- The parts of a module in which a machine has its code: fresh wires, cells in their places, and connections.
use Rattle.std.specs.Prelude.{ℕ, ◌+◌, ◌==◌, Bool, true, false, List, [], ◌∷◌, ◌++◌, length, map, slice_get, Option, Some, None, if◌then◌else◌}
use Rattle.std.specs.Option.{option_map_or}
use Rattle.rtl_bits.specs.declared.bit.Bit.TheVariants.{S0, S1}
use Rattle.rtl_sig.specs.declared.sig.SigBit.{SigBit}
use Rattle.rtl_sig.specs.declared.sig.SigBit.TheVariants.{Fixed}
use Rattle.cell_types.specs.declared.pin_name.PinName.TheVariants.{Y}
use Rattle.rtl_ir.specs.declared.cell.Cell.{Cell}
use Rattle.rtl_ir.specs.declared.machine.Machine.{Machine}
use Rattle.rtl_ir.specs.declared.module.Link.{Link}
use Rattle.rtl_ir.specs.declared.module.Module.{Module}
use Rattle.rtl_ir.specs.declared.wire.Wire.{Wire}
use Rattle.rtl_ir.specs.Build.{Building, first_number, inner_wire, made_name, whole}
use Rattle.rtl_ir.specs.Flat.Cell.{cell_kind}
use Rattle.net_model.specs.Fsm.Code.{Coding, Output, code_init, coded_flop, coded_fork, compared, inverse_cell, is_equal, or_zero, state_bit, with_zeros}
use Rattle.net_model.specs.Fsm.Find.{at_pin, has_place}

-- a connection, which is none where its left has no bit
abbrev pub link_of : List SigBit → List SigBit → List Link
link_of [] right = []
link_of (l ∷ left) right = record { left = l ∷ left; right = right } ∷ []

-- the cells in the place of a compare
abbrev pub compare_cells : Cell → Bool → Option SigBit → List SigBit → List Cell
compare_cells cell true bit ys = []
compare_cells cell false None ys = []
compare_cells cell false (Some bit) [] = []
compare_cells cell false (Some bit) (y ∷ ys) = inverse_cell cell bit y ∷ []

-- the connections that come for it
abbrev pub compare_links : Bool → Option SigBit → List SigBit → List Link
compare_links true bit ys = link_of ys (with_zeros (or_zero bit) ys)
compare_links false None ys = link_of ys (with_zeros (Fixed S1) ys)
compare_links false (Some bit) [] = []
compare_links false (Some bit) (y ∷ ys) = link_of ys (map (λ s. Fixed S0) ys)

-- the bit that a compare asks for
abbrev pub asked_bit : Module → Coding → Cell → Option SigBit
asked_bit m c cell = state_bit c.states c.code (compared m c cell)

-- the cells in the place of a cell
abbrev pub cell_made : Module → Machine → Coding → ℕ → Cell → List Cell
cell_made m machine c at cell =
    if at == machine.flop
    then coded_flop m c machine.reset cell ∷ []
    else if has_place machine.muxes at
    then coded_fork m c cell ∷ []
    else if has_place machine.compares at
    then compare_cells cell (is_equal (cell_kind cell)) (asked_bit m c cell) (at_pin cell Y)
    else cell ∷ []

-- the connections that come for it
abbrev pub links_made : Module → Machine → Coding → ℕ → Cell → List Link
links_made m machine c at cell =
    if at == machine.flop
    then []
    else if has_place machine.muxes at
    then []
    else if has_place machine.compares at
    then compare_links (is_equal (cell_kind cell)) (asked_bit m c cell) (at_pin cell Y)
    else []

-- the same of cells from a place on
abbrev pub cells_made : Module → Machine → Coding → ℕ → List Cell → List Cell
cells_made m machine c at [] = []
cells_made m machine c at (cell ∷ cells) = cell_made m machine c at cell ++ cells_made m machine c (at + 1) cells

abbrev pub all_links_made : Module → Machine → Coding → ℕ → List Cell → List Link
all_links_made m machine c at [] = []
all_links_made m machine c at (cell ∷ cells) = links_made m machine c at cell ++ all_links_made m machine c (at + 1) cells

-- a module with further connections
abbrev pub linked_more : Building → List Link → Building
linked_more b links = record b { body = record b.body { links = b.body.links ++ links } }

-- the fresh wires of the outputs of the tree, from a number on
abbrev pub output_wires : ℕ → ℕ → List ℕ → List Wire
output_wires width next [] = []
output_wires width next (at ∷ places) = inner_wire (made_name next) width [] ∷ output_wires width (next + 1) places

-- the outputs with them, where they stand from a place of the list of wires on
abbrev pub outputs_made : ℕ → List Cell → ℕ → List ℕ → List Output
outputs_made width cells wire [] = []
outputs_made width cells wire (at ∷ places) =
    option_map_or (λ (c : Cell). record { before = at_pin c Y; after = whole wire width } ∷ []) (slice_get cells at) []
    ++ outputs_made width cells (wire + 1) places

-- the fresh wires of a machine
abbrev pub fresh_wires : Module → Machine → List Wire
fresh_wires m machine =
    inner_wire (made_name (first_number m)) (length machine.states) (code_init machine.states machine.start)
    ∷ output_wires (length machine.states) (first_number m + 1) machine.muxes

-- what its signals become
abbrev pub machine_coding : Module → Machine → List SigBit → Coding
machine_coding m machine state = record {
  states = machine.states;
  state = state;
  code = whole (length m.wires) (length machine.states);
  outputs = outputs_made (length machine.states) m.cells (length m.wires + 1) machine.muxes;
}

-- the module with its parts
abbrev pub recoded_with : Module → Machine → List SigBit → Module
recoded_with m machine state = record m {
  wires = m.wires ++ fresh_wires m machine;
  cells = cells_made m machine (machine_coding m machine state) 0 m.cells;
  links = m.links ++ all_links_made m machine (machine_coding m machine state) 0 m.cells;
}
