-- The pass `opt_merge`: a cell goes where an earlier one gives the same.
use Rattle.std.specs.Prelude.{Bool, false, List, [], ◌∷◌, ◌++◌, find, option_map, Option, Some, None}
use Rattle.std.specs.Option.{option_map_or}
use Rattle.rtl_bits.specs.declared.bit.Bit.{Bit}
use Rattle.rtl_sig.specs.declared.sig.SigBit.{SigBit}
use Rattle.rtl_sig.specs.declared.sig.WireBit.{WireBit}
use Rattle.cell_types.specs.declared.kind.CellKind.{CellKind}
use Rattle.rtl_ir.specs.declared.cell.Cell.{Cell}
use Rattle.rtl_ir.specs.declared.module.Link.{Link}
use Rattle.rtl_ir.specs.declared.module.Module.{Module}
use Rattle.rtl_ir.specs.Flat.Start.{start_of}
use Rattle.rtl_ir.specs.Signals.{wire_bits}
use Rattle.opt_merge.specs.Traits.{Traits, merging_kind, output_of, same_traits, traits_of}

-- the cells that stay, and the connections
pub record Merging : Type 0 where
  pub cells : List Cell
  pub links : List Link

-- the traits of a cell that may be merged
abbrev pub traits_by : (SigBit → Bit) → List Link → Cell → Option Traits
traits_by start links c = option_map (λ kind. traits_of start links kind c) (merging_kind c)

-- a cell may be merged, and has these traits
abbrev pub has_traits : (SigBit → Bit) → List Link → Traits → Cell → Bool
has_traits start links traits c = option_map_or (λ own. same_traits own traits) (traits_by start links c) false

-- a cell stays
abbrev pub stay : Merging → Cell → Merging
stay m c = record { cells = m.cells ++ c ∷ []; links = m.links }

-- a cell goes: its output is connected to that of an earlier one
abbrev pub join : CellKind → Merging → Cell → Cell → Merging
join kind m earlier c = record {
  cells = m.cells;
  links = m.links ++ record { left = output_of kind c; right = output_of kind earlier } ∷ [];
}

-- a cell that may be merged goes where a cell that stays has its traits, to the first of these
abbrev pub after_kind : (SigBit → Bit) → Merging → Cell → Option CellKind → Merging
after_kind start m c None = stay m c
after_kind start m c (Some kind) =
    option_map_or (λ earlier. join kind m earlier c)
    (find (has_traits start m.links (traits_of start m.links kind c)) m.cells)
    (stay m c)

-- one cell after another, with the connections as they are by then
abbrev pub after_cells : (SigBit → Bit) → Merging → List Cell → Merging
after_cells start m [] = m
after_cells start m (c ∷ cells) = after_cells start (after_kind start m c (merging_kind c)) cells

-- before the first cell of a module
abbrev pub first_of : Module → Merging
first_of m = record { cells = []; links = m.links }

-- the cells and connections of a module after the pass
abbrev pub merging_of : Module → Merging
merging_of m = after_cells (start_of m.wires m.processes) (first_of m) m.cells

-- those of a module without processes
abbrev pub swept_of : Module → Merging
swept_of m = after_cells (start_of m.wires []) (first_of m) m.cells

-- a module with these cells and connections
abbrev pub with_merging : Module → Merging → Module
with_merging m merging = record m { cells = merging.cells; links = merging.links }

-- the bits that a cell drives, if it may be merged
abbrev pub bits_by : Cell → List WireBit
bits_by c = option_map_or (λ kind. wire_bits (output_of kind c)) (merging_kind c) []

-- the module after the pass
abbrev pub merge_of : Module → Module
merge_of m = with_merging m (merging_of m)
