-- Multiplexers below multiplexers that choose by the same bit.
use Rattle.std.specs.Prelude.{ℕ, zero, suc, ◌&&◌, Bool, true, false, List, ◌∷◌, ◌++◌, length, map, Option, Some, None, if◌then◌else◌, slice_index_or}
use Rattle.std.specs.Option.{option_map_or}
use Rattle.std.specs.Str.{bytes_eq}
use Rattle.rtl_sig.specs.declared.sig.SigBit.{SigBit}
use Rattle.cell_types.specs.declared.gate.GateKind.TheVariants as gate
use Rattle.cell_types.specs.declared.kind.CellKind.{CellKind}
use Rattle.cell_types.specs.declared.kind.CellKind.TheVariants.{Word, Gate}
use Rattle.cell_types.specs.declared.pin_name.PinName.{PinName}
use Rattle.cell_types.specs.declared.pin_name.PinName.TheVariants.{A, B, S, Y}
use Rattle.cell_types.specs.declared.word.WordKind.TheVariants.{Mux}
use Rattle.cell_types.specs.PinName.{pin_text}
use Rattle.rtl_ir.specs.Attributes.{is_kept}
use Rattle.rtl_ir.specs.Flat.Cell.{cell_kind}
use Rattle.rtl_ir.specs.Follow.{follow}
use Rattle.rtl_ir.specs.Parameters.{signal_at}
use Rattle.rtl_ir.specs.Signals.{same_signal}
use Rattle.rtl_ir.specs.Types.{Ports}
use Rattle.rtl_ir.specs.declared.cell.Cell.{Cell}
use Rattle.rtl_ir.specs.declared.module.Link.{Link}
use Rattle.rtl_ir.specs.declared.module.Module.{Module}
use Rattle.follow_laws.specs.Inputs.{followed_cell}
use Rattle.opt_expr.specs.Places.{place_of}
use Rattle.opt_expr.specs.Sweep.{stays}
use Rattle.opt_more.specs.Changed.{with_signal}
use Rattle.opt_more.specs.Sweep.{Visiting, swept_of}

-- a kind is a multiplexer of two words, or of two bits
abbrev pub is_mux_kind : Option CellKind → Bool
is_mux_kind (Some (Word Mux)) = true
is_mux_kind (Some (Gate gate.Mux)) = true
is_mux_kind kind = false

-- a cell is one without a nonzero `\keep`
abbrev pub is_mux : Cell → Bool
is_mux c = if is_kept c.attributes then false else is_mux_kind (cell_kind c)

-- the cells as they stand now: those that are done, the one whose turn it is, and the rest
abbrev pub standing_now : List (Option Cell) → Cell → List Cell → List (Option Cell)
standing_now done c rest = done ++ Some c ∷ map Some rest

-- one of them, by its place
abbrev pub now_at : List (Option Cell) → Option ℕ → Option Cell
now_at slots None = None
now_at slots (Some at) = slice_index_or slots at None

-- a cell chooses as another does: it has its type, and its followed select is that of the other
abbrev pub chooses_as : List Link → Cell → Cell → Bool
chooses_as links c e =
    bytes_eq e.kind_name c.kind_name
    && same_signal (map (follow links) (signal_at e.pins (pin_text S))) (signal_at c.pins (pin_text S))

-- a cell chooses as another does, and its whole output is the word
abbrev pub gives_as : List Link → Cell → List SigBit → Cell → Bool
gives_as links c word e = chooses_as links c e && same_signal (signal_at e.pins (pin_text Y)) word

-- what such a cell has at an arm, followed
abbrev pub arm_of : PinName → List Link → Cell → List SigBit → Option Cell → Option (List SigBit)
arm_of arm links c word None = None
arm_of arm links c word (Some e) =
    if gives_as links c word e then Some (map (follow links) (signal_at e.pins (pin_text arm))) else None

-- the way on from a word: to the arm of the cell that gives it
abbrev pub way_on : PinName → List Cell → List (Option Cell) → List Link → Cell → List SigBit → Option (List SigBit)
way_on arm cells slots links c word = arm_of arm links c word (now_at slots (place_of cells word))

-- from a word on as long as there is a way on, at most so many times
abbrev pub walk_by : (List SigBit → Option (List SigBit)) → ℕ → List SigBit → List SigBit
walk_by on zero word = word
walk_by on (suc n) word = option_map_or (walk_by on n) (on word) word

-- from a word on to the arm of the cell that gives it, as long as there is one, at most so many times
abbrev pub walked : PinName → List Cell → List (Option Cell) → List Link → Cell → ℕ → List SigBit → List SigBit
walked arm cells slots links c n word = walk_by (way_on arm cells slots links c) n word

-- what the arm of a cell leads to, at most as often as there are cells
abbrev pub arm_end : PinName → List Cell → List (Option Cell) → List Link → Cell → List SigBit
arm_end arm cells slots links c = walked arm cells slots links c (length slots) (signal_at c.pins (pin_text arm))

-- a cell with what its arm leads to
abbrev pub with_arm : PinName → List Cell → List (Option Cell) → List Cell → List Link → Cell → Cell
with_arm arm cells done rest links c =
    record c { pins = with_signal arm (arm_end arm cells (standing_now done c rest) links c) c.pins }

-- a multiplexer whose inputs are followed: A, and then B
abbrev pub muxed_arms : List Cell → List (Option Cell) → List Cell → List Link → Cell → Cell
muxed_arms cells done rest links c = with_arm B cells done rest links (with_arm A cells done rest links c)

-- a cell, where it may be a multiplexer
abbrev pub muxed : Ports → List Cell → List (Option Cell) → List Cell → List Link → Cell → Cell
muxed ports cells done rest links c =
    if is_mux c then muxed_arms cells done rest links (followed_cell ports links c) else c

-- a cell: it keeps its place
abbrev pub muxtree_visit : Ports → List Cell → Visiting
muxtree_visit ports cells done rest links c = stays (muxed ports cells done rest links c)

-- the whole pass
abbrev pub muxtree_of : Ports → Module → Module
muxtree_of ports m = swept_of (muxtree_visit ports m.cells) m
