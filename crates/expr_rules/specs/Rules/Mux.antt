-- Rules for multiplexers.
use Rattle.std.specs.Prelude.{ℕ, ◌&&◌, if◌then◌else◌, List, [], ◌∷◌, map, slice_index_or, Option, Some, None}
use Rattle.std.specs.Option.{option_map}
use Rattle.std.specs.List.{list_all, range_with_len}
use Rattle.rtl_bits.specs.declared.bit.Bit.TheVariants.{S0, S1, X}
use Rattle.rtl_sig.specs.declared.sig.SigBit.{SigBit}
use Rattle.rtl_sig.specs.declared.sig.SigBit.TheVariants.{Fixed}
use Rattle.cell_types.specs.declared.kind.CellKind.{CellKind}
use Rattle.cell_types.specs.declared.shape.Shape.{Shape}
use Rattle.cell_types.specs.declared.word.WordKind.{WordKind}
use Rattle.cell_types.specs.declared.word.WordKind.TheVariants as Word
use Rattle.expr_rules.specs.Change.{chooser, first_some, inverter, when}
use Rattle.rtl_ir.specs.Signals.{same_signal}
use Rattle.expr_rules.specs.Signals.{first_bit, is_bit, is_known_constant, is_one, is_unknown_constant}
use Rattle.expr_rules.specs.declared.change.Change.{Change}
use Rattle.expr_rules.specs.declared.change.Change.TheVariants.{Gives}
use Rattle.expr_rules.specs.declared.operands.Operands.{Operands}

-- the arm that a known bit chooses
abbrev pub arm_of : SigBit → List SigBit → List SigBit → Option Change
arm_of (Fixed S0) a b = Some (Gives a)
arm_of (Fixed S1) a b = Some (Gives b)
arm_of s a b = None

-- S known: gives the arm
abbrev pub known_select : WordKind → Operands → Option Change
known_select Word.Mux o = arm_of (first_bit o.s) o.a o.b
known_select kind o = None

-- A equals B: gives A
abbrev pub equal_arms : WordKind → Operands → Option Change
equal_arms Word.Mux o = when (same_signal o.a o.b) (Gives o.a)
equal_arms kind o = None

-- an arm all unknown constants, A before B: gives the other arm
abbrev pub unknown_arm : WordKind → Operands → Option Change
unknown_arm Word.Mux o =
    first_some (when (list_all is_unknown_constant o.a) (Gives o.b)) (when (list_all is_unknown_constant o.b) (Gives o.a))
unknown_arm kind o = None

-- one bit, A 0, B 1: gives S
abbrev pub select_itself : WordKind → Operands → Option Change
select_itself Word.Mux o = when (is_bit S0 o.a && is_bit S1 o.b) (Gives o.s)
select_itself kind o = None

-- one bit, A 1, B 0: becomes an inverter of S
abbrev pub select_inverse : WordKind → CellKind → Operands → Option Change
select_inverse Word.Mux own o = when (is_bit S1 o.a && is_bit S0 o.b) (inverter own o.s)
select_inverse kind own o = None

-- S from an inverter of one bit: its A chooses, the arms change places
abbrev pub inverted_select : WordKind → CellKind → Operands → Option Change
inverted_select Word.Mux own o = option_map (λ s. chooser own o.b o.a (s ∷ [])) o.inverted
inverted_select kind own o = None

-- the bit of the arm that a bit of S chooses
abbrev pub arm_bit : Operands → ℕ → SigBit
arm_bit o at =
    if is_one (slice_index_or o.s at (Fixed X)) then slice_index_or o.b at (Fixed X) else slice_index_or o.a at (Fixed X)

-- `$bwmux`, all bits of S known: gives per bit the arm's bit
abbrev pub known_selects : WordKind → Shape → Operands → Option Change
known_selects Word.Bwmux shape o =
    when (list_all is_known_constant o.s) (Gives (map (arm_bit o) (range_with_len 0 shape.widths.y)))
known_selects kind shape o = None

-- `$bwmux`, A equals B: gives A
abbrev pub equal_words : WordKind → Operands → Option Change
equal_words Word.Bwmux o = when (same_signal o.a o.b) (Gives o.a)
equal_words kind o = None
