-- The rule for shifts.
use Rattle.std.specs.Prelude.{ℕ, Bool, if◌then◌else◌, nat_lt, max, ℤ, pos, negsuc, ◌+ℤ◌, List, length, map, slice_index_or, Option, None}
use Rattle.std.specs.List.{list_all, range_with_len}
use Rattle.rtl_bits.specs.declared.bit.Bit.TheVariants.{S0, X}
use Rattle.rtl_sig.specs.Signal.{fill_of}
use Rattle.rtl_sig.specs.declared.sig.SigBit.{SigBit}
use Rattle.rtl_sig.specs.declared.sig.SigBit.TheVariants.{Fixed}
use Rattle.cell_types.specs.declared.shape.Shape.{Shape}
use Rattle.cell_types.specs.declared.word.ShiftKind.{ShiftKind}
use Rattle.cell_types.specs.declared.word.ShiftKind.TheVariants.{Sshr, Shiftx}
use Rattle.cell_types.specs.declared.word.WordKind.{WordKind}
use Rattle.cell_types.specs.declared.word.WordKind.TheVariants.{Shift}
use Rattle.cell_word.specs.Shifts.{below_of, distance_of}
use Rattle.expr_rules.specs.Change.{when}
use Rattle.expr_rules.specs.Signals.{constants_of, is_known_constant}
use Rattle.expr_rules.specs.declared.change.Change.{Change}
use Rattle.expr_rules.specs.declared.change.Change.TheVariants.{Gives}
use Rattle.expr_rules.specs.declared.operands.Operands.{Operands}

-- the bit that a kind reads at a place of the operand, extended to a width: past that width 0, but `$sshr` goes on with
-- the top bit of a signed one, and `$shiftx` has x outside the operand
abbrev pub signal_at : ShiftKind → Bool → List SigBit → ℕ → ℕ → SigBit
signal_at Sshr signed a width at = slice_index_or a at (fill_of a signed)
signal_at Shiftx signed a width at = slice_index_or a at (Fixed X)
signal_at kind signed a width at = if nat_lt at width then slice_index_or a at (fill_of a signed) else Fixed S0

-- the same at a place that may lie below 0
abbrev pub signal_from : ShiftKind → Bool → List SigBit → ℕ → ℤ → SigBit
signal_from kind signed a width (pos at) = signal_at kind signed a width at
signal_from kind signed a width (negsuc n) = Fixed (below_of kind)

-- the bits that are read at a distance
abbrev pub moved_signal : ShiftKind → Bool → List SigBit → ℤ → ℕ → List SigBit
moved_signal kind signed a distance width =
    map (λ at. signal_from kind signed a (max (length a) width) (pos at +ℤ distance)) (range_with_len 0 width)

-- a shift cell, B known: gives its bits
abbrev pub known_shift : WordKind → Shape → Operands → Option Change
known_shift (Shift kind) shape o =
    when (list_all is_known_constant o.b)
    (Gives (moved_signal kind shape.signs.a o.a (distance_of kind shape.signs.b (constants_of o.b)) shape.widths.y))
known_shift kind shape o = None
