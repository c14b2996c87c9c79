-- Rules for the cells that choose a part of a word by its number, or that put a word at a part.
use Rattle.std.specs.Prelude.{ℕ, ◌*◌, ◌++◌, List, length, Option, None}
use Rattle.std.specs.List.{list_all}
use Rattle.std.specs.Option.{option_map}
use Rattle.rtl_bits.specs.declared.bit.Bit.TheVariants.{S0}
use Rattle.rtl_bits.specs.Numbers.{number_of}
use Rattle.rtl_sig.specs.declared.sig.SigBit.{SigBit}
use Rattle.cell_types.specs.declared.shape.Shape.{Shape}
use Rattle.cell_types.specs.declared.word.WordKind.{WordKind}
use Rattle.cell_types.specs.declared.word.WordKind.TheVariants.{Bmux, Demux}
use Rattle.expr_rules.specs.Change.{when}
use Rattle.expr_rules.specs.Signals.{constants_of, filled, is_known_constant, part_of}
use Rattle.expr_rules.specs.declared.change.Change.{Change}
use Rattle.expr_rules.specs.declared.change.Change.TheVariants.{Gives}
use Rattle.expr_rules.specs.declared.operands.Operands.{Operands}

-- the number that constants say, where all are known
abbrev pub number_in : List SigBit → Option ℕ
number_in s = when (list_all is_known_constant s) (number_of (constants_of s))

-- `$bmux`, S known: gives the part
abbrev pub known_part : WordKind → Shape → Operands → Option Change
known_part Bmux shape o = option_map (λ part. Gives (part_of o.a (part * shape.widths.y) shape.widths.y)) (number_in o.s)
known_part kind shape o = None

-- `$demux`, S known: gives A at the part, and 0 elsewhere
abbrev pub known_place : WordKind → Operands → Option Change
known_place Demux o = option_map (λ part. Gives (filled (part * length o.a) S0 ++ o.a)) (number_in o.s)
known_place kind o = None
