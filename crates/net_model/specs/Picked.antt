-- Values that are picked by choices, and bits that hold.
use Rattle.std.specs.Prelude.{Bool, true, false, List, [], ◌∷◌, if◌then◌else◌}
use Rattle.rtl_bits.specs.declared.bit.Bit.{Bit}
use Rattle.rtl_bits.specs.declared.bit.Bit.TheVariants.{S0, S1, X}
use Rattle.rtl_bits.specs.Knowledge.{is_known}
use Rattle.rtl_bits.specs.Tables.{seen_of, not_of, and_of, or_of, xor_of, merge_of}
use Rattle.rtl_ir.specs.Flat.Pick.{Pick, Is, Where, WhereReset}
use Rattle.rtl_ir.specs.Flat.Place.{Place, place_same}
use Rattle.rtl_ir.specs.Flat.Point.{Point, Constant, At}
use Rattle.net_model.specs.Valuation.{Valuation, read, read_all}

-- 1 where two known bits are equal, 0 where they differ, x where one is unknown
abbrev pub equal_of : Bit → Bit → Bit
equal_of a b = not_of (xor_of a b)

-- whether a bit of a signal matches a place of a pattern; an unknown constant there matches anything
abbrev pub place_match : Valuation → Bit → Point → Bit
place_match v s (Constant p) = if is_known p then equal_of s p else S1
place_match v s (At q) = equal_of s (v q)

-- whether a signal matches a pattern: 0 where a known bit differs, 1 where all are known and equal, else x, which is open
abbrev pub pattern_match : Valuation → List Bit → List Point → Bit
pattern_match v [] pattern = S1
pattern_match v (s ∷ signal) [] = S1
pattern_match v (s ∷ signal) (p ∷ pattern) = and_of (place_match v s p) (pattern_match v signal pattern)

-- whether a signal matches one of these patterns: 1 where one does, 0 where none does, else x
abbrev pub case_match : Valuation → List Bit → List (List Point) → Bit
case_match v signal [] = S0
case_match v signal (p ∷ patterns) = or_of (pattern_match v signal p) (case_match v signal patterns)

-- a where a choice is met, b where it is not, the merge of both where it is open
abbrev pub chosen_of : Bit → Bit → Bit → Bit
chosen_of S1 a b = a
chosen_of S0 a b = b
chosen_of choice a b = merge_of a b

-- a test of a bit, or its inverse
abbrev pub tested_of : Bool → Bit → Bit
tested_of false reset = seen_of reset
tested_of true reset = not_of reset

-- what a pick comes to, of what its leaves have, over a valuation, where this is the bit of the reset that choices test
abbrev pub picked_by : (Point → Bit) → Valuation → Bit → Pick → Bit
picked_by leaf v reset (Is s) = leaf s
picked_by leaf v reset (Where signal patterns met other) =
    chosen_of (case_match v (read_all v signal) patterns) (picked_by leaf v reset met) (picked_by leaf v reset other)
picked_by leaf v reset (WhereReset inverse patterns met other) =
    chosen_of (case_match v (tested_of inverse reset ∷ []) patterns) (picked_by leaf v reset met) (picked_by leaf v reset other)

-- the value of a pick
abbrev pub picked : Valuation → Bit → Pick → Bit
picked v reset tree = picked_by (read v) v reset tree

-- what a leaf has where the bit itself has this
abbrev pub own_or : Place → Bit → Valuation → Point → Bit
own_or own bit v (Constant b) = b
own_or own bit v (At q) = if place_same q own then bit else v q

-- 1 for the bit itself, 0 for any other leaf
abbrev pub mark_of : Place → Point → Bit
mark_of own (Constant b) = S0
mark_of own (At q) = if place_same q own then S1 else S0

-- whether a bit holds: 1 where each leaf that its value reaches is the bit itself, 0 where none is, else x
abbrev pub holds_of : Place → Valuation → Pick → Bit
holds_of own v tree = picked_by (mark_of own) v X tree

-- the old value where a bit holds, the new one where it does not, else x
abbrev pub held_of : Bit → Bit → Bit → Bit
held_of S1 old new = seen_of old
held_of S0 old new = seen_of new
held_of holds old new = X
