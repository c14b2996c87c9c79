-- The race of a clock and a reset.
use Rattle.std.specs.Prelude.{List, [], ◌∷◌, ◌++◌}
use Rattle.rtl_bits.specs.declared.bit.Bit.{Bit}
use Rattle.rtl_bits.specs.declared.bit.Bit.TheVariants.{S0, S1, X}
use Rattle.rtl_bits.specs.Tables.{seen_of, or_of, merge_of}

-- the merge of these bits
abbrev pub common_of : List Bit → Bit
common_of [] = X
common_of (b ∷ []) = seen_of b
common_of (b ∷ c ∷ bits) = merge_of b (common_of (c ∷ bits))

-- these bits count unless the edge is impossible
abbrev pub unless_impossible : Bit → List Bit → List Bit
unless_impossible S0 bits = []
unless_impossible edge bits = bits

-- these bits count unless an edge is certain
abbrev pub unless_certain : Bit → List Bit → List Bit
unless_certain S1 bits = []
unless_certain edge bits = bits

-- the merge of the values that count: those with the reset as it was and as it is unless the clock's edge is impossible,
-- that with the reset active unless the reset's edge is impossible, and the old one unless one of the two edges is certain
abbrev pub raced_of : Bit → Bit → Bit → Bit → Bit → Bit → Bit
raced_of clock_edge reset_edge was is active old =
    common_of
    (unless_impossible clock_edge (was ∷ is ∷ [])
    ++ (unless_impossible reset_edge (active ∷ [])
    ++ unless_certain (or_of clock_edge reset_edge) (old ∷ [])))
