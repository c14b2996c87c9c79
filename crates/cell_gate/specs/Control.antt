-- Controls of storage cells: levels, edges, and what they choose.
use Rattle.std.specs.Prelude.{◌≡◌, ◌⊎◌, Bool, if◌then◌else◌}
use Rattle.rtl_bits.specs.declared.bit.Bit.{Bit}
use Rattle.rtl_bits.specs.declared.bit.Bit.TheVariants.{S0, S1, X}
use Rattle.rtl_bits.specs.Tables.{seen_of, not_of, and_of, mux_of}
use Rattle.cell_types.specs.declared.level.Level.{Level}
use Rattle.cell_types.specs.declared.level.Level.TheVariants.{Low, High}

-- whether a pin is active: 1 where it has the level at which it acts, 0 where it has the other, x where it is unknown
abbrev pub active_of : Level → Bit → Bit
active_of High b = seen_of b
active_of Low b = not_of b

-- a where a control is active, b where it is inactive, else what the two have in common
abbrev pub pick_of : Bit → Bit → Bit → Bit
pick_of control a b = mux_of b a control

-- a clock edge, of whether the clock was active and whether it is active now: 1 where the edge is
-- certain, 0 where it is impossible, x where it is open
abbrev pub edge_of : Bit → Bit → Bit
edge_of was is = and_of (not_of was) is

-- an edge is certain where the clock was inactive and is active
abbrev pub IsCertain : Bit → Bit → Type 0
IsCertain was is = (was ≡ S0) × (is ≡ S1)

-- an edge is impossible where the clock was active or is inactive
abbrev pub IsImpossible : Bit → Bit → Type 0
IsImpossible was is = (was ≡ S1) ⊎ (is ≡ S0)

-- the clock of the step before, which counts as x in the first step
abbrev pub was_of : Bool → Bit → Bit
was_of first clk = if first then X else clk
