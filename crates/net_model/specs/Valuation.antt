-- Valuations, and what points have under them.
use Rattle.std.specs.Prelude.{List, map}
use Rattle.rtl_bits.specs.declared.bit.Bit.{Bit}
use Rattle.rtl_bits.specs.declared.bit.Bit.TheVariants.{S0, S1, X, Z}
use Rattle.rtl_ir.specs.Flat.Place.{Place}
use Rattle.rtl_ir.specs.Flat.Point.{Point, Constant, At}

-- a valuation gives each bit of the flat netlist a value
abbrev pub Valuation : Type 0
Valuation = Place → Bit

-- what a point has
abbrev pub read : Valuation → Point → Bit
read v (Constant b) = b
read v (At q) = v q

-- what the points of a word have
abbrev pub read_all : Valuation → List Point → List Bit
read_all v word = map (read v) word

-- what words have
abbrev pub read_words : Valuation → List (List Point) → List (List Bit)
read_words v words = map (read_all v) words

-- a connection passes 0, 1 and z on; m and - count as x
abbrev pub passed_of : Bit → Bit
passed_of S0 = S0
passed_of S1 = S1
passed_of Z = Z
passed_of b = X
