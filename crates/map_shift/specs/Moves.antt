-- Words that are moved as they are.
use Rattle.std.specs.Prelude.{ℕ, ◌-◌, List, ◌++◌, drop, length, min, replicate, take}
use Rattle.rtl_sig.specs.declared.sig.SigBit.{SigBit}
use Rattle.map_shift.specs.declared.moves.Way.{Way}
use Rattle.map_shift.specs.declared.moves.Way.TheVariants.{Left, Right}

-- a word moved by so many places to the top, with the fill below
abbrev pub moved_left : SigBit → ℕ → List SigBit → List SigBit
moved_left fill n bits = replicate (min n (length bits)) fill ++ take (length bits - n) bits

-- a word moved by so many places to the lowest one, with the fill on top
abbrev pub moved_right : SigBit → ℕ → List SigBit → List SigBit
moved_right fill n bits = drop n bits ++ replicate (min n (length bits)) fill

-- a word moved by so many places, as wide as it is
abbrev pub moved_of : Way → SigBit → ℕ → List SigBit → List SigBit
moved_of Left fill n bits = moved_left fill n bits
moved_of Right fill n bits = moved_right fill n bits
