-- Words that are moved by the bits of a distance.
use Rattle.std.specs.Prelude.{ℕ, ◌+◌, ◌-◌, ◌^◌, true, List, [], ◌∷◌, length, take}
use Rattle.rtl_ir.specs.Build.{Build}
use Rattle.rtl_sig.specs.Signal.{fill_of}
use Rattle.rtl_sig.specs.declared.sig.SigBit.{SigBit}
use Rattle.gate_nets.specs.Gate.{◌>>=◌, pure}
use Rattle.gate_nets.specs.Sum.{negative_of}
use Rattle.gate_nets.specs.Words.{select_of}
use Rattle.map_shift.specs.Moves.{moved_of}
use Rattle.map_shift.specs.declared.moves.Way.{Way}
use Rattle.map_shift.specs.declared.moves.Way.TheVariants.{Left, Right}

-- a word moved by what the bit of a distance at a place stands for, where the bit is 1
abbrev pub step_of : Way → SigBit → ℕ → List SigBit → SigBit → Build (List SigBit)
step_of way fill place bits by = select_of bits (moved_of way fill (2 ^ place) bits) by

-- a word moved by the bits of a distance from a place on
abbrev pub shifted_from : Way → SigBit → ℕ → List SigBit → List SigBit → Build (List SigBit)
shifted_from way fill place bits [] = pure bits
shifted_from way fill place bits (by ∷ distance) = do
  further ← step_of way fill place bits by
  shifted_from way fill (place + 1) further distance

-- a word moved by a distance
abbrev pub shifted_of : Way → SigBit → List SigBit → List SigBit → Build (List SigBit)
shifted_of way fill bits distance = shifted_from way fill 0 bits distance

-- the bits of a distance below its top one
abbrev pub lower_of : List SigBit → List SigBit
lower_of distance = take (length distance - 1) distance

-- a word moved right by a distance in two's complement: left by its negative, where the top bit is 1
abbrev pub either_of : SigBit → List SigBit → List SigBit → Build (List SigBit)
either_of fill bits distance = do
  right ← shifted_of Right fill bits (lower_of distance)
  back ← negative_of distance
  left ← shifted_of Left fill bits back
  select_of right left (fill_of distance true)
