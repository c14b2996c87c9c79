-- One of several words.
use Rattle.std.specs.Prelude.{ℕ, ◌+◌, ◌*◌, ◌/◌, Bool, true, false, if◌then◌else◌, List, [], ◌∷◌, drop, length, map, slice_index_or, take}
use Rattle.std.specs.List.{range_with_len}
use Rattle.rtl_bits.specs.declared.bit.Bit.TheVariants.{X}
use Rattle.rtl_sig.specs.declared.sig.SigBit.TheVariants.{Fixed}
use Rattle.rtl_ir.specs.Build.{Build}
use Rattle.rtl_sig.specs.declared.sig.SigBit.{SigBit}
use Rattle.gate_nets.specs.Gate.{◌>>=◌, pure}
use Rattle.gate_nets.specs.Words.{select_of}

-- a word, and then for each select bit, rising, the word so far where the bit is 0, and the next part of this width where it
-- is 1
abbrev pub chosen_of : ℕ → List SigBit → List SigBit → List SigBit → Build (List SigBit)
chosen_of width chosen parts [] = pure chosen
chosen_of width chosen parts (s ∷ selects) = do
  next ← select_of chosen (take width parts) s
  chosen_of width next (drop width parts) selects

-- the place, in a word of parts of a width, of a bit of the parts of even number, or of those of odd number
abbrev pub place_of : Bool → ℕ → ℕ → ℕ
place_of odd width at = at + at / width * width + (if odd then width else 0)

-- the parts of even number, or those of odd number, one after another
abbrev pub half_of : Bool → ℕ → List SigBit → List SigBit
half_of odd width word = map (λ at. slice_index_or word (place_of odd width at) (Fixed X)) (range_with_len 0 (length word / 2))

-- each two parts become the one that a bit selects
abbrev pub halve_of : ℕ → List SigBit → SigBit → Build (List SigBit)
halve_of width word s = select_of (half_of false width word) (half_of true width word) s

-- so for each select bit, rising
abbrev pub halved_of : ℕ → List SigBit → List SigBit → Build (List SigBit)
halved_of width word [] = pure word
halved_of width word (s ∷ selects) = do
  next ← halve_of width word s
  halved_of width next selects
