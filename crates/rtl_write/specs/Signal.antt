-- How signals are written: cut into runs.
use Rattle.std.specs.Prelude.{ℕ, ◌+◌, ◌-◌, ◌==◌, nat_lt, Bool, false, ◌&&◌, Option, Some, None, List, [], ◌∷◌, ◌++◌, length, map, slice_get, slice_index_or, codes, if◌then◌else◌}
use Rattle.std.specs.List.{fold, flat_map}
use Rattle.std.specs.Fmt.{decimal}
use Rattle.rtl_bits.specs.declared.bit.Bit.{Bit}
use Rattle.rtl_bits.specs.declared.bit.Bit.TheVariants.{S0, X}
use Rattle.rtl_sig.specs.declared.sig.SigBit.{SigBit}
use Rattle.rtl_sig.specs.declared.sig.SigBit.TheVariants.{Fixed, Wire}
use Rattle.rtl_ir.specs.declared.wire.Wire as wires
use Rattle.rtl_write.specs.declared.run.TheConstants.{MAX_RUN}
use Rattle.rtl_write.specs.Constant.{bits_text}

-- whether a bit goes on with a run of so many bits that ends in this one: another constant, up to
-- the most bits of a value, or the next bit of the same wire
abbrev pub goes_on : SigBit → ℕ → SigBit → Bool
goes_on (Fixed a) count (Fixed b) = nat_lt count MAX_RUN
goes_on (Wire a) count (Wire b) = (b.wire == a.wire) && (b.at == a.at + 1)
goes_on last count bit = false

-- the last bit of a run
abbrev pub last_bit : List SigBit → SigBit
last_bit run = slice_index_or run (length run - 1) (Fixed S0)

-- the runs so far, the newest first, with one more bit
abbrev pub with_bit : List (List SigBit) → SigBit → List (List SigBit)
with_bit [] bit = (bit ∷ []) ∷ []
with_bit (run ∷ runs) bit = if goes_on (last_bit run) (length run) bit then (run ++ bit ∷ []) ∷ runs else (bit ∷ []) ∷ run ∷ runs

-- the longest runs of a signal, cut from bit 0 up; the topmost first
abbrev pub runs_of : List SigBit → List (List SigBit)
runs_of bits = fold with_bit [] bits

-- the constant of a bit
abbrev pub constant_of : SigBit → Bit
constant_of (Fixed bit) = bit
constant_of (Wire bit) = X

-- `count` bits of a wire from bit `low` on: the whole wire, one bit, or a part
unfoldable pub part_text : Option wires.Wire → ℕ → ℕ → List ℕ
part_text None low count = []
part_text (Some wire) low count = wire.name ++ (if (low == 0) && (count == wire.width) then []
    else if count == 1 then codes " [" ++ decimal low ++ codes "]"
    else codes " [" ++ decimal (low + count - 1) ++ codes ":" ++ decimal low ++ codes "]")

-- a run: a value, or a part of a wire
unfoldable pub run_text : List wires.Wire → List SigBit → List ℕ
run_text wires [] = []
run_text wires (Fixed bit ∷ bits) = bits_text (bit ∷ map constant_of bits) false
run_text wires (Wire first ∷ bits) = part_text (slice_get wires first.wire) first.at (length bits + 1)

-- runs in braces
abbrev pub braces_text : List wires.Wire → List (List SigBit) → List ℕ
braces_text wires runs = codes "{" ++ flat_map (λ run. 32 ∷ run_text wires run) runs ++ codes " }"

-- one run stands alone, and any other number of runs in braces
abbrev pub runs_text : List wires.Wire → List (List SigBit) → List ℕ
runs_text wires [] = braces_text wires []
runs_text wires (run ∷ []) = run_text wires run
runs_text wires (run ∷ next ∷ runs) = braces_text wires (run ∷ next ∷ runs)

-- a signal over the wires of its module
unfoldable pub signal_text : List wires.Wire → List SigBit → List ℕ
signal_text wires bits = runs_text wires (runs_of bits)
