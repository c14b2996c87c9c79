-- The gates of `$demux`: a word is put at one of several parts.
use Rattle.std.specs.Prelude.{ℕ, zero, suc, ◌+◌, ◌/◌, ◌%◌, ◌==◌, if◌then◌else◌, true, List, [], ◌∷◌, drop, length, take}
use Rattle.cell_types.specs.declared.gate.GateKind.TheVariants as Gate
use Rattle.cell_types.specs.declared.word.BitwiseKind.TheVariants.{And}
use Rattle.rtl_ir.specs.Build.{Build, Building}
use Rattle.rtl_sig.specs.declared.sig.SigBit.{SigBit}
use Rattle.gate_nets.specs.Words.{fold_of, inverse_of}
use Rattle.map_gates.specs.Bitwise.{binary_gates}

-- the bits that are joined for the part of a number: those of S where the number has a 1, and else those of the inverses
abbrev pub hits_for : List SigBit → List SigBit → ℕ → List SigBit
hits_for [] inverses part = []
hits_for (s ∷ ss) [] part = []
hits_for (s ∷ ss) (n ∷ inverses) part = (if part % 2 == 1 then s else n) ∷ hits_for ss inverses (part / 2)

-- whether S is the number of a part: the fold of these bits
abbrev pub hit_of : List SigBit → List SigBit → ℕ → Build SigBit
hit_of s inverses part b = fold_of And (hits_for s inverses part) b

-- a part: m = Fold(AND, the bits of its number), and then each bit is AND(m, A[i])
abbrev pub part_gates : List SigBit → List SigBit → List SigBit → ℕ → List SigBit → Building → Building
part_gates a s inverses part ys b =
    let m = hit_of s inverses part b in binary_gates Gate.And true (m.0 ∷ []) a ys m.1

-- at most so many parts, from a number on, each as wide as A, as far as Y goes
abbrev pub parts_from : List SigBit → List SigBit → List SigBit → ℕ → ℕ → List SigBit → Building → Building
parts_from a s inverses part zero ys b = b
parts_from a s inverses part (suc most) [] b = b
parts_from a s inverses part (suc most) (y ∷ ys) b =
    parts_from a s inverses (part + 1) most (drop (length a) (y ∷ ys)) (part_gates a s inverses part (take (length a) (y ∷ ys)) b)

-- the parts, as far as Y goes
abbrev pub all_parts : List SigBit → List SigBit → List SigBit → List SigBit → Building → Building
all_parts a s inverses ys b = parts_from a s inverses 0 (length ys) ys b

-- n[j] = NOT(S[j]), and then the parts
abbrev pub demux_gates : List SigBit → List SigBit → List SigBit → Building → Building
demux_gates a s ys b = let n = inverse_of s b in all_parts a s n.0 ys n.1
