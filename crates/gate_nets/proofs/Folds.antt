-- Joined bits are at least the fold of the bits.
use Rattle.std.proofs.Common.{◌≡◌, ℕ, zero, suc, List, [], ◌∷◌, length, refl, ap, subst}
use Rattle.std.specs.Prelude.{slice_index_or}
use Rattle.std.specs.List.{fold}
use Rattle.cell_gate.proofs.Monotone.{output_below}
use Rattle.cell_gate.specs.Gates.{output_of}
use Rattle.cell_types.specs.declared.word.BitwiseKind.{BitwiseKind}
use Rattle.cell_types.specs.declared.word.BitwiseKind.TheVariants.{And, Or, Xor, Xnor}
use Rattle.cell_word.specs.Words.{word_of}
use Rattle.rtl_bits.proofs.Orders.{Below_refl}
use Rattle.rtl_bits.specs.Knowledge.{Below}
use Rattle.rtl_bits.specs.declared.bit.Bit.{Bit}
use Rattle.rtl_bits.specs.declared.bit.Bit.TheVariants.{S0, S1, X, Z, M, Dash}
use Rattle.gate_nets.specs.Gate.{gate_for}
use Rattle.gate_nets.proofs.Adding.{low_is_word, low_of}
use Rattle.gate_nets.proofs.Nets.{folded_at, joined_at, neutral_bit}

-- what a kind makes of two bits
abbrev pub joined : BitwiseKind → Bit → Bit → Bit
joined kind a b = output_of (gate_for kind) a b X

-- of no bits and a bit it makes no more than the bit
neutral_below : (kind : BitwiseKind) (b : Bit) → Below (joined kind (neutral_bit kind) b) b
neutral_below And S0 = refl
neutral_below And S1 = refl
neutral_below And X = tt
neutral_below And Z = tt
neutral_below And M = tt
neutral_below And Dash = tt
neutral_below Or S0 = refl
neutral_below Or S1 = refl
neutral_below Or X = tt
neutral_below Or Z = tt
neutral_below Or M = tt
neutral_below Or Dash = tt
neutral_below Xor S0 = refl
neutral_below Xor S1 = refl
neutral_below Xor X = tt
neutral_below Xor Z = tt
neutral_below Xor M = tt
neutral_below Xor Dash = tt
neutral_below Xnor S0 = refl
neutral_below Xnor S1 = refl
neutral_below Xnor X = tt
neutral_below Xnor Z = tt
neutral_below Xnor M = tt
neutral_below Xnor Dash = tt

folded_below : (kind : BitwiseKind) (v : ℕ → Bit) (n : ℕ) (c d : Bit) → Below c d → Below (fold (joined kind) c (low_of v n)) (folded_at kind d v n)
folded_below kind v zero c d h = h
folded_below kind v (suc n) c d h =
    folded_below kind (λ i. v (suc i)) n (joined kind c (v 0)) (joined kind d (v 0)) (output_below (gate_for kind) c d (v 0) (v 0) X X h (Below_refl (v 0)) tt)

low_below : (kind : BitwiseKind) (v : ℕ → Bit) (n : ℕ) → Below (fold (joined kind) (neutral_bit kind) (low_of v n)) (joined_at kind v n)
low_below kind v zero = Below_refl (neutral_bit kind)
low_below kind v (suc n) = folded_below kind (λ i. v (suc i)) n (joined kind (neutral_bit kind) (v 0)) (v 0) (neutral_below kind (v 0))

own_low : (bits : List Bit) → low_of (λ at. slice_index_or bits at X) (length bits) ≡ bits
own_low [] = refl
own_low (b ∷ bits) = ap (λ z. b ∷ z) (own_low bits)

-- of the bits of a word
pub join_below : (kind : BitwiseKind) (bits : List Bit) → Below (fold (joined kind) (neutral_bit kind) bits) (joined_at kind (λ at. slice_index_or bits at X) (length bits))
join_below kind bits =
    subst (λ z. Below (fold (joined kind) (neutral_bit kind) z) (joined_at kind (λ at. slice_index_or bits at X) (length bits))) (own_low bits) (low_below kind (λ at. slice_index_or bits at X) (length bits))

-- of a word made place by place
pub join_word : (kind : BitwiseKind) (v : ℕ → Bit) (n : ℕ) → Below (fold (joined kind) (neutral_bit kind) (word_of v n)) (joined_at kind v n)
join_word kind v n = subst (λ z. Below (fold (joined kind) (neutral_bit kind) z) (joined_at kind v n)) (low_is_word v n) (low_below kind v n)
