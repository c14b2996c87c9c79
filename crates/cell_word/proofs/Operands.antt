-- Operands of arithmetic.
use Rattle.std.proofs.Common.{◌≡◌, refl, ◌≤◌, Bool, true, false, List, [], ◌∷◌, length, arith}
use Rattle.std.proofs.lemmas.Bool.{false_from_ne_true}
use Rattle.rtl_bits.specs.declared.bit.Bit.{Bit}
use Rattle.rtl_bits.specs.Knowledge.{all_known}
use Rattle.rtl_bits.specs.Numbers.{HasNumber}
use Rattle.cell_word.specs.Sizes.{IsRead}
use Rattle.rtl_bits.proofs.Lists.{all_known_true, true_all_known}

-- at most 128 bits without a number have an unknown one
pub number_unless : (bits : List Bit) → length bits ≤ 128 → (HasNumber bits → ⊥) → all_known bits ≡ false
number_unless bits h n = false_from_ne_true (all_known bits) (λ e. n (all_known_true bits e, h))

pub number_if : (bits : List Bit) → HasNumber bits → all_known bits ≡ true
number_if bits n = true_all_known bits n.0

-- no bits stand for 0
pub read_empty : (signed : Bool) (bits : List Bit) → length bits ≡ 0 → IsRead signed bits (record { negative = false; size = 0 })
read_empty true [] e = record { known = refl; proper = λ h. absurd (cc); value = refl }
read_empty false [] e = record { known = refl; proper = λ h. absurd (cc); value = refl }
read_empty signed (b ∷ bits) e = absurd (omega arith)
