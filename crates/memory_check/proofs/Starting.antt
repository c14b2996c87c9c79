-- Start words at addresses of a memory.
use Rattle.std.proofs.Common.{◌≡◌, ℕ, suc, zero, ◌+◌, ◌-◌, ◌^◌, ◌≤◌, ◌<◌, min, Bool, true, false, ◌&&◌, ◌||◌, List, [], ◌∷◌, length, get_or, Some, None, refl, sym, ◌∙◌, ap, arith}
use Rattle.std.specs.Prelude.{nat_abs, nat_le, nat_lt, ◌==◌}
use Rattle.std.proofs.lemmas.Bool.{eqb-true}
use Rattle.std.proofs.lemmas.Bool.Decides.{nat_tests}
use Rattle.std.specs.List.{list_all, range_with_len}
use Rattle.cell_types.specs.Shape.{small}
use Rattle.rtl_sig.specs.declared.sig.SigBit.{SigBit}
use Rattle.rtl_ir.specs.declared.store.Store.{Store}
use Rattle.rtl_bits.specs.declared.bit.Bit.{Bit}
use Rattle.rtl_bits.specs.declared.bit.Bit.TheVariants.{S0, S1, X, Z, M, Dash}
use Rattle.rtl_bits.specs.Knowledge.{is_known}
use Rattle.rtl_ir.specs.Faults.MemoryCells.{is_address}
use Rattle.rtl_ir.specs.Signals.{constant_of}
use Rattle.memory_check.specs.Starts.{IsNumber, are_constants, are_inside, constant_number}

tests : (base end first start n : ℕ)
    → ((nat_le base (first + start) && nat_lt (first + start) end) && ((n == 0) || (nat_le base (first + (start + 1)) && nat_le (first + (start + 1) + n) end)))
    ≡ ((suc n == 0) || (nat_le base (first + start) && nat_le (first + start + suc n) end))
tests base end first start n = grind (arith, nat_tests)

-- numbers from one on, so many, are within two bounds
within : (base end first start n : ℕ)
    → list_all (λ k. nat_le base (first + k) && nat_lt (first + k) end) (range_with_len start n) ≡ ((n == 0) || (nat_le base (first + start) && nat_le (first + start + n) end))
within base end first start zero = refl
within base end first start (suc n) = rw (within base end first (start + 1) n) (tests base end first start n)

none : (start n : ℕ) → list_all (λ (k : ℕ). false) (range_with_len start n) ≡ (n == 0)
none start zero = refl
none start (suc n) = grind (arith, nat_tests)

-- so many words from an address on stand in the memory
pub inside : (s : Store) (known : Bool) (first n : ℕ)
    → list_all (λ k. known && is_address s (first + k)) (range_with_len 0 n) ≡ ((n == 0) || (known && (nat_le (nat_abs s.offset) first && nat_le (first + n) (nat_abs s.offset + nat_abs s.size))))
inside s true first n =
    let same : first + 0 ≡ first = omega arith in
    rw (within (nat_abs s.offset) (nat_abs s.offset + nat_abs s.size) first 0 n, same) refl
inside s false first n = rw (none 0 n) (by (n == 0))
  where
    by : (b : Bool) → b ≡ (b || false)
    by true = refl
    by false = refl

numbers : (base size first number count words : ℕ) → first ≡ min (2 ^ 33) number → count ≡ min words (2 ^ 32 - 1) → base < 2 ^ 32 → size ≤ 2 ^ 31 → (count ≡ 0 → ⊥)
    → (nat_le base first && nat_le (first + count) (base + size)) ≡ ((words == 0) || (nat_le base number && nat_le (number + words) (base + size)))
numbers base size first number count words cut small low high some = grind (arith, nat_tests)

-- so many words from an address on, where its number is cut off past all addresses and the count at the greatest of 32 bits
pub inside_some : (s : Store) (address : List SigBit) (count words first base size : ℕ) → count ≡ small words → IsNumber address (Some first) → base ≡ nat_abs s.offset → size ≡ nat_abs s.size → base < 2 ^ 32 → size ≤ 2 ^ 31 → (count ≡ 0 → ⊥)
    → (nat_le base first && nat_le (first + count) (base + size)) ≡ are_inside s address words
inside_some s address count words first base size cut number is_base is_size low high some =
    numbers base size first (constant_number address) count words number.1 cut low high some
    ∙ (λ i. (words == 0) || (nat_le (is_base i) (constant_number address) && nat_le (constant_number address + words) (is_base i + is_size i)))
    ∙ sym (inside s true (constant_number address) words)
    ∙ (λ i. list_all (λ k. sym number.0 i && is_address s (constant_number address + k)) (range_with_len 0 words))

-- no number at all
pub inside_none : (s : Store) (address : List SigBit) (count words : ℕ) → count ≡ small words → IsNumber address None → (count ≡ 0 → ⊥) → false ≡ are_inside s address words
inside_none s address count words cut number some =
    by (words == 0) refl ∙ sym (inside s false (constant_number address) words) ∙ (λ i. list_all (λ k. sym number i && is_address s (constant_number address + k)) (range_with_len 0 words))
  where
    by : (b : Bool) → (words == 0) ≡ b → false ≡ ((words == 0) || false)
    by false e = rw e refl
    by true e = absurd (some (cut ∙ ap small (eqb-true words 0 e)))

-- no words at all
pub inside_empty : (s : Store) (address : List SigBit) (count words : ℕ) → count ≡ small words → count ≡ 0 → true ≡ are_inside s address words
inside_empty s address count words cut none =
    let no : words ≡ 0 = omega arith in
    ap (are_inside s address) (sym no)

-- a place that is no known constant
pub unknown_at : (signal : List SigBit) (k : ℕ) (d : SigBit) → k < length signal → is_known (constant_of (get_or signal k d)) ≡ false → are_constants signal ≡ false
unknown_at [] k d lt n = absurd (omega arith)
unknown_at (y ∷ signal) zero d lt n = (λ i. n i && are_constants signal)
unknown_at (y ∷ signal) (suc k) d lt n = (λ i. is_known (constant_of y) && unknown_at signal k d (omega arith) n i) ∙ by (is_known (constant_of y))
  where
    by : (b : Bool) → (b && false) ≡ false
    by true = refl
    by false = refl

-- a bit that is neither 0 nor 1
pub neither : (b : Bit) → (b ≡ S0 → ⊥) → (b ≡ S1 → ⊥) → is_known b ≡ false
neither S0 n m = absurd (n refl)
neither S1 n m = absurd (m refl)
neither X n m = refl
neither Z n m = refl
neither M n m = refl
neither Dash n m = refl
