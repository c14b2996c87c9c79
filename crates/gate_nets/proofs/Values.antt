-- Results of nets that have at least the bits of a value.
use Rattle.std.proofs.Common.{◌≡◌, ◌<◌, ◌⊎◌, ℕ, zero, suc, ◌-◌, Bool, true, false, List, [], ◌∷◌, length, inl, inr, ⊎_elim, refl, sym, subst, arith}
use Rattle.std.specs.Prelude.{if◌then◌else◌, replicate, slice_index_or}
use Rattle.std.proofs.Math.ListN.{get_or-eq_default}
use Rattle.std.proofs.lemmas.Bool.{cases_lt}
use Rattle.std.proofs.lemmas.List.FromFn.{get_or-map-range_with_len, length-map-range_with_len}
use Rattle.cell_word.specs.Words.{one_bit_of, unknown_of, word_of}
use Rattle.rtl_bits.specs.Knowledge.{Below}
use Rattle.rtl_bits.specs.declared.bit.Bit.{Bit}
use Rattle.rtl_bits.specs.declared.bit.Bit.TheVariants.{S0, X}
use Rattle.rtl_sig.specs.declared.sig.SigBit.{SigBit}
use Rattle.rtl_sig.specs.declared.sig.SigBit.TheVariants.{Fixed}
use Rattle.gate_nets.specs.Reading.{IsReading}
use Rattle.gate_nets.proofs.Adding.{low_of}
use Rattle.gate_nets.proofs.Nets.{Goods}
use Rattle.gate_nets.proofs.Standing.{reads}

-- x is below all
pub unknown_below : (n at : ℕ) (z : Bit) → Below (slice_index_or (unknown_of n) at X) z
unknown_below zero at z = tt
unknown_below (suc n) zero z = tt
unknown_below (suc n) (suc at) z = unknown_below n at z

-- a bit of a word is what the word's function gives, or x behind its end
pub word_at : (f : ℕ → Bit) (width at : ℕ) → ((at < width) × (slice_index_or (word_of f width) at X ≡ f at)) ⊎ (slice_index_or (word_of f width) at X ≡ X)
word_at f width at =
    ⊎_elim
    (λ lt. inl (lt, get_or-map-range_with_len f 0 width at at X lt (omega arith)))
    (λ ge. inr (get_or-eq_default (word_of f width) X (omega (arith, length-map-range_with_len f 0 width))))
    (cases_lt at width)

-- so it is below a bit that the function's is below, as far as the word goes
pub word_below : (f : ℕ → Bit) (width at : ℕ) (z : Bit) → (at < width → Below (f at) z) → Below (slice_index_or (word_of f width) at X) z
word_below f width at z h =
    ⊎_elim (λ e. subst (λ a. Below a z) (sym e.1) (h e.0)) (λ e. subst (λ a. Below a z) (sym e) tt) (word_at f width at)

module _ (f : SigBit → Bit) (is : IsReading f) where
  -- bits that are read at least as a function gives, place by place
  pub good_at : (v : ℕ → Bit) (bits : List SigBit) → Goods (reads f is) v bits → (at : ℕ) → at < length bits → Below (v at) (f (slice_index_or bits at (Fixed S0)))
  good_at v [] h at lt = absurd (omega arith)
  good_at v (y ∷ bits) h zero lt = h.0
  good_at v (y ∷ bits) h (suc at) lt = good_at (λ i. v (suc i)) bits h.1 at (omega arith)

  -- are read at least as the word of the function
  pub low_below : (v : ℕ → Bit) (bits : List SigBit) → Goods (reads f is) v bits → (at : ℕ) → Below (slice_index_or (low_of v (length bits)) at X) (f (slice_index_or bits at (Fixed S0)))
  low_below v [] h at = tt
  low_below v (y ∷ bits) h zero = h.0
  low_below v (y ∷ bits) h (suc at) = low_below (λ i. v (suc i)) bits h.1 at

  -- a word of known operands, else unknown
  pub if_known : (t : Bool) (word : List Bit) (n : ℕ) (v : ℕ → Bit) (bits : List SigBit) → Goods (reads f is) v bits → length bits ≡ n → (t ≡ true → low_of v n ≡ word)
      → (at : ℕ) → Below (slice_index_or (if t then word else unknown_of n) at X) (f (slice_index_or bits at (Fixed S0)))
  if_known true word n v bits h e same at =
      subst (λ z. Below (slice_index_or z at X) (f (slice_index_or bits at (Fixed S0)))) (same refl)
      (subst (λ m. Below (slice_index_or (low_of v m) at X) (f (slice_index_or bits at (Fixed S0)))) e (low_below v bits h at))
  if_known false word n v bits h e same at = unknown_below n at (f (slice_index_or bits at (Fixed S0)))

  zeros_below : (n at : ℕ) → Below (slice_index_or (replicate n S0) at X) (f (Fixed S0))
  zeros_below zero at = tt
  zeros_below (suc n) zero = is.constant S0
  zeros_below (suc n) (suc at) = zeros_below n at

  -- a word of one bit
  pub one_below : (b : Bit) (n : ℕ) (v : ℕ → Bit) (bits : List SigBit) → Goods (reads f is) v bits → length bits ≡ 1 → ((z : Bit) → Below (v 0) z → Below b z) → (at : ℕ) → Below (slice_index_or (one_bit_of b n) at X) (f (slice_index_or bits at (Fixed S0)))
  one_below b n v [] h e says at = absurd (omega (arith, e))
  one_below b n v (y ∷ []) h e says zero = says (f y) h.0
  one_below b n v (y ∷ []) h e says (suc at) = zeros_below (n - 1) at
  one_below b n v (y ∷ z ∷ bits) h e says at = absurd (omega (arith, e))
