-- Powers of two that numbers reach, and the words among so many addresses.
use Rattle.std.proofs.Common.{◌≡◌, ℕ, ◌+◌, ◌-◌, ◌<◌, ◌≤◌, ◌^◌, ◌*◌, ◌%◌, Bool, true, false, length, sym, ◌∙◌, ap, arith, pow_mono, pow_pos, lt-ltb, le-ltb}
use Rattle.std.specs.Prelude.{◌&&◌, nat_lt}
use Rattle.std.proofs.Math.Nat.{mod-le}
use Rattle.std.proofs.lemmas.Bool.Decides.{nat_tests}
use Rattle.mem_map.specs.Words.{has_word}
use Rattle.mem_map.specs.declared.words.Words.{Words}

pub reached : (n bits : ℕ) → n < 2 ^ 64 → 64 ≤ bits → true ≡ nat_lt n (2 ^ bits)
reached n bits h le =
    let more : 2 ^ 64 ≤ 2 ^ bits = pow_mono le in
    sym (lt-ltb n (2 ^ bits) (omega (arith, h, more)))

pub words_end : (w : Words) (bits base : ℕ) → w.first + length w.signals ≤ base → false ≡ has_word w bits base
words_end w bits base h = sym (ap (λ t. t && nat_lt w.first (base + 2 ^ bits)) (le-ltb base (w.first + length w.signals) h))

pub word_there : (w : Words) (bits base : ℕ) → base < w.first + length w.signals → w.first ≤ base → true ≡ has_word w bits base
word_there w bits base h le =
    sym (ap (λ t. t && nat_lt w.first (base + 2 ^ bits)) (lt-ltb base (w.first + length w.signals) h)
    ∙ lt-ltb w.first (base + 2 ^ bits) (omega (arith, le, pow_pos bits)))

moved : (a b p : ℕ) → b ≤ a → nat_lt (a - b) p ≡ nat_lt a (b + p)
moved a b p le = grind (nat_tests, arith, le)

pub word_far : (w : Words) (bits base : ℕ) (t : Bool) → base < w.first + length w.signals → base ≤ w.first → t ≡ nat_lt (w.first - base) (2 ^ bits) → t ≡ has_word w bits base
word_far w bits base t h le e =
    e ∙ moved w.first base (2 ^ bits) le ∙ sym (ap (λ t. t && nat_lt w.first (base + 2 ^ bits)) (lt-ltb base (w.first + length w.signals) h))

pub far_above : (behind bits base : ℕ) → behind < 2 ^ 64 → 64 ≤ bits → behind ≤ base + 2 ^ bits
far_above behind bits base few h =
    let more : 2 ^ 64 ≤ 2 ^ bits = pow_mono h in
    omega (arith, few, more)

pub past_above : (behind bits base : ℕ) → behind < 2 ^ 64 → bits < 64 → (base + (1 * 2 ^ bits) % 2 ^ 64 < 2 ^ 64 → ⊥) → behind ≤ base + 2 ^ bits
past_above behind bits base few h past = omega (arith, few, past, mod-le (1 * 2 ^ bits) (2 ^ 64))
