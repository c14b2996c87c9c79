-- Quotients of plain numbers, by the numbers that words are.
use Rattle.std.proofs.Common.{◌≡◌, ◌<◌, ◌≤◌, ⊎_elim, ℕ, ◌+◌, ◌-◌, ◌*◌, ◌/◌, ◌%◌, sym, ◌∙◌, ap, arith}
use Rattle.std.proofs.lemmas.Bool.{cases_lt}
use Rattle.std.proofs.Math.Nat.{div-add-mod, div-eq_of_lt, mod-eq_of_lt}
use Rattle.std.proofs.lemmas.Nat.{mod_below}
use Rattle.gate_divide.proofs.Numbers.{picked, quotient_is, rest_is}

-- a digit of a quotient: the rest so far with a further digit of the dividend below it, less the divisor where that is no
-- greater
pub record Taken (p y w : ℕ) : Type 0 where
  pub digit : (w + (2 * p - 1 - (y + p * 0)) + 1) / (2 * p) ≡ w / y
  pub rest : picked ((w + (2 * p - 1 - (y + p * 0)) + 1) / (2 * p)) w ((w + (2 * p - 1 - (y + p * 0)) + 1) % (2 * p)) % p ≡ w % y

pub taken : (p y w : ℕ) → 0 < y → y < p → w < 2 * y → Taken p y w
taken p y w some small h = ⊎_elim less more (cases_lt w y)
  where
    less : w < y → Taken p y w
    less k =
        let n : ℕ = w + (2 * p - 1 - (y + p * 0)) + 1 in
        let none : n / (2 * p) ≡ 0 = div-eq_of_lt (omega arith) in
        record {
          digit = none ∙ sym (div-eq_of_lt k);
          rest =
              ap (λ z. picked z w (n % (2 * p)) % p) none ∙ mod-eq_of_lt (omega arith) ∙ sym (mod-eq_of_lt k);
        }

    more : y ≤ w → Taken p y w
    more k =
        let n : ℕ = w + (2 * p - 1 - (y + p * 0)) + 1 in
        let one : n / (2 * p) ≡ 1 = sym (quotient_is (2 * p) (w - y) 1 n (omega arith) (omega arith)) in
        let left : n % (2 * p) ≡ w - y = sym (rest_is (2 * p) (w - y) 1 n (omega arith) (omega arith)) in
        record {
          digit = one ∙ quotient_is y (w - y) 1 w (omega arith) (omega arith);
          rest =
              ap (λ z. picked z w (n % (2 * p)) % p) one
              ∙ ap (λ z. z % p) left
              ∙ mod-eq_of_lt (omega arith)
              ∙ rest_is y (w - y) 1 w (omega arith) (omega arith);
        }

share : (p x y : ℕ) → p * (x + y) ≡ p * x + p * y
share p x y = grind arith

turned : (y k : ℕ) → y * (2 * k) ≡ 2 * (y * k)
turned y k = grind arith

-- a quotient with a further digit, and what is left
pub with_digit : (y x d r : ℕ) → 0 < y → x ≡ d + 2 * r → ((d + 2 * (r % y)) / y + 2 * (r / y) ≡ x / y) × ((d + 2 * (r % y)) % y ≡ x % y)
with_digit y x d r some e =
    let w : ℕ = d + 2 * (r % y) in
    let below : w % y < y = mod_below w y some in
    let two : y * (2 * (r / y)) ≡ 2 * (y * (r / y)) = turned y (r / y) in
    let whole : w % y + y * (w / y + 2 * (r / y)) ≡ x = omega (arith, share y (w / y) (2 * (r / y)), two, div-add-mod w y, div-add-mod r y, e) in
    (quotient_is y (w % y) (w / y + 2 * (r / y)) x whole below, rest_is y (w % y) (w / y + 2 * (r / y)) x whole below)
