-- The numbers that constants say, and which part of a word bits of such a number choose.
use Rattle.std.proofs.Common.{◌≡◌, refl, sym, ◌∙◌, ap, subst, ℕ, zero, suc, ◌+◌, ◌*◌, ◌/◌, ◌%◌, ◌^◌, ◌<◌, ◌≤◌, Bool, true, false, ◌&&◌, List, [], ◌∷◌, ◌++◌, length, replicate, Some, None, arith}
use Rattle.std.specs.List.{list_all}
use Rattle.std.proofs.lemmas.Bool.{and_parts, eqb-true}
use Rattle.std.proofs.lemmas.List.{length-map}
use Rattle.std.proofs.Math.Nat.{pow-suc}
use Rattle.std.proofs.Math.Pow.{pow_mono}
use Rattle.rtl_bits.specs.declared.bit.Bit.{Bit}
use Rattle.rtl_bits.specs.declared.bit.Bit.TheVariants.{S0, S1, X, Z, M, Dash}
use Rattle.rtl_bits.specs.Knowledge.{all_known, is_known}
use Rattle.rtl_bits.specs.Numbers.{HasNumber, number_of}
use Rattle.rtl_bits.specs.Tables.{mux_of, seen_of}
use Rattle.rtl_bits.proofs.Lists.{all_known_true, true_all_known}
use Rattle.rtl_bits.proofs.NumberLemmas.{number_of_small}
use Rattle.rtl_sig.specs.declared.sig.SigBit.{SigBit}
use Rattle.rtl_sig.specs.declared.sig.SigBit.TheVariants.{Fixed, Wire as OnWire}
use Rattle.cell_types.specs.declared.gate.GateKind.TheVariants as GateOf
use Rattle.cell_types.specs.declared.kind.CellKind.{CellKind}
use Rattle.cell_types.specs.declared.kind.CellKind.TheVariants.{Word, Gate}
use Rattle.cell_types.specs.declared.shape.Shape.{Shape}
use Rattle.cell_types.specs.declared.word.WordKind.{WordKind}
use Rattle.cell_types.specs.declared.word.WordKind.TheVariants.{Bmux, Demux}
use Rattle.cell_word.specs.Parts.{may_be, may_be_digit}
use Rattle.cell_word.proofs.Numbered.{halved_of}
use Rattle.expr_rules.specs.Change.{when}
use Rattle.expr_rules.specs.Laws.{IsComputed}
use Rattle.expr_rules.specs.Operands.{counted_as}
use Rattle.expr_rules.specs.Rules.Parts.{number_in}
use Rattle.expr_rules.specs.Signals.{constants_of, is_known_constant}
use Rattle.rtl_ir.specs.Signals.{constant_of}
use Rattle.expr_rules.specs.declared.operands.Operands.{Operands}

-- constants are known where their bits are
constant_known : (b : SigBit) → is_known_constant b ≡ is_known (constant_of b)
constant_known (Fixed c) = refl
constant_known (OnWire b) = refl

constants_known : (s : List SigBit) → list_all is_known_constant s ≡ all_known (constants_of s)
constants_known [] = refl
constants_known (b ∷ s) = λ i. constant_known b i && constants_known s i

pub number_there : (s : List SigBit) (n : ℕ) → HasNumber (constants_of s) → n ≡ number_of (constants_of s) → Some n ≡ number_in s
number_there s n has e =
    ap Some e ∙ ap (λ t. when t (number_of (constants_of s))) (sym (true_all_known (constants_of s) has.0) ∙ sym (constants_known s))

pub number_missing : (s : List SigBit) → length s ≤ 12 → (HasNumber (constants_of s) → ⊥) → None ≡ number_in s
number_missing s few unlike = by (all_known (constants_of s)) refl ∙ ap (λ t. when t (number_of (constants_of s))) (sym (constants_known s))
  where
    by : (t : Bool) → all_known (constants_of s) ≡ t → None ≡ when (all_known (constants_of s)) (number_of (constants_of s))
    by true e = absurd (unlike (all_known_true (constants_of s) e, omega (arith, length-map s constant_of)))
    by false e = ap (λ t. when t (number_of (constants_of s))) (sym e)

pub number_small : (s : List SigBit) → length s ≤ 12 → number_of (constants_of s) < 4096
number_small s few =
    let all : 2 ^ length (constants_of s) ≤ 2 ^ 12 = pow_mono {i = length (constants_of s)} {j = 12} (omega (arith, length-map s constant_of)) in
    omega (arith, number_of_small (constants_of s))

-- no gate counts as a cell that knows parts
own_kind : (k kind : WordKind) → Some k ≡ Some kind → k ≡ kind
own_kind k kind e = cc

pub part_selects : (own : CellKind) (shape : Shape) (o : Operands) → counted_as own ≡ Some Bmux → IsComputed own shape o → length o.s ≤ 12
part_selects (Word k) shape o c h =
    let s : IsComputed (Word Bmux) shape o = subst (λ k. IsComputed (Word k) shape o) (own_kind k Bmux c) h in
    omega (arith, s, length-map o.s constant_of)
part_selects (Gate GateOf.Buf) shape o c h = absurd (cc)
part_selects (Gate GateOf.Not) shape o c h = absurd (cc)
part_selects (Gate GateOf.And) shape o c h = absurd (cc)
part_selects (Gate GateOf.Or) shape o c h = absurd (cc)
part_selects (Gate GateOf.Xor) shape o c h = absurd (cc)
part_selects (Gate GateOf.Xnor) shape o c h = absurd (cc)
part_selects (Gate GateOf.Mux) shape o c h = absurd (cc)
part_selects (Gate gate) shape o c h = absurd (cc)
part_selects own shape o c h = absurd (cc)

pub place_selects : (own : CellKind) (shape : Shape) (o : Operands) → counted_as own ≡ Some Demux → IsComputed own shape o → length o.s ≤ 12
place_selects (Word k) shape o c h =
    let s : IsComputed (Word Demux) shape o = subst (λ k. IsComputed (Word k) shape o) (own_kind k Demux c) h in
    omega (arith, s, length-map o.s constant_of)
place_selects (Gate GateOf.Buf) shape o c h = absurd (cc)
place_selects (Gate GateOf.Not) shape o c h = absurd (cc)
place_selects (Gate GateOf.And) shape o c h = absurd (cc)
place_selects (Gate GateOf.Or) shape o c h = absurd (cc)
place_selects (Gate GateOf.Xor) shape o c h = absurd (cc)
place_selects (Gate GateOf.Xnor) shape o c h = absurd (cc)
place_selects (Gate GateOf.Mux) shape o c h = absurd (cc)
place_selects (Gate gate) shape o c h = absurd (cc)
place_selects own shape o c h = absurd (cc)

seen_twice : (b : Bit) → seen_of (seen_of b) ≡ seen_of b
seen_twice S0 = refl
seen_twice S1 = refl
seen_twice X = refl
seen_twice Z = refl
seen_twice M = refl
seen_twice Dash = refl

-- known bits choose the part whose number they are
pub halved_known : (s : List Bit) (f : ℕ → Bit) → all_known s ≡ true → halved_of f s ≡ seen_of (f (number_of s))
halved_known [] f k = refl
halved_known (S0 ∷ s) f k =
    let m : ℕ = number_of s in
    let two : m + m ≡ 0 + 2 * m = omega arith in
    halved_known s (λ p. mux_of (f (p + p)) (f (p + p + 1)) S0) k ∙ seen_twice (f (m + m)) ∙ ap (λ n. seen_of (f n)) two
halved_known (S1 ∷ s) f k =
    let m : ℕ = number_of s in
    let two : m + m + 1 ≡ 1 + 2 * m = omega arith in
    halved_known s (λ p. mux_of (f (p + p)) (f (p + p + 1)) S1) k ∙ seen_twice (f (m + m + 1)) ∙ ap (λ n. seen_of (f n)) two
halved_known (X ∷ s) f k = absurd (cc)
halved_known (Z ∷ s) f k = absurd (cc)
halved_known (M ∷ s) f k = absurd (cc)
halved_known (Dash ∷ s) f k = absurd (cc)

-- known bits may be the number that they are
pub may_be_own : (s : List Bit) → all_known s ≡ true → may_be s (number_of s) ≡ true
may_be_own [] k = refl
may_be_own (S0 ∷ s) k =
    let m : ℕ = number_of s in
    let digit : (0 + 2 * m) % 2 ≡ 0 = omega arith in
    let rest : (0 + 2 * m) / 2 ≡ m = omega arith in
    (λ i. may_be_digit S0 (digit i) && may_be s (rest i)) ∙ may_be_own s k
may_be_own (S1 ∷ s) k =
    let m : ℕ = number_of s in
    let digit : (1 + 2 * m) % 2 ≡ 1 = omega arith in
    let rest : (1 + 2 * m) / 2 ≡ m = omega arith in
    (λ i. may_be_digit S1 (digit i) && may_be s (rest i)) ∙ may_be_own s k
may_be_own (X ∷ s) k = absurd (cc)
may_be_own (Z ∷ s) k = absurd (cc)
may_be_own (M ∷ s) k = absurd (cc)
may_be_own (Dash ∷ s) k = absurd (cc)

-- and no other of so many bits
pub may_be_alone : (s : List Bit) (n : ℕ) → all_known s ≡ true → n < 2 ^ length s → may_be s n ≡ true → n ≡ number_of s
may_be_alone [] n k lt e = omega arith
may_be_alone (S0 ∷ s) n k lt e =
    let p = and_parts (may_be_digit S0 (n % 2)) (may_be s (n / 2)) e in
    let digit : n % 2 ≡ 0 = eqb-true (n % 2) 0 p.0 in
    let rest : n / 2 ≡ number_of s = may_be_alone s (n / 2) k (omega (arith, lt, pow-suc 2 (length s))) p.1 in
    omega (arith, digit, rest)
may_be_alone (S1 ∷ s) n k lt e =
    let p = and_parts (may_be_digit S1 (n % 2)) (may_be s (n / 2)) e in
    let digit : n % 2 ≡ 1 = eqb-true (n % 2) 1 p.0 in
    let rest : n / 2 ≡ number_of s = may_be_alone s (n / 2) k (omega (arith, lt, pow-suc 2 (length s))) p.1 in
    omega (arith, digit, rest)
may_be_alone (X ∷ s) n k lt e = absurd (cc)
may_be_alone (Z ∷ s) n k lt e = absurd (cc)
may_be_alone (M ∷ s) n k lt e = absurd (cc)
may_be_alone (Dash ∷ s) n k lt e = absurd (cc)

-- one word of zeros more
pub zeros_next : (k w : ℕ) (x : SigBit) → replicate ((k + 1) * w) x ≡ replicate (k * w) x ++ replicate w x
zeros_next k w x = ap (λ n. replicate n x) (let e : (k + 1) * w ≡ k * w + w = grind arith in e) ∙ sym (both (k * w))
  where
    both : (m : ℕ) → replicate m x ++ replicate w x ≡ replicate (m + w) x
    both zero = ap (λ n. replicate n x) (let e : w ≡ 0 + w = omega arith in e)
    both (suc m) = ap (λ z. x ∷ z) (both m) ∙ ap (λ n. replicate n x) (let e : suc (m + w) ≡ suc m + w = omega arith in e)

pub zeros_none : (w : ℕ) (x : SigBit) → replicate (0 * w) x ≡ []
zeros_none w x = ap (λ n. replicate n x) (let e : 0 * w ≡ 0 = omega arith in e)
