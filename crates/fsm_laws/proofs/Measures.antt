-- How much of something bits are, and sums over the places of cells.
use Rattle.std.proofs.Common.{◌≡◌, ◌<◌, ◌≤◌, ℕ, zero, suc, ◌+◌, Bool, true, false, cond, List, [], ◌∷◌, ◌++◌, refl, sym, ◌∙◌, ap, arith}
use Rattle.std.specs.Prelude.{◌==◌, filter}
use Rattle.std.specs.List.{range_with_len}
use Rattle.std.proofs.lemmas.Bool.{eq-eqb, eqb-true}
use Rattle.rtl_sig.specs.declared.sig.WireBit.{WireBit}
use Rattle.rtl_ir.specs.Signals.{bits_of_wire}
use Rattle.map_laws.specs.Expansion.{bits_from}
use Rattle.net_model.specs.Fsm.Find.{has_place}
use Rattle.fsm_laws.specs.Recoded.{output_wires}

-- a number for lists of bits: of two lists behind one another it is that of each together
pub record IsMeasure (size : List WireBit → ℕ) : Type 0 where
  pub none : size [] ≡ 0
  pub more : (xs ys : List WireBit) → size (xs ++ ys) ≡ size xs + size ys

-- the sum over so many places from one on
abbrev pub sum_from : (ℕ → ℕ) → ℕ → ℕ → ℕ
sum_from f from zero = 0
sum_from f from (suc n) = f from + sum_from f (from + 1) n

pub sum_both : (f g : ℕ → ℕ) (from n : ℕ) → sum_from (λ at. f at + g at) from n ≡ sum_from f from n + sum_from g from n
sum_both f g from zero = refl
sum_both f g from (suc n) = let later = sum_both f g (from + 1) n in omega (arith, later)

pub sum_same : (f g : ℕ → ℕ) (from n : ℕ) → ((at : ℕ) → from ≤ at → f at ≡ g at) → sum_from f from n ≡ sum_from g from n
sum_same f g from zero h = refl
sum_same f g from (suc n) h =
    let here : f from ≡ g from = h from (omega arith) in
    let later : sum_from f (from + 1) n ≡ sum_from g (from + 1) n = sum_same f g (from + 1) n (λ at le. h at (omega (arith, le))) in
    omega (arith, here, later)

-- what counts at one place alone
none_past : (k w from n : ℕ) → k < from → sum_from (λ at. cond (at == k) w 0) from n ≡ 0
none_past k w from zero h = refl
none_past k w from (suc n) h = by (none_past k w (from + 1) n) (from == k) refl
  where
    by : (k < from + 1 → sum_from (λ at. cond (at == k) w 0) (from + 1) n ≡ 0) → (t : Bool) → (from == k) ≡ t → cond t w 0 + sum_from (λ at. cond (at == k) w 0) (from + 1) n ≡ 0
    by later true e = absurd (let same : from ≡ k = eqb-true from k e in omega (arith, same, h))
    by later false e = let rest = later (omega (arith, h)) in omega (arith, rest)

pub one_place : (k w from n : ℕ) → sum_from (λ at. cond (at == k) w 0) from n ≤ w
one_place k w from zero = omega arith
one_place k w from (suc n) = by (one_place k w (from + 1) n) (from == k) refl
  where
    by : sum_from (λ at. cond (at == k) w 0) (from + 1) n ≤ w → (t : Bool) → (from == k) ≡ t → cond t w 0 + sum_from (λ at. cond (at == k) w 0) (from + 1) n ≤ w
    by later true e =
        let same : from ≡ k = eqb-true from k e in
        omega (arith, none_past k w (from + 1) n (omega (arith, same)))
    by later false e = omega (arith, later)

-- where a place stands among places
abbrev pub position : List ℕ → ℕ → ℕ
position [] at = 0
position (p ∷ ps) at = cond (p == at) 0 (suc (position ps at))

module _ (forks : List ℕ) (size : List WireBit → ℕ) (is : IsMeasure size) (width : ℕ) where
  -- the places among these from one on, in order
  abbrev among : ℕ → ℕ → List ℕ
  among from n = filter (has_place forks) (range_with_len from n)

  -- the bits of the fresh wires of such places
  abbrev own : List ℕ → ℕ → ℕ → ℕ
  own places w at = cond (has_place forks at) (size (bits_of_wire (w + position places at) width)) 0

  pub forks_sum : (from n w next : ℕ) → sum_from (own (among from n) w) from n ≡ size (bits_from w (output_wires width next (among from n)))
  forks_sum from zero w next = sym is.none
  forks_sum from (suc n) w next = by (forks_sum (from + 1) n) (has_place forks from) refl
    where
      rest : List ℕ
      rest = among (from + 1) n

      later_place : (at : ℕ) → from + 1 ≤ at → own (from ∷ rest) w at ≡ own rest (w + 1) at
      later_place at le = ap (λ k. cond (has_place forks at) (size (bits_of_wire k width)) 0) (place (from == at) refl)
        where
          place : (t : Bool) → (from == at) ≡ t → w + cond t 0 (suc (position rest at)) ≡ (w + 1) + position rest at
          place true e = absurd (let same : from ≡ at = eqb-true from at e in omega (arith, same, le))
          place false e = omega arith

      by : ((v next : ℕ) → sum_from (own rest v) (from + 1) n ≡ size (bits_from v (output_wires width next rest))) → (t : Bool) → has_place forks from ≡ t → sum_from (own (cond t (from ∷ rest) rest) w) from (suc n) ≡ size (bits_from w (output_wires width next (cond t (from ∷ rest) rest)))
      by later true e =
          let self : (from == from) ≡ true = eq-eqb from from refl in
          let place : w + position (from ∷ rest) from ≡ w = ap (λ t. w + cond t 0 (suc (position rest from))) self ∙ omega arith in
          let here : own (from ∷ rest) w from ≡ size (bits_of_wire w width) =
          (λ i. cond (e i) (size (bits_of_wire (place i) width)) 0) in
          let others = sum_same (own (from ∷ rest) w) (own rest (w + 1)) (from + 1) n later_place in
          let all = is.more (bits_of_wire w width) (bits_from (w + 1) (output_wires width (next + 1) rest)) in
          omega (arith, here, others, all, later (w + 1) (next + 1))
      by later false e =
          let here : own rest w from ≡ 0 = ap (λ t. cond t (size (bits_of_wire (w + position rest from) width)) 0) e in
          omega (arith, here, later w next)
