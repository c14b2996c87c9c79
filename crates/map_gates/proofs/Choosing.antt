-- What the net of a choice has, whatever is said of bits, and that it is at least the choice's value.
use Rattle.std.proofs.Common.{◌≡◌, ℕ, zero, suc, ◌+◌, ◌*◌, ◌<◌, min, Bool, true, false, List, [], ◌∷◌, drop, take, length, Some, None, inl, inr, refl, sym, ap, subst, arith}
use Rattle.std.specs.Prelude.{if◌then◌else◌, ◌==◌, cond, count_by, map, nat_lt, slice_index_or}
use Rattle.std.specs.List.{position_or_len}
use Rattle.std.specs.Option.{unwrap_or}
use Rattle.std.proofs.lemmas.Bool.{eqb-true, lt-ltb}
use Rattle.std.proofs.lemmas.List.{length-drop, length-take}
use Rattle.std.proofs.lemmas.List.Sums.{sum_by-cons}
use Rattle.cell_word.specs.Choice.{part_of, picked_of, place_of, selected_of}
use Rattle.cell_word.specs.Words.{unknown_of}
use Rattle.rtl_bits.proofs.Orders.{Below_refl}
use Rattle.rtl_bits.specs.Knowledge.{Below, all_known}
use Rattle.rtl_bits.specs.Numbers.{is_one}
use Rattle.rtl_bits.specs.Tables.{mux_of, seen_of}
use Rattle.rtl_bits.specs.declared.bit.Bit.{Bit}
use Rattle.rtl_bits.specs.declared.bit.Bit.TheVariants.{S0, S1, X, Z, M, Dash}
use Rattle.rtl_sig.specs.declared.sig.SigBit.{SigBit}
use Rattle.net_model.specs.Lists.{In}
use Rattle.gate_nets.specs.declared.gate.Gate.TheVariants.{Mux}
use Rattle.gate_nets.proofs.Nets.{Goods, Logic, Net, length-pairs, net_also, net_pure, net_select, net_since, net_then}
use Rattle.gate_nets.proofs.Values.{unknown_below, word_below}
use Rattle.map_gates.specs.Choice.{chosen_of}

-- the bits of a choice: of a word, and for each select bit, rising, the next part of this width
abbrev pub chosen_at : ℕ → (ℕ → Bit) → (ℕ → Bit) → List Bit → ℕ → Bit
chosen_at width u v [] = u
chosen_at width u v (c ∷ cs) = chosen_at width (λ at. mux_of (u at) (v at) c) (λ at. v (width + at)) cs

module _ (l : Logic) where
  goods_same : (u v : ℕ → Bit) → ((at : ℕ) → u at ≡ v at) → (bits : List SigBit) → Goods l u bits → Goods l v bits
  goods_same u v e [] h = tt
  goods_same u v e (b ∷ bits) h = (subst (λ z. l.Has z b) (e 0) h.0, goods_same (λ k. u (suc k)) (λ k. v (suc k)) (λ k. e (suc k)) bits h.1)

  goods_take : (v : ℕ → Bit) (n : ℕ) (bits : List SigBit) → Goods l v bits → Goods l v (take n bits)
  goods_take v zero [] h = tt
  goods_take v zero (b ∷ bits) h = tt
  goods_take v (suc n) [] h = tt
  goods_take v (suc n) (b ∷ bits) h = (h.0, goods_take (λ k. v (suc k)) n bits h.1)

  pub goods_drop : (v : ℕ → Bit) (n : ℕ) (bits : List SigBit) → Goods l v bits → Goods l (λ at. v (n + at)) (drop n bits)
  goods_drop v zero bits h = goods_same v (λ at. v (0 + at)) (λ at. let e : at ≡ 0 + at = omega arith in ap v e) bits h
  goods_drop v (suc n) [] h = tt
  goods_drop v (suc n) (b ∷ bits) h =
      goods_same (λ at. v (suc (n + at))) (λ at. v (suc n + at)) (λ at. let e : suc (n + at) ≡ suc n + at = omega arith in ap v e) (drop n bits) (goods_drop (λ k. v (suc k)) n bits h.1)

  pub net_chosen : (width : ℕ) (u v : ℕ → Bit) (g : SigBit → Bit) (word parts selects : List SigBit) {R : Type 0} → (R → Goods l u word) → (R → Goods l v parts) → ((x : SigBit) → In x selects → l.Has (g x) x)
      → Net l R (chosen_of width word parts selects) (λ ys. Goods l (chosen_at width u v (map g selects)) ys × (length word ≡ width → length parts ≡ width * length selects → length ys ≡ width))
  net_chosen width u v g word parts [] h k j = net_pure l (λ r. (h r, λ d e. d))
  net_chosen width u v g word parts (s ∷ selects) h k j =
      net_then l (net_also l {V = λ ys. length ys ≡ min (length word) (length (take width parts))} (net_select l u v (g s) word (take width parts) s h (λ r. goods_take v width parts (k r)) (λ r. j s (inl refl))) (λ old. length-pairs (λ x y. Mux x y s) word (take width parts) old)) λ next.
      net_since l (net_chosen width (λ at. mux_of (u at) (v at) (g s)) (λ at. v (width + at)) g next (drop width parts) selects (λ r. r.1.0) (λ r. goods_drop v width parts (k r.0)) (λ x i. j x (inr i)))
      (λ ys r w. (w.0, λ d e. w.1 (full next (length word) (r.1.1) d e) (rest e)))
    where
      full : (next : List SigBit) (n : ℕ) → length next ≡ min n (length (take width parts)) → n ≡ width → length parts ≡ width * suc (length selects) → length next ≡ width
      full next n is d e = omega (arith, is, d, e, length-take width parts)

      rest : length parts ≡ width * suc (length selects) → length (drop width parts) ≡ width * length selects
      rest e = omega (arith, e, length-drop width parts)

-- a bit as a cell reads it says no more than the bit, and no less than what is below the bit
pub seen_below : (z : Bit) → Below (seen_of z) z
seen_below S0 = refl
seen_below S1 = refl
seen_below X = tt
seen_below Z = tt
seen_below M = tt
seen_below Dash = tt

seen_above : (b z : Bit) → Below b z → Below b (seen_of z)
seen_above S0 z h = ap seen_of h
seen_above S1 z h = ap seen_of h
seen_above X z h = tt
seen_above Z z h = tt
seen_above M z h = tt
seen_above Dash z h = tt

one_more : (cs : List Bit) → count_by is_one (S1 ∷ cs) ≡ 1 + count_by is_one cs
one_more cs = sum_by-cons (λ x. cond (is_one x) 1 0) S1 cs

module _ (width at : ℕ) where
  -- what is below a bit of the word stays so where no select bit is 1
  stays : (u v : ℕ → Bit) (cs : List Bit) (b : Bit) → all_known cs ≡ true → count_by is_one cs ≡ 0 → Below b (u at) → Below b (chosen_at width u v cs at)
  stays u v [] b known none h = h
  stays u v (S0 ∷ cs) b known none h =
      stays (λ i. mux_of (u i) (v i) S0) (λ i. v (width + i)) cs b known none (seen_above b (u at) h)
  stays u v (S1 ∷ cs) b known none h = absurd (omega (arith, none, one_more cs))
  stays u v (X ∷ cs) b known none h = absurd (cc)
  stays u v (Z ∷ cs) b known none h = absurd (cc)
  stays u v (M ∷ cs) b known none h = absurd (cc)
  stays u v (Dash ∷ cs) b known none h = absurd (cc)

  part_place : (p : ℕ) → (1 + p) * width + at ≡ width + (p * width + at)
  part_place p = grind arith

  -- and a bit of a part is chosen by the one select bit that is 1
  chooses : (u v : ℕ → Bit) (cs : List Bit) → all_known cs ≡ true → count_by is_one cs ≡ 1 → Below (seen_of (v (position_or_len is_one cs * width + at))) (chosen_at width u v cs at)
  chooses u v [] known one = absurd (omega (arith, one))
  chooses u v (S0 ∷ cs) known one =
      subst (λ n. Below (seen_of (v n)) (chosen_at width u v (S0 ∷ cs) at)) (sym (part_place (position_or_len is_one cs)))
      (chooses (λ i. mux_of (u i) (v i) S0) (λ i. v (width + i)) cs known one)
  chooses u v (S1 ∷ cs) known one =
      let none : count_by is_one cs ≡ 0 = omega (arith, one, one_more cs) in
      let here : at ≡ 0 * width + at = omega arith in
      subst (λ n. Below (seen_of (v n)) (chosen_at width u v (S1 ∷ cs) at)) here
      (stays (λ i. mux_of (u i) (v i) S1) (λ i. v (width + i)) cs (seen_of (v at)) known none (Below_refl (seen_of (v at))))
  chooses u v (X ∷ cs) known one = absurd (cc)
  chooses u v (Z ∷ cs) known one = absurd (cc)
  chooses u v (M ∷ cs) known one = absurd (cc)
  chooses u v (Dash ∷ cs) known one = absurd (cc)

found : (cs : List Bit) → count_by is_one cs ≡ 1 → position_or_len is_one cs < length cs
found [] one = absurd (omega (arith, one))
found (S0 ∷ cs) one = omega (arith, found cs one)
found (S1 ∷ cs) one = omega arith
found (X ∷ cs) one = omega (arith, found cs one)
found (Z ∷ cs) one = omega (arith, found cs one)
found (M ∷ cs) one = omega (arith, found cs one)
found (Dash ∷ cs) one = omega (arith, found cs one)

place_is : (cs : List Bit) → count_by is_one cs ≡ 1 → place_of cs ≡ position_or_len is_one cs
place_is cs one =
    let here : nat_lt (position_or_len is_one cs) (length cs) ≡ true = lt-ltb (position_or_len is_one cs) (length cs) (found cs one) in
    ap (λ t. unwrap_or (cond t (Some (position_or_len is_one cs)) None) 0) here

-- the bits of the value of a choice, as far as the width goes
pub picked_below : (width at : ℕ) (a b s : List Bit) → at < width → Below (slice_index_or (picked_of a b s width) at X) (chosen_at width (λ i. slice_index_or a i X) (λ i. slice_index_or b i X) s at)
picked_below width at a b s lt = known (all_known s) refl
  where
    result : Bit
    result = chosen_at width (λ i. slice_index_or a i X) (λ i. slice_index_or b i X) s at

    own : all_known s ≡ true → count_by is_one s ≡ 0 → Below (slice_index_or (part_of a 0 width) at X) result
    own k none =
        let here : at ≡ 0 + at = omega arith in
        word_below (λ i. seen_of (slice_index_or a (0 + i) X)) width at result
        (λ l. stays width at (λ i. slice_index_or a i X) (λ i. slice_index_or b i X) s (seen_of (slice_index_or a (0 + at) X)) k none
        (subst (λ n. Below (seen_of (slice_index_or a n X)) (slice_index_or a at X)) here (seen_below (slice_index_or a at X))))

    part : all_known s ≡ true → count_by is_one s ≡ 1 → Below (slice_index_or (part_of b (place_of s * width) width) at X) result
    part k one =
        word_below (λ i. seen_of (slice_index_or b (place_of s * width + i) X)) width at result
        (λ l. subst (λ p. Below (seen_of (slice_index_or b (p * width + at) X)) result) (sym (place_is s one)) (chooses width at (λ i. slice_index_or a i X) (λ i. slice_index_or b i X) s k one))

    one : all_known s ≡ true → (t : Bool) → (count_by is_one s == 1) ≡ t → Below (slice_index_or (if t then part_of b (place_of s * width) width else unknown_of width) at X) result
    one k true e = part k (eqb-true (count_by is_one s) 1 e)
    one k false e = unknown_below width at result

    none : all_known s ≡ true → (t : Bool) → (count_by is_one s == 0) ≡ t → Below (slice_index_or (if t then part_of a 0 width else if count_by is_one s == 1 then part_of b (place_of s * width) width else unknown_of width) at X) result
    none k true e = own k (eqb-true (count_by is_one s) 0 e)
    none k false e = one k (count_by is_one s == 1) refl

    known : (t : Bool) → all_known s ≡ t → Below (slice_index_or (if t then selected_of a b s width else unknown_of width) at X) result
    known true k = none k (count_by is_one s == 0) refl
    known false k = unknown_below width at result
