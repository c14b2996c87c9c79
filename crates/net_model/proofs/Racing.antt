-- The race of a clock and a reset keeps an order: more known edges leave fewer values to merge.
use Rattle.std.proofs.Common.{◌≡◌, List, [], ◌∷◌, ◌++◌, ◌⊎◌, inl, inr, ⊎_elim, refl, sym, ◌∙◌, ap, subst}
use Rattle.rtl_bits.specs.declared.bit.Bit.{Bit}
use Rattle.rtl_bits.specs.declared.bit.Bit.TheVariants.{S0, S1, X, Z, M, Dash}
use Rattle.rtl_bits.specs.Knowledge.{IsKnown}
use Rattle.rtl_bits.specs.Tables.{seen_of, or_of, merge_of}
use Rattle.net_model.specs.Lists.{In}
use Rattle.net_model.specs.Race.{common_of, unless_impossible, unless_certain, raced_of}
use Rattle.net_model.proofs.Members.{In-left, In-right, In-cases}
use Rattle.net_model.proofs.Orders.{Kept}

seen_known : (a k : Bit) → IsKnown k → seen_of a ≡ k → a ≡ k
seen_known S0 k i e = e
seen_known S1 k i e = e
seen_known X k i e = absurd (subst IsKnown (sym e) i)
seen_known Z k i e = absurd (subst IsKnown (sym e) i)
seen_known M k i e = absurd (subst IsKnown (sym e) i)
seen_known Dash k i e = absurd (subst IsKnown (sym e) i)

merge_known : (a b k : Bit) → IsKnown k → merge_of a b ≡ k → (a ≡ k) × (b ≡ k)
merge_known S0 S0 k i e = (e, e)
merge_known S1 S1 k i e = (e, e)
merge_known a b k i e = absurd (subst IsKnown (sym e) i)

-- a known common value is that of each bit
common_known : (bs : List Bit) (k : Bit) → IsKnown k → common_of bs ≡ k → (b : Bit) → In b bs → b ≡ k
common_known [] k i e b j = absurd j
common_known (a ∷ []) k i e b (inl f) = f ∙ seen_known a k i e
common_known (a ∷ []) k i e b (inr j) = absurd j
common_known (a ∷ c ∷ bs) k i e b (inl f) = f ∙ (merge_known a (common_of (c ∷ bs)) k i e).0
common_known (a ∷ c ∷ bs) k i e b (inr j) = common_known (c ∷ bs) k i (merge_known a (common_of (c ∷ bs)) k i e).1 b j

known_seen : (k : Bit) → IsKnown k → seen_of k ≡ k
known_seen S0 i = refl
known_seen S1 i = refl
known_seen X i = absurd i
known_seen Z i = absurd i
known_seen M i = absurd i
known_seen Dash i = absurd i

known_merge : (k : Bit) → IsKnown k → merge_of k k ≡ k
known_merge S0 i = refl
known_merge S1 i = refl
known_merge X i = absurd i
known_merge Z i = absurd i
known_merge M i = absurd i
known_merge Dash i = absurd i

-- bits that are all one known value have it in common, where there are any
common_all : (bs : List Bit) (k : Bit) → IsKnown k → ((b : Bit) → In b bs → b ≡ k) → (c : Bit) → In c bs → common_of bs ≡ k
common_all [] k i h c j = absurd j
common_all (a ∷ []) k i h c j = ap seen_of (h a (inl refl)) ∙ known_seen k i
common_all (a ∷ d ∷ bs) k i h c j =
    let rest : common_of (d ∷ bs) ≡ k = common_all (d ∷ bs) k i (λ b l. h b (inr l)) d (inl refl) in
    ap (λ z. merge_of z (common_of (d ∷ bs))) (h a (inl refl)) ∙ ap (merge_of k) rest ∙ known_merge k i

-- what is in common is 0, 1 or x
common_plain : (bs : List Bit) → IsKnown (common_of bs) ⊎ (common_of bs ≡ X)
common_plain [] = inr refl
common_plain (S0 ∷ []) = inl tt
common_plain (S1 ∷ []) = inl tt
common_plain (X ∷ []) = inr refl
common_plain (Z ∷ []) = inr refl
common_plain (M ∷ []) = inr refl
common_plain (Dash ∷ []) = inr refl
common_plain (a ∷ c ∷ bs) = merge_plain a (common_of (c ∷ bs))
  where
    merge_plain : (a b : Bit) → IsKnown (merge_of a b) ⊎ (merge_of a b ≡ X)
    merge_plain S0 S0 = inl tt
    merge_plain S1 S1 = inl tt
    merge_plain a b = inr refl

module _ (order : Bit → Bit → Type 0) (k : Kept order) where
  -- each bit of the second list is above one of the first
  Covers : List Bit → List Bit → Type 0
  Covers low high = (b : Bit) → In b high → (a : Bit) × In a low × order a b

  common_kept : (low high : List Bit) → Covers low high → (c : Bit) → In c high → order (common_of low) (common_of high)
  unfolding Covers
  common_kept low high h c j =
      ⊎_elim (λ i. let same : common_of high ≡ common_of low = common_all high (common_of low) i (λ b l. let a = h b l in k.bits.known (common_of low) b i (subst (λ z. order z b) (common_known low (common_of low) i refl a.0 a.1) a.2)) c j in subst (order (common_of low)) (sym same) (k.bits.self (common_of low))) (λ x. subst (λ z. order z (common_of high)) (sym x) (k.bits.bottom (common_of high))) (common_plain low)

  covers_append : (a a' b b' : List Bit) → Covers a a' → Covers b b' → Covers (a ++ b) (a' ++ b')
  unfolding Covers
  covers_append a a' b b' h i c j =
      ⊎_elim (λ l. let x = h c l in (x.0, In-left x.0 a b x.1, x.2)) (λ r. let x = i c r in (x.0, In-right x.0 a b x.1, x.2)) (In-cases c a' b' j)

  covers_one : (a a' : Bit) → order a a' → Covers (a ∷ []) (a' ∷ [])
  unfolding Covers
  covers_one a a' h b (inl e) = (a, inl refl, subst (order a) (sym e) h)
  covers_one a a' h b (inr i) = absurd i

  covers_two : (a a' b b' : Bit) → order a a' → order b b' → Covers (a ∷ b ∷ []) (a' ∷ b' ∷ [])
  covers_two a a' b b' h i = covers_append (a ∷ []) (a' ∷ []) (b ∷ []) (b' ∷ []) (covers_one a a' h) (covers_one b b' i)

  -- fewer stay where more is known of the edge
  possible_fewer : (e : Bit) (bs : List Bit) (b : Bit) → In b (unless_impossible e bs) → In b bs
  possible_fewer S0 bs b i = absurd i
  possible_fewer S1 bs b i = i
  possible_fewer X bs b i = i
  possible_fewer Z bs b i = i
  possible_fewer M bs b i = i
  possible_fewer Dash bs b i = i

  possible_covers : (e e' : Bit) (low high : List Bit) → order e e' → Covers low high → Covers (unless_impossible e low) (unless_impossible e' high)
  unfolding Covers
  possible_covers S0 e' low high h i b j =
      absurd (subst (λ z. In b (unless_impossible z high)) (k.bits.known S0 e' tt h) j)
  possible_covers S1 e' low high h i b j = i b (possible_fewer e' high b j)
  possible_covers X e' low high h i b j = i b (possible_fewer e' high b j)
  possible_covers Z e' low high h i b j = i b (possible_fewer e' high b j)
  possible_covers M e' low high h i b j = i b (possible_fewer e' high b j)
  possible_covers Dash e' low high h i b j = i b (possible_fewer e' high b j)

  certain_fewer : (e : Bit) (bs : List Bit) (b : Bit) → In b (unless_certain e bs) → In b bs
  certain_fewer S1 bs b i = absurd i
  certain_fewer S0 bs b i = i
  certain_fewer X bs b i = i
  certain_fewer Z bs b i = i
  certain_fewer M bs b i = i
  certain_fewer Dash bs b i = i

  certain_covers : (e e' : Bit) (low high : List Bit) → order e e' → Covers low high → Covers (unless_certain e low) (unless_certain e' high)
  unfolding Covers
  certain_covers S1 e' low high h i b j =
      absurd (subst (λ z. In b (unless_certain z high)) (k.bits.known S1 e' tt h) j)
  certain_covers S0 e' low high h i b j = i b (certain_fewer e' high b j)
  certain_covers X e' low high h i b j = i b (certain_fewer e' high b j)
  certain_covers Z e' low high h i b j = i b (certain_fewer e' high b j)
  certain_covers M e' low high h i b j = i b (certain_fewer e' high b j)
  certain_covers Dash e' low high h i b j = i b (certain_fewer e' high b j)

  -- some value always counts
  counts : (c r a b d o : Bit) → (z : Bit) × In z (unless_impossible c (a ∷ b ∷ []) ++ (unless_impossible r (d ∷ []) ++ unless_certain (or_of c r) (o ∷ [])))
  counts S0 S0 a b d o = (o, inl refl)
  counts S0 S1 a b d o = (d, inl refl)
  counts S0 X a b d o = (d, inl refl)
  counts S0 Z a b d o = (d, inl refl)
  counts S0 M a b d o = (d, inl refl)
  counts S0 Dash a b d o = (d, inl refl)
  counts S1 r a b d o = (a, inl refl)
  counts X r a b d o = (a, inl refl)
  counts Z r a b d o = (a, inl refl)
  counts M r a b d o = (a, inl refl)
  counts Dash r a b d o = (a, inl refl)

  pub raced_kept : (c c' r r' a a' b b' d d' o o' : Bit) → order c c' → order r r' → order a a' → order b b' → order d d' → order o o' → order (raced_of c r a b d o) (raced_of c' r' a' b' d' o')
  raced_kept c c' r r' a a' b b' d d' o o' hc hr ha hb hd ho =
      let some = counts c' r' a' b' d' o' in
      common_kept _ _ (covers_append _ _ _ _ (possible_covers c c' _ _ hc (covers_two a a' b b' ha hb)) (covers_append _ _ _ _ (possible_covers r r' _ _ hr (covers_one d d' hd)) (certain_covers _ _ _ _ (k.bits.or _ _ _ _ hc hr) (covers_one o o' ho)))) some.0 some.1
