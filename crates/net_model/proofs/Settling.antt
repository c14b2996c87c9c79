-- What settling comes to is a solution of the rows, exactly, and the least one.
use Rattle.std.proofs.Common.{◌≡◌, ℕ, zero, suc, ◌+◌, ◌≤◌, Bool, true, false, cond, List, [], ◌∷◌, ◌++◌, length, ◌⊎◌, inl, inr, ⊎_elim, refl, sym, ◌∙◌, ap, subst, arith}
use Rattle.std.proofs.lemmas.Bool.{cond_both, cases_lt, true≢false}
use Rattle.rtl_bits.specs.declared.bit.Bit.{Bit}
use Rattle.rtl_bits.specs.declared.bit.Bit.TheVariants.{S0, S1, X, Z, M, Dash}
use Rattle.rtl_bits.specs.Knowledge.{FlatBelow}
use Rattle.rtl_bits.proofs.Keeping.{Keeps}
use Rattle.net_model.specs.Lists.{In, Distinct}
use Rattle.net_model.specs.Settle.{Pointwise, Row, bits_of, AreMonotone, IsAboveRows, IsSame, applied, rounds, settled}
use Rattle.net_model.proofs.Members.{In-map, apart_at}

module _ {B : Type 0} (same : B → B → Bool) (is_same : IsSame same) where
  -- a relation that x has to each bit, and that each row keeps, holds of what the rows give
  pub applied_keeps : (rs : List (Row B)) (v : B → Bit) (P : B → Bit → Type 0) → ((b : B) → P b X) → ((r : Row B) → In r rs → P r.bit (r.value v)) → (b : B) → P b (applied same rs v b)
  applied_keeps [] v P z h b = z b
  applied_keeps (r ∷ rs) v P z h b =
      cond_both (same r.bit b) (r.value v) (applied same rs v b) (P b) (λ e. subst (λ c. P c (r.value v)) ((is_same r.bit b).0 e) (h r (inl refl))) (λ e. applied_keeps rs v P z (λ q m. h q (inr m)) b)

  -- what x has everywhere, and the rows keep, holds after any number of rounds
  pub rounds_keep : (rs : List (Row B)) (P : (B → Bit) → Type 0) → P (λ b. X) → ((v : B → Bit) → P v → P (applied same rs v)) → (n : ℕ) → P (rounds same rs n)
  rounds_keep rs P z s zero = z
  rounds_keep rs P z s (suc n) = s (rounds same rs n) (rounds_keep rs P z s n)

  -- of two rows of one bit the first counts, so a row whose bit stands once gives its bit the value
  pub applied_at : (rs more : List (Row B)) → Distinct (bits_of rs) → (v : B → Bit) (r : Row B) → In r rs → applied same (rs ++ more) v r.bit ≡ r.value v
  applied_at [] more d v r i = absurd i
  applied_at (q ∷ rs) more d v r (inl e) =
      cond_both (same q.bit r.bit) (q.value v) (applied same (rs ++ more) v r.bit) (λ z. z ≡ r.value v) (λ t. ap (λ z. z.value v) (sym e)) (λ f. absurd (true≢false (sym ((is_same q.bit r.bit).1 (ap (λ z. z.bit) (sym e))) ∙ f)))
  applied_at (q ∷ rs) more d v r (inr i) =
      cond_both (same q.bit r.bit) (q.value v) (applied same (rs ++ more) v r.bit) (λ z. z ≡ r.value v) (λ t. absurd (apart_at q.bit (bits_of rs) d.0 r.bit (In-map (λ z. z.bit) r rs i) ((is_same q.bit r.bit).0 t))) (λ f. applied_at rs more d.1 v r i)

  -- a bit without a row is x
  applied_listed : (rs : List (Row B)) (v : B → Bit) (b : B) → (applied same rs v b ≡ X) ⊎ In b (bits_of rs)
  applied_listed [] v b = inl refl
  applied_listed (r ∷ rs) v b =
      cond_both (same r.bit b) (r.value v) (applied same rs v b) (λ z. (z ≡ X) ⊎ In b (bits_of (r ∷ rs))) (λ e. inr (inl (sym ((is_same r.bit b).0 e)))) (λ e. ⊎_elim (λ x. inl x) (λ i. inr (inr i)) (applied_listed rs v b))

  module _ (order : Bit → Bit → Type 0) (k : Keeps order) where
    -- a valuation above what the rows give from it is above what is settled
    pub settled_least : (rs : List (Row B)) → AreMonotone order rs → (w : B → Bit) → IsAboveRows order rs w → Pointwise order (settled same rs) w
    settled_least rs m w a =
        rounds_keep rs (λ v. Pointwise order v w) (λ b. k.bottom (w b)) (λ v h. applied_keeps rs v (λ b z. order z (w b)) (λ b. k.bottom (w b)) (λ r i. k.through (r.value v) (r.value w) (w r.bit) (m r i v w h) (a r i))) (length rs)

    pub applied_mono : (rs : List (Row B)) → AreMonotone order rs → (v w : B → Bit) → Pointwise order v w → Pointwise order (applied same rs v) (applied same rs w)
    applied_mono [] m v w h b = k.bottom X
    applied_mono (r ∷ rs) m v w h b =
        elim (same r.bit b) as (λ t. order (cond t (r.value v) (applied same rs v b)) (cond t (r.value w) (applied same rs w b))) [ true ↦ m r (inl refl) v w h | false ↦ applied_mono rs (λ q i. m q (inr i)) v w h b ]

    pub rounds_grow : (rs : List (Row B)) → AreMonotone order rs → (n : ℕ) → Pointwise order (rounds same rs n) (rounds same rs (suc n))
    rounds_grow rs m zero = λ b. k.bottom (rounds same rs 1 b)
    rounds_grow rs m (suc n) = applied_mono rs m (rounds same rs n) (rounds same rs (suc n)) (rounds_grow rs m n)

-- 1 for a bit that is not x
abbrev weight : Bit → ℕ
weight X = 0
weight S0 = 1
weight S1 = 1
weight Z = 1
weight M = 1
weight Dash = 1

weight_mono : (a b : Bit) → FlatBelow a b → weight a ≤ weight b
weight_mono X b h = omega arith
weight_mono S0 b h = subst (λ z. 1 ≤ weight z) (sym h) (omega arith)
weight_mono S1 b h = subst (λ z. 1 ≤ weight z) (sym h) (omega arith)
weight_mono Z b h = subst (λ z. 1 ≤ weight z) (sym h) (omega arith)
weight_mono M b h = subst (λ z. 1 ≤ weight z) (sym h) (omega arith)
weight_mono Dash b h = subst (λ z. 1 ≤ weight z) (sym h) (omega arith)

weight_most : (a : Bit) → weight a ≤ 1
weight_most X = omega arith
weight_most S0 = omega arith
weight_most S1 = omega arith
weight_most Z = omega arith
weight_most M = omega arith
weight_most Dash = omega arith

-- a bit that grew and weighs no more is the same
weight_back : (a b : Bit) → FlatBelow a b → weight b ≤ weight a → b ≡ a
weight_back S0 b h k = h
weight_back S1 b h k = h
weight_back Z b h k = h
weight_back M b h k = h
weight_back Dash b h k = h
weight_back X X h k = refl
weight_back X S0 h k = absurd (omega arith)
weight_back X S1 h k = absurd (omega arith)
weight_back X Z h k = absurd (omega arith)
weight_back X M h k = absurd (omega arith)
weight_back X Dash h k = absurd (omega arith)

module _ {B : Type 0} where
  -- how many of these bits are not x
  abbrev weight_in : (B → Bit) → List B → ℕ
  weight_in v [] = 0
  weight_in v (b ∷ bs) = weight (v b) + weight_in v bs

  weight_in_mono : (v w : B → Bit) (bs : List B) → Pointwise FlatBelow v w → weight_in v bs ≤ weight_in w bs
  weight_in_mono v w [] h = omega arith
  weight_in_mono v w (b ∷ bs) h = omega (arith, weight_mono (v b) (w b) (h b), weight_in_mono v w bs h)

  weight_in_most : (v : B → Bit) (bs : List B) → weight_in v bs ≤ length bs
  weight_in_most v [] = omega arith
  weight_in_most v (b ∷ bs) = omega (arith, weight_most (v b), weight_in_most v bs)

  weight_in_back : (v w : B → Bit) (bs : List B) → Pointwise FlatBelow v w → weight_in w bs ≤ weight_in v bs → (b : B) → In b bs → w b ≡ v b
  weight_in_back v w [] h k b i = absurd i
  weight_in_back v w (c ∷ bs) h k b (inl e) =
      let le : weight (w c) ≤ weight (v c) = omega (arith, weight_in_mono v w bs h) in
      subst (λ z. w z ≡ v z) (sym e) (weight_back (v c) (w c) (h c) le)
  weight_in_back v w (c ∷ bs) h k b (inr i) =
      weight_in_back v w bs h (omega (arith, weight_mono (v c) (w c) (h c))) b i

  length-bits : (rs : List (Row B)) → length (bits_of rs) ≡ length rs
  length-bits [] = refl
  length-bits (r ∷ rs) = ap suc (length-bits rs)

module _ {B : Type 0} (same : B → B → Bool) (is_same : IsSame same) (k : Keeps FlatBelow) where
  -- where a further round makes no bit differ from x, it changes nothing
  round_back : (rs : List (Row B)) → AreMonotone FlatBelow rs → (n : ℕ) → weight_in (rounds same rs (suc n)) (bits_of rs) ≤ weight_in (rounds same rs n) (bits_of rs) → rounds same rs (suc n) ≡ rounds same rs n
  round_back rs m n le =
      let grown = rounds_grow same is_same FlatBelow k rs m n in
      let at : (b : B) → rounds same rs (suc n) b ≡ rounds same rs n b = λ b. ⊎_elim (λ x. x ∙ sym (unlisted b x)) (λ i. weight_in_back (rounds same rs n) (rounds same rs (suc n)) (bits_of rs) grown le b i) (applied_listed same is_same rs (rounds same rs n) b) in
      λ j b. at b j
    where
      unlisted : (b : B) → rounds same rs (suc n) b ≡ X → rounds same rs n b ≡ X
      unlisted b x = below_x (rounds same rs n b) (subst (λ z. FlatBelow (rounds same rs n b) z) x (rounds_grow same is_same FlatBelow k rs m n b))
        where
          below_x : (a : Bit) → FlatBelow a X → a ≡ X
          below_x X h = refl
          below_x S0 h = sym h
          below_x S1 h = sym h
          below_x Z h = sym h
          below_x M h = sym h
          below_x Dash h = sym h

  -- after n rounds, n bits differ from x or nothing changes any more
  rounds_reach : (rs : List (Row B)) → AreMonotone FlatBelow rs → (n : ℕ) → (n ≤ weight_in (rounds same rs n) (bits_of rs)) ⊎ (rounds same rs (suc n) ≡ rounds same rs n)
  rounds_reach rs m zero = inl (omega arith)
  rounds_reach rs m (suc n) =
      ⊎_elim
      (λ le. ⊎_elim (λ lt. inl (omega arith)) (λ ge. inr (ap (applied same rs) (round_back rs m n ge))) (cases_lt (weight_in (rounds same rs n) (bits_of rs)) (weight_in (rounds same rs (suc n)) (bits_of rs))))
      (λ s. inr (ap (applied same rs) s))
      (rounds_reach rs m n)

  -- after as many rounds as there are bits a further round changes nothing
  pub settled_stable : (rs : List (Row B)) → AreMonotone FlatBelow rs → applied same rs (settled same rs) ≡ settled same rs
  settled_stable rs m =
      ⊎_elim
      (λ le. round_back rs m (length rs) (omega (arith, weight_in_most (rounds same rs (suc (length rs))) (bits_of rs), length-bits rs)))
      (λ s. s)
      (rounds_reach rs m (length rs))

  -- each bit that stands once has exactly what its row gives
  pub settled_at : (rs more : List (Row B)) → AreMonotone FlatBelow (rs ++ more) → Distinct (bits_of rs) → (r : Row B) → In r rs → r.value (settled same (rs ++ more)) ≡ settled same (rs ++ more) r.bit
  settled_at rs more m d r i =
      sym (applied_at same is_same rs more d (settled same (rs ++ more)) r i) ∙ ap (λ z. z r.bit) (settled_stable (rs ++ more) m)
