-- What a race gives is below what a register with a level, or without one, gives, in either order of time.
use Rattle.std.proofs.Common.{◌≡◌, List, [], ◌∷◌, ◌++◌, ◌⊎◌, inl, inr, refl, sym, ap, subst}
use Rattle.rtl_bits.specs.declared.bit.Bit.{Bit}
use Rattle.rtl_bits.specs.declared.bit.Bit.TheVariants.{S0, S1, X, Z, M, Dash}
use Rattle.rtl_bits.specs.Knowledge.{Below}
use Rattle.rtl_bits.specs.Tables.{and_of, merge_of, not_of, or_of, seen_of}
use Rattle.rtl_bits.proofs.Orders.{Below_refl, Below_trans, merge_greatest, merge_left, merge_right}
use Rattle.cell_gate.specs.Control.{edge_of, pick_of}
use Rattle.net_model.proofs.Members.{In-left, In-right}
use Rattle.net_model.proofs.Orders.{below}
use Rattle.net_model.proofs.Writing.{pick_kept}
use Rattle.net_model.specs.Lists.{In}
use Rattle.net_model.specs.Race.{common_of, raced_of, unless_certain, unless_impossible}

seen_below : (a : Bit) → Below (seen_of a) a
seen_below S0 = refl
seen_below S1 = refl
seen_below X = tt
seen_below Z = tt
seen_below M = tt
seen_below Dash = tt

below_seen : (r a : Bit) → Below r a → Below r (seen_of a)
below_seen S0 a h = ap seen_of h
below_seen S1 a h = ap seen_of h
below_seen X a h = tt
below_seen Z a h = tt
below_seen M a h = tt
below_seen Dash a h = tt

-- what bits have in common is below each
common_below : (bs : List Bit) (b : Bit) → In b bs → Below (common_of bs) b
common_below [] b i = absurd i
common_below (a ∷ []) b (inl e) = subst (Below (seen_of a)) (sym e) (seen_below a)
common_below (a ∷ []) b (inr i) = absurd i
common_below (a ∷ c ∷ bs) b (inl e) = subst (Below (merge_of a (common_of (c ∷ bs)))) (sym e) (merge_left a (common_of (c ∷ bs)))
common_below (a ∷ c ∷ bs) b (inr i) =
    Below_trans (merge_of a (common_of (c ∷ bs))) (common_of (c ∷ bs)) b (merge_right a (common_of (c ∷ bs))) (common_below (c ∷ bs) b i)

-- a bit is 0 or not, and 1 or not
pub zero_or : (e : Bit) → (e ≡ S0) ⊎ (e ≡ S0 → ⊥)
zero_or S0 = inl refl
zero_or S1 = inr (λ h. absurd (cc))
zero_or X = inr (λ h. absurd (cc))
zero_or Z = inr (λ h. absurd (cc))
zero_or M = inr (λ h. absurd (cc))
zero_or Dash = inr (λ h. absurd (cc))

pub one_or : (e : Bit) → (e ≡ S1) ⊎ (e ≡ S1 → ⊥)
one_or S0 = inr (λ h. absurd (cc))
one_or S1 = inl refl
one_or X = inr (λ h. absurd (cc))
one_or Z = inr (λ h. absurd (cc))
one_or M = inr (λ h. absurd (cc))
one_or Dash = inr (λ h. absurd (cc))

possible_in : (e : Bit) (bs : List Bit) (b : Bit) → (e ≡ S0 → ⊥) → In b bs → In b (unless_impossible e bs)
possible_in S0 bs b h i = absurd (h refl)
possible_in S1 bs b h i = i
possible_in X bs b h i = i
possible_in Z bs b h i = i
possible_in M bs b h i = i
possible_in Dash bs b h i = i

uncertain_in : (e : Bit) (bs : List Bit) (b : Bit) → (e ≡ S1 → ⊥) → In b bs → In b (unless_certain e bs)
uncertain_in S1 bs b h i = absurd (h refl)
uncertain_in S0 bs b h i = i
uncertain_in X bs b h i = i
uncertain_in Z bs b h i = i
uncertain_in M bs b h i = i
uncertain_in Dash bs b h i = i

-- an edge is certain only where the control is active, and impossible only where it was or where it is inactive
edge_certain : (was is : Bit) → edge_of was is ≡ S1 → is ≡ S1
edge_certain was is e = by (not_of was) is e
  where
    by : (a b : Bit) → and_of a b ≡ S1 → b ≡ S1
    by S0 b f = absurd (cc)
    by a S0 f = absurd (cc)
    by a S1 f = refl
    by a X f = absurd (cc)
    by a Z f = absurd (cc)
    by a M f = absurd (cc)
    by a Dash f = absurd (cc)

edge_impossible : (was is : Bit) → (is ≡ S0 → ⊥) → edge_of was is ≡ S0 → was ≡ S1
edge_impossible S1 is h e = refl
edge_impossible S0 is h e = absurd (by is h e)
  where
    by : (b : Bit) → (b ≡ S0 → ⊥) → and_of S1 b ≡ S0 → ⊥
    by S0 g f = g refl
    by S1 g f = absurd (cc)
    by X g f = absurd (cc)
    by Z g f = absurd (cc)
    by M g f = absurd (cc)
    by Dash g f = absurd (cc)
edge_impossible was is h e = absurd (by is h e)
  where
    by : (b : Bit) → (b ≡ S0 → ⊥) → and_of X b ≡ S0 → ⊥
    by S0 g f = g refl
    by S1 g f = absurd (cc)
    by X g f = absurd (cc)
    by Z g f = absurd (cc)
    by M g f = absurd (cc)
    by Dash g f = absurd (cc)

either_certain : (a b : Bit) → (a ≡ S1 → ⊥) → or_of a b ≡ S1 → b ≡ S1
either_certain S1 b h e = absurd (h refl)
either_certain a S1 h e = refl
either_certain S0 S0 h e = absurd (cc)
either_certain a b h e = absurd (cc)

-- what is below both choices is below what is picked, and each choice counts unless the other is certain
pick_above : (r c a b : Bit) → ((c ≡ S0 → ⊥) → Below r a) → ((c ≡ S1 → ⊥) → Below r b) → Below r (pick_of c a b)
pick_above r S0 a b h i = below_seen r b (i (λ e. absurd (cc)))
pick_above r S1 a b h i = below_seen r a (h (λ e. absurd (cc)))
pick_above r X a b h i = merge_greatest b a r (i (λ e. absurd (cc))) (h (λ e. absurd (cc)))
pick_above r Z a b h i = merge_greatest b a r (i (λ e. absurd (cc))) (h (λ e. absurd (cc)))
pick_above r M a b h i = merge_greatest b a r (i (λ e. absurd (cc))) (h (λ e. absurd (cc)))
pick_above r Dash a b h i = merge_greatest b a r (i (λ e. absurd (cc))) (h (λ e. absurd (cc)))

-- what is above both choices is above what is picked
pick_within : (c a b k : Bit) → Below a k → Below b k → Below (pick_of c a b) k
pick_within S0 a b k h i = Below_trans (seen_of b) b k (seen_below b) i
pick_within S1 a b k h i = Below_trans (seen_of a) a k (seen_below a) h
pick_within X a b k h i = Below_trans (merge_of b a) a k (merge_right b a) h
pick_within Z a b k h i = Below_trans (merge_of b a) a k (merge_right b a) h
pick_within M a b k h i = Below_trans (merge_of b a) a k (merge_right b a) h
pick_within Dash a b k h i = Below_trans (merge_of b a) a k (merge_right b a) h

module _ (clock was_reset is_reset was is active old : Bit) where
  abbrev reset : Bit
  reset = edge_of was_reset is_reset

  abbrev pub raced : Bit
  raced = raced_of clock reset was is active old

  abbrev counted : List Bit
  counted =
      unless_impossible clock (was ∷ is ∷ [])
      ++ (unless_impossible reset (active ∷ []) ++ unless_certain (or_of clock reset) (old ∷ []))

  below_both : (clock ≡ S0 → ⊥) → (b : Bit) → In b (was ∷ is ∷ []) → Below raced b
  below_both h b i =
      common_below counted b (In-left b (unless_impossible clock (was ∷ is ∷ [])) (unless_impossible reset (active ∷ []) ++ unless_certain (or_of clock reset) (old ∷ [])) (possible_in clock (was ∷ is ∷ []) b h i))

  below_active : (reset ≡ S0 → ⊥) → Below raced active
  below_active h =
      common_below counted active (In-right active (unless_impossible clock (was ∷ is ∷ [])) (unless_impossible reset (active ∷ []) ++ unless_certain (or_of clock reset) (old ∷ []))
      (In-left active (unless_impossible reset (active ∷ [])) (unless_certain (or_of clock reset) (old ∷ [])) (possible_in reset (active ∷ []) active h (inl refl))))

  below_old : (or_of clock reset ≡ S1 → ⊥) → Below raced old
  below_old h =
      common_below counted old (In-right old (unless_impossible clock (was ∷ is ∷ [])) (unless_impossible reset (active ∷ []) ++ unless_certain (or_of clock reset) (old ∷ []))
      (In-right old (unless_impossible reset (active ∷ [])) (unless_certain (or_of clock reset) (old ∷ [])) (uncertain_in (or_of clock reset) (old ∷ []) old h (inl refl))))

  below_data : (d : Bit) → Below (merge_of was is) d → (clock ≡ S0 → ⊥) → Below raced d
  below_data d h i =
      Below_trans raced (merge_of was is) d (merge_greatest was is raced (below_both i was (inl refl)) (below_both i is (inr (inl refl)))) h

  -- a bit that the reset sets: the value with the reset active is the constant, and so is the old value where it was active
  pub race_set : (set d : Bit) → Below active set → (was_reset ≡ S1 → Below old set) → ((is_reset ≡ S0 → ⊥) → Below is set) → ((is_reset ≡ S1 → ⊥) → Below (merge_of was is) d) → Below raced (pick_of is_reset set (pick_of clock d old))
  race_set set d act kept opened given =
      pick_above raced is_reset set (pick_of clock d old) to_set
      (λ h. pick_above raced clock d old (λ i. below_data d (given h) i) (λ i. below_old (λ e. h (edge_certain was_reset is_reset (either_certain clock reset i e)))))
    where
      to_set : (is_reset ≡ S0 → ⊥) → Below raced set
      to_set h = by (zero_or clock) (zero_or reset)
        where
          neither : clock ≡ S0 → reset ≡ S0 → or_of clock reset ≡ S1 → ⊥
          neither e f g = absurd (let k : or_of clock reset ≡ S0 = λ i. or_of (e i) (f i) in cc)

          by : (clock ≡ S0) ⊎ (clock ≡ S0 → ⊥) → (reset ≡ S0) ⊎ (reset ≡ S0 → ⊥) → Below raced set
          by (inr i) o = Below_trans raced is set (below_both i is (inr (inl refl))) (opened h)
          by (inl e) (inr i) = Below_trans raced active set (below_active i) act
          by (inl e) (inl f) = Below_trans raced old set (below_old (neither e f)) (kept (edge_impossible was_reset is_reset h f))

  -- a bit that the reset leaves
  pub race_held : (d : Bit) → Below active old → Below (merge_of was is) d → Below raced (pick_of clock d old)
  race_held d act given =
      pick_above raced clock d old (λ i. below_data d given i) (λ i. by i (one_or (or_of clock reset)))
    where
      certain_apart : (e : Bit) → e ≡ S1 → e ≡ S0 → ⊥
      certain_apart e f g = absurd (cc)

      by : (clock ≡ S1 → ⊥) → (or_of clock reset ≡ S1) ⊎ (or_of clock reset ≡ S1 → ⊥) → Below raced old
      by i (inr h) = below_old h
      by i (inl e) = Below_trans raced active old (below_active (certain_apart reset (either_certain clock reset i e))) act

-- where the clock's edge takes the value with the reset as it was, and the reset as it is acts on that
module _ (clock is_reset was active old : Bit) where
  -- what the clock makes of the bit
  abbrev clocked : Bit
  clocked = pick_of clock was old

  abbrev pub released : Bit
  released = pick_of is_reset active clocked

  clocked_below : (d : Bit) → Below was d → Below clocked (pick_of clock d old)
  clocked_below d given =
      pick_kept Below below clock clock was d old old (Below_refl clock) given (Below_refl old)

  -- a bit that the reset sets: so is the value with the reset as it was, where that was not inactive
  pub released_set : (was_reset set d : Bit) → Below active set → ((was_reset ≡ S0 → ⊥) → Below was set) → ((was_reset ≡ S1 → ⊥) → Below was d) → Below released (pick_of is_reset set (pick_of clock (pick_of was_reset set d) old))
  released_set was_reset set d act opened given =
      pick_kept Below below is_reset is_reset active set clocked (pick_of clock (pick_of was_reset set d) old) (Below_refl is_reset) act
      (clocked_below (pick_of was_reset set d) (pick_above was was_reset set d opened given))

  -- a bit that the reset leaves: with the reset active it has what the clock makes of it
  pub released_held : (d : Bit) → Below active clocked → Below was d → Below released (pick_of clock d old)
  released_held d act given =
      Below_trans released clocked (pick_of clock d old) (pick_within is_reset active clocked clocked act (Below_refl clocked)) (clocked_below d given)
