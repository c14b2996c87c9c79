-- Bits that are counted, and what faults say of it: a bit of a wire without fault is driven once at most.
use Rattle.std.proofs.Common.{◌≡◌, ℕ, zero, suc, ◌+◌, ◌<◌, ◌≤◌, Bool, true, false, cond, if◌then◌else◌, List, [], ◌∷◌, ◌++◌, Some, ◌⊎◌, inl, inr, ⊎_elim, refl, sym, ◌∙◌, ap, subst, arith, None, Option}
use Rattle.std.specs.Prelude.{flat_map, nat_lt, slice_get, ◌==◌, ◌&&◌, find, option_map}
use Rattle.std.specs.List.{range_with_len}
use Rattle.std.proofs.lemmas.Bool.{ltb-false, and_parts}
use Rattle.rtl_sig.specs.declared.sig.WireBit.{WireBit}
use Rattle.rtl_ir.specs.Drivers.{Drive, drive_count, is_input, Source, driver_in}
use Rattle.rtl_ir.specs.Fault.{Fault, BadPort, TwoDrivers, fault_if, spot}
use Rattle.rtl_ir.specs.Faults.Bits.{bit_faults, bits_faults, faults_of_two}
use Rattle.rtl_ir.specs.Signals.{same_bit}
use Rattle.rtl_ir.specs.declared.wire.Wire.{Wire}
use Rattle.net_model.specs.Lists.{In, Apart, Distinct}
use Rattle.net_model.proofs.Members.{apart_at}
use Rattle.pass_laws.proofs.Counting.{count, count_more}
use Rattle.pass_laws.proofs.Faultless.{none_left, none_right}
use Rattle.std.proofs.lemmas.Bool.Decides.{Decides-eqb}
use Rattle.net_model.specs.Settle.{IsSame}
use Rattle.pass_laws.proofs.Finding.{found_there}

-- the test tells bits apart
pub bit_same : IsSame same_bit
bit_same a b = (
  λ e.
      let k = and_parts (a.wire == b.wire) (a.at == b.at) e in
      let wire : a.wire ≡ b.wire = (Decides-eqb a.wire b.wire).0 k.0 in
      let at : a.at ≡ b.at = (Decides-eqb a.at b.at).0 k.1 in
      λ i. record { wire = wire i; at = at i },
  λ e. subst (λ (c : WireBit). same_bit a c ≡ true) e (itself a),
)
  where
    itself : (a : WireBit) → same_bit a a ≡ true
    itself a = λ i. (Decides-eqb a.wire a.wire).1 refl i && (Decides-eqb a.at a.at).1 refl i

pub same_bit-true : (a b : WireBit) → same_bit a b ≡ true → a ≡ b
same_bit-true a b e = (bit_same a b).0 e

pub same_bit-refl : (a : WireBit) → same_bit a a ≡ true
same_bit-refl a = (bit_same a a).1 refl

pub count_in : (b : WireBit) (xs : List WireBit) → In b xs → 1 ≤ count b xs
count_in b [] i = absurd i
count_in b (x ∷ xs) (inl e) =
    let one : ◌≡◌ {A = ℕ} (cond (same_bit x b) 1 0) 1 = ap {B = ℕ} (λ t. cond t 1 0) (ap (λ z. same_bit z b) (sym e) ∙ (bit_same b b).1 refl) in
    omega (arith, one)
count_in b (x ∷ xs) (inr i) = omega (arith, count_in b xs i)

pub count_or : (b : WireBit) (xs : List WireBit) → (count b xs ≡ 0) ⊎ In b xs
count_or b [] = inl refl
count_or b (x ∷ xs) = by (same_bit x b) refl (count_or b xs)
  where
    by : (t : Bool) → same_bit x b ≡ t → (count b xs ≡ 0) ⊎ In b xs → (cond t 1 0 + count b xs ≡ 0) ⊎ In b (x ∷ xs)
    by true e h = inr (inl (sym ((bit_same x b).0 e)))
    by false e (inl h) = inl (omega (arith, h))
    by false e (inr h) = inr (inr h)

count_apart : (b : WireBit) (xs : List WireBit) → Apart b xs → count b xs ≡ 0
count_apart b xs h = ⊎_elim (λ e. e) (λ i. absurd (apart_at b xs h b i refl)) (count_or b xs)

pub count_distinct : (b : WireBit) (xs : List WireBit) → Distinct xs → count b xs ≤ 1
count_distinct b [] h = omega arith
count_distinct b (x ∷ xs) h = by (same_bit x b) refl (count_distinct b xs h.1)
  where
    by : (t : Bool) → same_bit x b ≡ t → count b xs ≤ 1 → cond t 1 0 + count b xs ≤ 1
    by true e k = let none : count b xs ≡ 0 = count_apart b xs (subst (λ z. Apart z xs) ((bit_same x b).0 e) h.0) in omega (arith, none)
    by false e k = omega (arith, k)

-- a bit that stands in two parts is counted twice
pub twice : (b : WireBit) (xs ys : List WireBit) → count b (xs ++ ys) ≤ 1 → In b xs → In b ys → ⊥
twice b xs ys few i j = absurd (omega (arith, few, count_more b xs ys, count_in b xs i, count_in b ys j))

not_two : (id : List ℕ) (w : Wire) (at : ℕ) → faults_of_two id w at ≡ [] → ⊥
not_two id w at e = more (fault_if (is_input w.role) (BadPort (spot id w.name))) (TwoDrivers id w.name at) e
  where
    more : (xs : List Fault) (x : Fault) → xs ++ x ∷ [] ≡ [] → ⊥
    more [] x f = absurd (cc)
    more (y ∷ ys) x f = absurd (cc)

module _ (id : List ℕ) (ds : List Drive) where
  once_here : (wire : ℕ) (w : Wire) (at : ℕ) → bit_faults id ds wire w at ≡ [] → drive_count ds (record { wire = wire; at = at }) ≤ 1
  once_here wire w at e = ltb-false 1 (drive_count ds (record { wire = wire; at = at })) (one (nat_lt 1 (drive_count ds (record { wire = wire; at = at }))) e)
    where
      one : (t : Bool) → (if t then faults_of_two id w at else []) ≡ [] → t ≡ false
      one false f = refl
      one true f = absurd (not_two id w at f)

  once_at : (wire : ℕ) (w : Wire) (a n k : ℕ) → k < n → flat_map (bit_faults id ds wire w) (range_with_len a n) ≡ [] → drive_count ds (record { wire = wire; at = a + k }) ≤ 1
  once_at wire w a zero k h e = absurd (omega arith)
  once_at wire w a (suc n) zero h e =
      let z : a ≡ a + 0 = omega arith in
      subst (λ at. drive_count ds (record { wire = wire; at = at }) ≤ 1) z (once_here wire w a (none_left (bit_faults id ds wire w a) (flat_map (bit_faults id ds wire w) (range_with_len (a + 1) n)) e))
  once_at wire w a (suc n) (suc k) h e =
      let z : a + 1 + k ≡ a + suc k = omega arith in
      let lt : k < n = omega arith in
      subst (λ at. drive_count ds (record { wire = wire; at = at }) ≤ 1) z (once_at wire w (a + 1) n k lt (none_right (bit_faults id ds wire w a) (flat_map (bit_faults id ds wire w) (range_with_len (a + 1) n)) e))

  pub once_in : (first : ℕ) (ws : List Wire) (place : ℕ) (w : Wire) → bits_faults id ds first ws ≡ [] → slice_get ws place ≡ Some w → (at : ℕ) → at < w.width → drive_count ds (record { wire = first + place; at = at }) ≤ 1
  once_in first [] place w e there at h = absurd (cc)
  once_in first (v ∷ ws) zero w e there at h =
      let same : v ≡ w = cc in
      let z : first ≡ first + 0 = omega arith in
      let y : 0 + at ≡ at = omega arith in
      let lt : at < v.width = subst (λ (u : Wire). at < u.width) (sym same) h in
      subst (λ k. drive_count ds (record { wire = k; at = at }) ≤ 1) z (subst (λ k. drive_count ds (record { wire = first; at = k }) ≤ 1) y (once_at first v 0 v.width at lt (none_left (flat_map (bit_faults id ds first v) (range_with_len 0 v.width)) (bits_faults id ds (first + 1) ws) e)))
  once_in first (v ∷ ws) (suc place) w e there at h =
      let z : first + 1 + place ≡ first + suc place = omega arith in
      subst (λ k. drive_count ds (record { wire = k; at = at }) ≤ 1) z (once_in (first + 1) ws place w (none_right (flat_map (bit_faults id ds first v) (range_with_len 0 v.width)) (bits_faults id ds (first + 1) ws) e) there at h)

-- what drives a bit first is one of the drives
pub driver_found : (ds : List Drive) (b : WireBit) (s : Source) → driver_in ds b ≡ Some s → In (record { bit = b; source = s }) ds
driver_found ds b s e = by (find (λ (d : Drive). same_bit d.bit b) ds) refl e
  where
    by : (o : Option Drive) → find (λ (d : Drive). same_bit d.bit b) ds ≡ o → option_map (λ (d : Drive). d.source) o ≡ Some s → In (record { bit = b; source = s }) ds
    by None f g = absurd (cc)
    by (Some d) f g =
        let k = found_there (λ (d : Drive). same_bit d.bit b) ds d f in
        let source : d.source ≡ s = cc in
        let bit : d.bit ≡ b = (bit_same d.bit b).0 k.1 in
        subst (λ (z : Drive). In z ds) (λ i. record { bit = bit i; source = source i }) k.0
