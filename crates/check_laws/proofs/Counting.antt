-- What no bit with two drivers says of the list of drivers.
use Rattle.std.proofs.Common.{◌≡◌, ℕ, zero, suc, ◌+◌, ◌<◌, ◌≤◌, Bool, true, false, cond, List, [], ◌∷◌, ◌++◌, Some, ◌⊎◌, inl, inr, refl, sym, ◌∙◌, ap, subst, arith}
use Rattle.std.specs.Prelude.{◌==◌, map, slice_get, flat_map, if◌then◌else◌}
use Rattle.std.specs.List.{range_with_len}
use Rattle.std.proofs.lemmas.List.Sums.{sum_by-cons, sum_by-append}
use Rattle.std.proofs.lemmas.Bool.{and_from, and_parts, ltb-false}
use Rattle.std.proofs.lemmas.Bool.Decides.{Decides-eqb}
use Rattle.rtl_sig.specs.declared.sig.WireBit.{WireBit}
use Rattle.rtl_ir.specs.declared.wire.Wire.{Wire}
use Rattle.rtl_ir.specs.Drivers.{Drive, drive_count}
use Rattle.rtl_ir.specs.Fault.{Fault, TwoDrivers, fault_if}
use Rattle.rtl_ir.specs.Faults.Bits.{has_two, faults_of_two, bit_faults, bits_faults}
use Rattle.rtl_ir.specs.Signals.{same_bit}
use Rattle.net_model.specs.Lists.{In, Distinct}
use Rattle.net_model.proofs.Members.{apart_from}

-- nothing behind nothing
pub record AreNone {A : Type 0} (xs ys : List A) : Type 0 where
  pub first : xs ≡ []
  pub second : ys ≡ []

pub none_parts : {A : Type 0} (xs ys : List A) → xs ++ ys ≡ [] → AreNone xs ys
none_parts [] ys e = record { first = refl; second = e }
none_parts (x ∷ xs) ys e = absurd (cc)

pub none_each : {A B : Type 0} (f : A → List B) (xs : List A) → flat_map f xs ≡ [] → (x : A) → In x xs → f x ≡ []
none_each f [] e x i = absurd i
none_each f (y ∷ ys) e x (inl p) = ap f p ∙ (none_parts (f y) (flat_map f ys) e).first
none_each f (y ∷ ys) e x (inr i) = none_each f ys (none_parts (f y) (flat_map f ys) e).second x i

-- the bits of drivers
abbrev pub driven : List Drive → List WireBit
driven drives = map (λ (d : Drive). d.bit) drives

pub range_in : (from n k : ℕ) → k < n → In (from + k) (range_with_len from n)
range_in from zero k h = absurd (omega arith)
range_in from (suc n) zero h = inl (omega arith)
range_in from (suc n) (suc k) h =
    let e : (from + 1) + k ≡ from + suc k = omega arith in
    let l : k < n = omega arith in
    inr (subst (λ z. In z (range_with_len (from + 1) n)) e (range_in (from + 1) n k l))

-- where bits have no fault, none of them has two drivers
pub no_two : (id : List ℕ) (drives : List Drive) (first : ℕ) (wires : List Wire) → bits_faults id drives first wires ≡ [] → (i at : ℕ) (w : Wire) → slice_get wires i ≡ Some w → at < w.width → has_two drives (record { wire = first + i; at = at }) ≡ false
no_two id drives first [] e i at w s l = absurd (cc)
no_two id drives first (v ∷ vs) e zero at w s l =
    let same : v ≡ w = cc in
    let inside : In (0 + at) (range_with_len 0 v.width) = range_in 0 v.width at (subst (λ z. at < z.width) (sym same) l) in
    let plain : 0 + at ≡ at = omega arith in
    let here : bit_faults id drives first v at ≡ [] = none_each (bit_faults id drives first v) (range_with_len 0 v.width) (none_parts (flat_map (bit_faults id drives first v) (range_with_len 0 v.width)) (bits_faults id drives (first + 1) vs) e).first at (subst (λ z. In z (range_with_len 0 v.width)) plain inside) in
    let start : first ≡ first + 0 = omega arith in
    subst (λ z. has_two drives (record { wire = z; at = at }) ≡ false) start (by (has_two drives (record { wire = first; at = at })) here)
  where
    more : (xs : List Fault) (x : Fault) → xs ++ x ∷ [] ≡ [] → ⊥
    more [] x f = absurd (cc)
    more (y ∷ ys) x f = absurd (cc)

    by : (t : Bool) → (if t then faults_of_two id v at else []) ≡ [] → t ≡ false
    by false f = refl
    by true f = absurd (more (fault_if _ _) (TwoDrivers id v.name at) f)
no_two id drives first (v ∷ vs) e (suc i) at w s l =
    let next : (first + 1) + i ≡ first + suc i = omega arith in
    subst (λ z. has_two drives (record { wire = z; at = at }) ≡ false) next (no_two id drives (first + 1) vs (none_parts (flat_map (bit_faults id drives first v) (range_with_len 0 v.width)) (bits_faults id drives (first + 1) vs) e).second i at w s l)

-- how often a driver drives a bit
abbrev hit : WireBit → Drive → ℕ
hit b d = cond (same_bit d.bit b) 1 0

count_more : (d : Drive) (ds : List Drive) (b : WireBit) → drive_count (d ∷ ds) b ≡ hit b d + drive_count ds b
count_more d ds b = sum_by-cons (hit b) d ds

pub same_self : (b : WireBit) → same_bit b b ≡ true
same_self b = and_from _ _ ((Decides-eqb b.wire b.wire).1 refl) ((Decides-eqb b.at b.at).1 refl)

hit_self : (b : WireBit) (d : Drive) → b ≡ d.bit → hit b d ≡ 1
hit_self b d e = ap (λ z. cond (same_bit d.bit z) 1 0) e ∙ ap (λ t. cond t 1 0) (same_self d.bit)

counted_in : (ds : List Drive) (b : WireBit) → In b (driven ds) → 1 ≤ drive_count ds b
counted_in [] b i = absurd i
counted_in (d ∷ ds) b (inl e) =
    let c = count_more d ds b in
    let h = hit_self b d e in
    omega (arith, c, h)
counted_in (d ∷ ds) b (inr i) =
    let c = count_more d ds b in
    let h = counted_in ds b i in
    omega (arith, c, h)

-- a bit is counted, and stands there, or neither
pub counted_or : (ds : List Drive) (b : WireBit) → (drive_count ds b ≡ 0) ⊎ In b (driven ds)
counted_or [] b = inl refl
counted_or (d ∷ ds) b = by (same_bit d.bit b) refl (counted_or ds b)
  where
    by : (t : Bool) → same_bit d.bit b ≡ t → (drive_count ds b ≡ 0) ⊎ In b (driven ds) → (drive_count (d ∷ ds) b ≡ 0) ⊎ In b (driven (d ∷ ds))
    by true e h =
        let k = and_parts (d.bit.wire == b.wire) (d.bit.at == b.at) e in
        let wire : d.bit.wire ≡ b.wire = (Decides-eqb d.bit.wire b.wire).0 k.0 in
        let at : d.bit.at ≡ b.at = (Decides-eqb d.bit.at b.at).0 k.1 in
        inr (inl (λ i. record { wire = sym wire i; at = sym at i }))
    by false e (inl h) =
        let none : hit b d ≡ 0 = ap (λ t. cond t 1 0) e in inl (omega (arith, count_more d ds b, none, h))
    by false e (inr h) = inr (inr h)

counted_once : (ds : List Drive) → ((b : WireBit) → In b (driven ds) → drive_count ds b ≤ 1) → Distinct (driven ds)
counted_once [] h = tt
counted_once (d ∷ ds) h = (
  apart_from d.bit (driven ds) (λ b i e.
      let c = count_more d ds b in
      let s = hit_self b d (sym e) in
      let k = counted_in ds b i in
      let l = h b (inr i) in
      absurd (omega (arith, c, s, k, l))),
  counted_once ds (λ b i.
      let c = count_more d ds b in
      let l = h b (inr i) in
      omega (arith, c, l)),
)

-- of drivers behind others, none drives a bit of another one, where each of their bits has but one
pub apart_drives : (ds es : List Drive) → ((b : WireBit) → In b (driven es) → has_two (ds ++ es) b ≡ false) → Distinct (driven es) × ((b : WireBit) → In b (driven ds) → In b (driven es) → ⊥)
apart_drives ds es h = (
  counted_once es (λ b i. let k = one b i in let s = split b in omega (arith, k, s)),
  λ b i j.
      let k = one b j in
      let s = split b in
      let l = counted_in ds b i in
      let r = counted_in es b j in
      absurd (omega (arith, k, s, l, r)),
)
  where
    split : (b : WireBit) → drive_count (ds ++ es) b ≡ drive_count ds b + drive_count es b
    split b = sum_by-append (hit b) ds es

    one : (b : WireBit) → In b (driven es) → drive_count (ds ++ es) b ≤ 1
    one b i = ltb-false 1 (drive_count (ds ++ es) b) (h b i)
