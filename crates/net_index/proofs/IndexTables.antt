-- Values of bits in tables.
use Rattle.std.proofs.Common.{◌≡◌, ℕ, zero, suc, ◌<◌, Bool, true, false, cond, List, [], ◌∷◌, length, get_or, set, replicate, Option, Some, None, nat_eq, ◌&&◌, refl, ◌∙◌, ap, subst, arith}
use Rattle.std.proofs.lemmas.List.{get_or-set_same, get_or-set_other}
use Rattle.std.proofs.lemmas.Bool.{eq-eqb, eqb-true}
use Rattle.std.specs.Map.{lookup}
use Rattle.rtl_sig.specs.declared.sig.WireBit.{WireBit}
use Rattle.rtl_ir.specs.Signals.{same_bit}
use Rattle.net_index.specs.IndexTable.{ByBit, value_at}
use Rattle.net_index.specs.Numbering.{number_of}
use Rattle.net_index.proofs.Numbers.{number-inj}

-- one bit is the same as itself, and no other is
pub same_bit-refl : (b : WireBit) → same_bit b b ≡ true
same_bit-refl b = rw (eq-eqb b.wire b.wire refl, eq-eqb b.at b.at refl) refl

both_true : (x y : Bool) → (x && y) ≡ true → (x ≡ true) × (y ≡ true)
both_true true true e = (refl, refl)
both_true true false e = absurd (cc)
both_true false y e = absurd (cc)

pub same_bit-true : (b c : WireBit) → same_bit b c ≡ true → b ≡ c
same_bit-true b c e =
    let p = both_true (nat_eq b.wire c.wire) (nat_eq b.at c.at) e in
    let wire = eqb-true b.wire c.wire p.0 in
    let at = eqb-true b.at c.at p.1 in
    (λ i. record { wire = wire i; at = at i })

-- a list of no values has none
nothing_at : {T : Type 0} (n k : ℕ) → get_or {A = Option T} (replicate n None) k None ≡ None
nothing_at zero k = refl
nothing_at (suc n) zero = refl
nothing_at (suc n) (suc k) = nothing_at n k

nothing_beside : {K T : Type 0} (test : K → Bool) (entries : List (K × T)) → length entries ≡ 0 → lookup test entries ≡ None
nothing_beside test [] e = refl
nothing_beside test (x ∷ xs) e = absurd (omega arith)

-- a new table has no values
pub none_made : {T : Type 0} (inside : List (Option T)) (outside : ByBit T) (n : ℕ) → inside ≡ replicate n None → length outside.entries ≡ 0 → (b : WireBit) (o : Option ℕ)
    → value_at inside outside b o ≡ None
none_made inside outside n e empty b (Some k) = rw e (nothing_at n k)
none_made inside outside n e empty b None = nothing_beside (same_bit b) outside.entries empty

-- no other bit has the number
not_same : (bit b : WireBit) → (bit ≡ b → ⊥) → same_bit bit b ≡ false
not_same bit b h = by (same_bit bit b) refl
  where
    by : (t : Bool) → same_bit bit b ≡ t → t ≡ false
    by true e = absurd (h (same_bit-true bit b e))
    by false e = refl

-- a value that is put at the number of a bit is the bit's, and others keep theirs
pub put_inside : {T : Type 0} (widths : List ℕ) (inside : List (Option T)) (outside : ByBit T) (bit : WireBit) (number : ℕ) (value : T)
    → number_of widths bit ≡ Some number → number < length inside
    → (b : WireBit) → value_at (set inside number (Some value)) outside b (number_of widths b) ≡ cond (same_bit bit b) (Some value) (value_at inside outside b (number_of widths b))
put_inside widths inside outside bit number value own within b = by (number_of widths b) refl
  where
    by : (o : Option ℕ) → number_of widths b ≡ o → value_at (set inside number (Some value)) outside b o ≡ cond (same_bit bit b) (Some value) (value_at inside outside b o)
    by None e = rw (not_same bit b (λ same. absurd (let f : number_of widths b ≡ Some number = subst (λ c. number_of widths c ≡ Some number) same own in cc))) refl
    by (Some k) e = at (same_bit bit b) refl
      where
        at : (t : Bool) → same_bit bit b ≡ t → get_or (set inside number (Some value)) k None ≡ cond t (Some value) (get_or inside k None)
        at true h =
            let same = same_bit-true bit b h in
            let f : number_of widths b ≡ Some number = subst (λ c. number_of widths c ≡ Some number) same own in
            let n : k ≡ number = cc in
            rw n (get_or-set_same inside number (Some value) None within)
        at false h =
            get_or-set_other inside number k (Some value) None (λ n.
            let f : number_of widths b ≡ Some number = e ∙ ap Some n in
            let same = number-inj widths bit b number own f in
            absurd (let r : same_bit bit b ≡ true = subst (λ c. same_bit bit c ≡ true) same (same_bit-refl bit) in cc))
