-- No bit has two drivers where those that stand for it have none.
use Rattle.std.proofs.Common.{◌≡◌, ℕ, ◌+◌, ◌<◌, ◌≤◌, Bool, true, false, cond, List, [], ◌∷◌, ◌++◌, length, refl, sym, ◌∙◌, ap, subst, arith}
use Rattle.std.specs.Prelude.{flat_map, nat_lt}
use Rattle.std.specs.List.{range_with_len}
use Rattle.std.proofs.lemmas.Bool.{le-ltb, ltb-false}
use Rattle.rtl_ir.specs.declared.wire.Wire.{Wire}
use Rattle.rtl_ir.specs.Drivers.{Drive, drive_count, is_input}
use Rattle.rtl_ir.specs.Fault.{BadPort, Fault, TwoDrivers, fault_if, spot}
use Rattle.rtl_ir.specs.Faults.Bits.{bit_faults, bits_faults, faults_of_two}
use Rattle.pass_laws.proofs.Faultless.{none_left, none_right}
use Rattle.flat_pass.proofs.BitsOnce.{bit_at, less_less}
use Rattle.flat_pass.proofs.Partners.{Paired}

abbrev pub SameWidth : Wire → Wire → Type 0
SameWidth w v = v.width ≡ w.width

module _ (id id' : List ℕ) (ds es : List Drive) (shift bound : ℕ) (fewer : (wire at : ℕ) → wire < bound → drive_count es (bit_at (shift + wire) at) ≤ drive_count ds (bit_at wire at)) where
  one_more : (xs : List Fault) (x : Fault) → xs ++ x ∷ [] ≡ [] → ⊥
  one_more [] x e = absurd (cc)
  one_more (y ∷ xs) x e = absurd (cc)

  few : (w : Wire) (at k : ℕ) → cond (nat_lt 1 k) (faults_of_two id w at) [] ≡ [] → k ≤ 1
  few w at k e = ltb-false 1 k (by (nat_lt 1 k) e)
    where
      by : (t : Bool) → cond t (faults_of_two id w at) [] ≡ [] → t ≡ false
      by false f = refl
      by true f = absurd (one_more (fault_if (is_input w.role) (BadPort (spot id w.name))) (TwoDrivers id w.name at) f)

  bit_fine : (wire : ℕ) → wire < bound → (w v : Wire) (at : ℕ) → bit_faults id ds wire w at ≡ [] → bit_faults id' es (shift + wire) v at ≡ []
  bit_fine wire low w v at e =
      let old = few w at (drive_count ds (bit_at wire at)) e in
      let less = fewer wire at low in
      let new : drive_count es (bit_at (shift + wire) at) ≤ 1 = less_less less old in
      ap (λ t. cond t (faults_of_two id' v at) []) (le-ltb 1 (drive_count es (bit_at (shift + wire) at)) new)

  bits_fine : (wire : ℕ) → wire < bound → (w v : Wire) (ats : List ℕ) → flat_map (bit_faults id ds wire w) ats ≡ [] → flat_map (bit_faults id' es (shift + wire) v) ats ≡ []
  bits_fine wire low w v [] e = refl
  bits_fine wire low w v (at ∷ ats) e =
      let a = bit_fine wire low w v at (none_left (bit_faults id ds wire w at) (flat_map (bit_faults id ds wire w) ats) e) in
      let b = bits_fine wire low w v ats (none_right (bit_faults id ds wire w at) (flat_map (bit_faults id ds wire w) ats) e) in
      λ i. a i ++ b i

  pub wires_fine : (n : ℕ) (ws vs : List Wire) → Paired SameWidth ws vs → n + length ws ≤ bound → bits_faults id ds n ws ≡ [] → bits_faults id' es (shift + n) vs ≡ []
  wires_fine n [] [] h l e = refl
  wires_fine n (w ∷ ws) (v ∷ vs) h l e =
      let old = flat_map (bit_faults id ds n w) (range_with_len 0 w.width) in
      let here = bits_fine n (omega (arith, l)) w v (range_with_len 0 w.width) (none_left old (bits_faults id ds (n + 1) ws) e) in
      let mine : flat_map (bit_faults id' es (shift + n) v) (range_with_len 0 v.width) ≡ [] = ap (λ z. flat_map (bit_faults id' es (shift + n) v) (range_with_len 0 z)) h.0 ∙ here in
      let rest = wires_fine (n + 1) ws vs h.1 (omega (arith, l)) (none_right old (bits_faults id ds (n + 1) ws) e) in
      let next : shift + (n + 1) ≡ shift + n + 1 = omega arith in
      λ i. mine i ++ (ap (λ z. bits_faults id' es z vs) (sym next) ∙ rest) i
  wires_fine n [] (v ∷ vs) h l e = absurd h
  wires_fine n (w ∷ ws) [] h l e = absurd h

pub both_fine : (id : List ℕ) (es : List Drive) (n : ℕ) (ws vs : List Wire) → bits_faults id es n ws ≡ [] → bits_faults id es (n + length ws) vs ≡ [] → bits_faults id es n (ws ++ vs) ≡ []
both_fine id es n [] vs a b = let e : n + 0 ≡ n = omega arith in subst (λ z. bits_faults id es z vs ≡ []) e b
both_fine id es n (w ∷ ws) vs a b =
    let here = none_left (flat_map (bit_faults id es n w) (range_with_len 0 w.width)) (bits_faults id es (n + 1) ws) a in
    let next : n + length (w ∷ ws) ≡ n + 1 + length ws = omega arith in
    let rest = both_fine id es (n + 1) ws vs (none_right (flat_map (bit_faults id es n w) (range_with_len 0 w.width)) (bits_faults id es (n + 1) ws) a) (subst (λ z. bits_faults id es z vs ≡ []) next b) in
    λ i. here i ++ rest i

pub same_widths : (ws : List Wire) → Paired SameWidth ws ws
same_widths [] = tt
same_widths (w ∷ ws) = (refl, same_widths ws)
